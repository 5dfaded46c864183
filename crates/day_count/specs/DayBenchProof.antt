-- The bench readings of the count per day, computed.
use Rattle.std.specs.Prelude.{refl}
use Rattle.settings.specs.Settings.{settings_refusal, start_refusal, settings_read}
use Rattle.day_count.specs.Days.{day_count, list_refusal, day_counted}
use Rattle.day_count.specs.DayBench.{DayReadings}

pub bench-holds : DayReadings
unfolding settings_refusal start_refusal settings_read day_count list_refusal day_counted
bench-holds = record {
  limits = refl;
  limits-60 = refl;
  not-rounded = refl;
  not-rounded-60 = refl;
  midnight = refl;
  midnight-60 = refl;
  midnight-with-z = refl;
  midnight-with-z-60 = refl;
  last-start = refl;
  far-days = refl;
  caps = refl;
  one-over = refl;
  passed_over = refl;
  not_tested = refl;
  z-refused = refl;
  bytes-refused = refl;
  kinds-refused = refl;
  kinds-accepted = refl;
  in_order = refl;
}
