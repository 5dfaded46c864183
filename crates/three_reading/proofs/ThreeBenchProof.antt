-- The bench readings of three channels, computed.
use Rattle.std.specs.Prelude.{◌≡◌, refl, [], ◌∷◌}
use Rattle.reading.specs.Bench.{q}
use Rattle.reading.specs.Values.{root}
use Rattle.reading.specs.Changes.Signal.{unsettled, steady, changing}
use Rattle.three_reading.specs.Three.{joint_values}
use Rattle.three_reading.specs.JointChanges.{signals}
use Rattle.three_reading.specs.JointRecords.{joint_due, joint_events}
use Rattle.three_reading.specs.ThreeBench.{ThreeBenchReadings, events_of, change, falls_beside, dips_late, in_turns}

-- the long recordings, each in a declaration of its own
change-is-due : events_of change ≡ record { kind = 4; start = 151; duration = 7; first = 6400; second = 6400 } ∷ []
unfolding root
change-is-due = refl

change-is-kept :
    joint_events q (falls_beside 89 92 95)
    ≡ record { kind = 1; start = 1; duration = 105; first = 1424; second = 0 } ∷ record { kind = 4; start = 107; duration = 2; first = 8000; second = 6400 } ∷ []
change-is-kept = refl

change-is-kept-after-swell :
    joint_events q (falls_beside 111 108 95)
    ≡ record { kind = 2; start = 1; duration = 105; first = 1776; second = 0 } ∷ record { kind = 4; start = 107; duration = 2; first = 8000; second = 6400 } ∷ []
change-is-kept-after-swell = refl

change-is-dropped :
    joint_events q (falls_beside 89 92 89)
    ≡ record { kind = 1; start = 1; duration = 105; first = 1424; second = 0 } ∷ record { kind = 1; start = 107; duration = 1; first = 1424; second = 0 } ∷ []
change-is-dropped = refl

change-is-out-of-dip : joint_events q (falls_beside 89 100 100) ≡ record { kind = 1; start = 1; duration = 105; first = 1424; second = 0 } ∷ []
change-is-out-of-dip = refl

change-is-out-of-swell : joint_events q (falls_beside 111 100 100) ≡ record { kind = 2; start = 1; duration = 105; first = 1776; second = 0 } ∷ []
change-is-out-of-swell = refl

change-is-in-dip : joint_events q (falls_beside 89 91 95) ≡ []
change-is-in-dip = refl

change-is-in-swell : joint_events q (falls_beside 111 109 95) ≡ []
change-is-in-swell = refl

change-is-in-dip-of-two : joint_events q (falls_beside 89 91 89) ≡ []
change-is-in-dip-of-two = refl

change-is-before-dip : joint_due q (dips_late 99) ≡ record { kind = 4; start = 101; duration = 1; first = 12800; second = 6400 } ∷ []
change-is-before-dip = refl

change-is-until-dip : joint_due q (dips_late 100) ≡ []
change-is-until-dip = refl

never-are-together : signals q (joint_values q in_turns) ≡ record { own = record { a = changing 102; b = steady; c = steady }; joint = unsettled }
unfolding root
never-are-together = refl

pub bench-holds : ThreeBenchReadings
unfolding root
bench-holds = record {
  apart-fed = refl;
  apart-with-one = refl;
  apart-with-none = refl;
  apart-looked = refl;
  two-refused = refl;
  two-not-taken = refl;
  four-refused = refl;
  four-not-taken = refl;
  none-fed = refl;
  one-dip = refl;
  interruption-in-dip = refl;
  dip-levels = refl;
  swell-levels = refl;
  interruption-levels = refl;
  change-due = change-is-due;
  change-kept = change-is-kept;
  change-kept-after-swell = change-is-kept-after-swell;
  change-dropped = change-is-dropped;
  change-out-of-dip = change-is-out-of-dip;
  change-out-of-swell = change-is-out-of-swell;
  change-in-dip = change-is-in-dip;
  change-in-swell = change-is-in-swell;
  change-in-dip-of-two = change-is-in-dip-of-two;
  change-before-dip = change-is-before-dip;
  change-until-dip = change-is-until-dip;
  never-together = never-are-together;
  dip-marks = refl;
  dip-marks-others = refl;
}
