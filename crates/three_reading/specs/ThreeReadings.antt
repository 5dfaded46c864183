-- What look tells of three phases, in 02's numbers; and the code's words for it.
use Rattle.std.specs.Prelude.{ℕ, Bool}
use Rattle.reading.specs.Readings.{phase_kind_number}
use Rattle.three_reading.specs.declared.ChannelReadings.{ChannelReadings}
use Rattle.three_reading.specs.declared.ThreeReadings.{ThreeReadings as ThreeReadingsInCode}

-- each channel's, the joint phase's number, and the joint events that stand
pub record ThreeReadings : Type 0 where
  pub a : ChannelReadings
  pub b : ChannelReadings
  pub c : ChannelReadings
  pub phase : ℕ
  pub dip : Bool
  pub swell : Bool
  pub interruption : Bool

abbrev pub three_readings_in : ThreeReadingsInCode → ThreeReadings
three_readings_in r = record {
  a = r.channels.a;
  b = r.channels.b;
  c = r.channels.c;
  phase = phase_kind_number r.phase;
  dip = r.dip;
  swell = r.swell;
  interruption = r.interruption;
}
