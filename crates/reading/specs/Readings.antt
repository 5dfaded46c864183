-- What look tells, in 01's numbers; and the code's words for it.
use Rattle.std.specs.Prelude.{ℕ, Bool}
use Rattle.reading.specs.declared.PhaseKind.{PhaseKind}
use Rattle.reading.specs.declared.PhaseKind.TheVariants.{Filling, Unsettled, Steady, Changing}
use Rattle.reading.specs.declared.Readings.{Readings as ReadingsInCode}

-- the count of values, the newest one and the sum of the window, 0 where there is none; the phase's number; the events that stand
pub record Readings : Type 0 where
  pub count : ℕ
  pub value : ℕ
  pub sum : ℕ
  pub phase : ℕ
  pub dip : Bool
  pub swell : Bool
  pub interruption : Bool

abbrev pub phase_kind_number : PhaseKind → ℕ
phase_kind_number Filling = 0
phase_kind_number Unsettled = 1
phase_kind_number Steady = 2
phase_kind_number Changing = 3

abbrev pub readings_in : ReadingsInCode → Readings
readings_in r = record {
  count = r.count;
  value = r.value;
  sum = r.sum;
  phase = phase_kind_number r.phase;
  dip = r.dip;
  swell = r.swell;
  interruption = r.interruption;
}
