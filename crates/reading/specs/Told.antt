-- What feed tells, in 01's numbers; and the code's words for it.
use Rattle.std.specs.Prelude.{ℕ, Option, Some, None}
use Rattle.reading.specs.declared.Stop.{Stop}
use Rattle.reading.specs.declared.Stop.TheVariants.{Room, End}
use Rattle.reading.specs.declared.Told.{Told as ToldInCode}

-- the samples taken, the records written, and why no more: 0 all taken, 2 the next sample would pass V's end, 1 its records would not fit
pub record Told : Type 0 where
  pub taken : ℕ
  pub written : ℕ
  pub why : ℕ

abbrev pub stop_number : Stop → ℕ
stop_number Room = 1
stop_number End = 2

abbrev pub why_number : Option Stop → ℕ
why_number None = 0
why_number (Some stop) = stop_number stop

abbrev pub told_in : ToldInCode → Told
told_in t = record { taken = t.taken; written = t.written; why = why_number t.why }
