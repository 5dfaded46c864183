-- 02, N2, the calls: what each is given and what it gives back, the lent bytes as it leaves them included, over whatever a three-phase logger is.
use Rattle.std.specs.Prelude.{List, ℕ, ℤ}
use Rattle.numbers.specs.Answers.{Answered}
use Rattle.reading.specs.Told.{Told}
use Rattle.three_reading.specs.ThreeReadings.{ThreeReadings}

-- what a feed leaves: who was fed, what it tells or its refusal, and the record buffer
pub record ThreeOutcome (L : Type 0) : Type 0 where
  pub after : L
  pub answer : Answered Told
  pub bytes : List ℕ

pub record ThreeCalls (L : Type 0) : Type 0 where
  -- settings bytes to a logger, or the refusal and no logger
  pub start : List ℕ → Answered L
  -- a block of samples in turn a, b, c, and a record buffer
  pub feed : L → List ℤ → List ℕ → ThreeOutcome L
  -- the readings
  pub look : L → ThreeReadings
