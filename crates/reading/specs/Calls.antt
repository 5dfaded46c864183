-- 01, "The calls", and 02's trial: what each is given and what it gives back, the lent bytes as it leaves them included, over whatever a logger is. A call's
-- contract and demand 3 both speak of these.
use Rattle.std.specs.Prelude.{List, ℕ, ℤ}
use Rattle.numbers.specs.Answers.{Answered}
use Rattle.reading.specs.Told.{Told}
use Rattle.reading.specs.Readings.{Readings}

-- what a feed leaves: who was fed, what it tells, and the record buffer
pub record Outcome (L : Type 0) : Type 0 where
  pub after : L
  pub told : Told
  pub bytes : List ℕ

-- what a trial leaves: what feed would tell, and the scratch buffer
pub record Trial : Type 0 where
  pub told : Told
  pub bytes : List ℕ

abbrev pub trial_to : Told → List ℕ → Trial
trial_to told bytes = record { told = told; bytes = bytes }

-- a feed's outcome without who was fed
abbrev pub without_logger : {L : Type 0} → Outcome L → Trial
without_logger o = trial_to o.told o.bytes

-- what a save leaves: 0 or the refusal, and the image buffer
pub record Saved : Type 0 where
  pub number : ℕ
  pub bytes : List ℕ

-- what a restore leaves: the logger that goes on, and whether the bytes were accepted
pub record Restoration (L : Type 0) : Type 0 where
  pub after : L
  pub answer : Answered (Unit {0})

pub record Calls (L : Type 0) : Type 0 where
  -- settings bytes to a logger, or the refusal and no logger
  pub start : List ℕ → Answered L
  -- a block of samples and a record buffer
  pub feed : L → List ℤ → List ℕ → Outcome L
  -- a block of samples and a scratch buffer; it leaves the logger as it is
  pub trial : L → List ℤ → List ℕ → Trial
  -- the readings
  pub look : L → Readings
  -- an image buffer
  pub save : L → List ℕ → Saved
  -- image bytes, to a logger that stands until they are accepted
  pub restore : L → List ℕ → Restoration L
