-- Demand 2 of a logger's calls, and 02's trial, the statement: what holds of every logger, also of one whose image no recording gives. Of the loggers that a
-- recording leaves the claim says more: that what is due is what 01's clauses say.
use Rattle.std.specs.Prelude.{◌≡◌, true, List, ℕ, ◌*◌, ◌≤◌, ◌<◌, length, take, ℤ}
use Rattle.octets.specs.Bytes.{Bytes}
use Rattle.numbers.specs.Answers.Answered.{accepted}
use Rattle.reading.specs.Records.{record_bytes}
use Rattle.reading.specs.Feed.{last_value}
use Rattle.reading.specs.Calls.{Outcome, Calls, Trial, trial_to, without_logger}
use Rattle.reading.specs.Engineer.{over, room}
use Rattle.reading.specs.Layout.{record_length, image_length}
use Rattle.reading_laws.specs.Sentences.{Greatest}
use Rattle.greedy.specs.Greedy.{walked_by, due_over, allowed_by, why_by}
use Rattle.state.specs.declared.State.{State}
use Rattle.state.specs.State.{ValidState}
use Rattle.state.specs.Step.{machine}

-- 01's rule of feed, of a logger, a block and a record buffer. `machine` is what one sample does to a logger: whether it passes V's end, which records are due
-- with it, and the logger after it
pub record FedMost (st : State) (block : List ℤ) (lent : List ℕ) (o : Outcome State) : Type 0 where
  -- as many of the block's samples as keep V within its end and have records that fit the room, and no greater number does
  pub taken-greatest : Greatest (λ (n : ℕ). (n ≤ length block) × (allowed_by machine st block (room lent) n ≡ true)) o.told.taken
  -- 0 all taken, 2 the next sample would pass V's end, 1 its records would not fit
  pub why-is : o.told.why ≡ why_by machine st block o.told.taken
  -- the records due with the samples taken are counted, and written at the front of the buffer; its further bytes are unchanged
  pub written_is : o.told.written ≡ length (due_over machine st (take o.told.taken block))
  pub bytes-are : o.bytes ≡ over (record_bytes (due_over machine st (take o.told.taken block))) lent
  -- the logger goes on as the samples taken leave it, one after the other
  pub after_is : o.after ≡ walked_by machine st (take o.told.taken block)

-- what a trial tells, and its records in another buffer
abbrev pub trial_into : List ℕ → Trial → Trial
trial_into lent t = trial_to t.told (over (take (record_length * t.told.written) t.bytes) lent)

pub record Demand2 (C : Calls State) : Type 0 where
  -- a saved image read back is the same logger, whichever logger reads it
  pub saved-restored : (st : State) → ValidState st → (old : State) (lent : List ℕ) → image_length ≤ length lent
      → C.restore old (take image_length (C.save st lent).bytes) ≡ record { after = st; answer = accepted tt }
  -- a logger read from an accepted image saves the same bytes
  pub restored-saved : (old : State) (b : List ℕ) → Bytes b → (C.restore old b).answer ≡ accepted tt → (lent : List ℕ) → image_length ≤ length lent
      → C.save (C.restore old b).after lent ≡ record { number = 0; bytes = over b lent }
  -- and is valid, whether or not a recording gives its image
  pub restored-valid : (old : State) (b : List ℕ) → Bytes b → (C.restore old b).answer ≡ accepted tt → ValidState (C.restore old b).after
  -- each feed takes the greatest number of samples that 01 allows, and tells taken, written and why as 01 says
  pub feed-most : (st : State) (block : List ℤ) (lent : List ℕ) → FedMost st block lent (C.feed st block lent)
  -- with room for four records, and V short of its end, it takes at least one sample of a block that is not empty
  pub feed-some : (st : State) (block : List ℤ) (lent : List ℕ) → 1 ≤ length block → 4 ≤ room lent → (C.look st).count < last_value
      → 1 ≤ (C.feed st block lent).told.taken
  -- a trial tells what feed of the same block and buffer tells, and leaves the buffer as that feed does
  pub trial-as-feed : (st : State) (block : List ℤ) (lent : List ℕ) → C.trial st block lent ≡ without_logger (C.feed st block lent)
  -- after a trial, feed into another buffer tells the same and writes the same records, with as much room, or less that takes the records which the trial told
  pub feed-as-tried : (st : State) (block : List ℤ) (scratch lent : List ℕ) → (C.trial st block scratch).told.written ≤ room lent → room lent ≤ room scratch
      → without_logger (C.feed st block lent) ≡ trial_into lent (C.trial st block scratch)
