-- What bounds a feed: samples of the block, records of the buffer; and with room for four records it takes a sample, unless V is at its end.
use Rattle.std.specs.Prelude.{List, ◌∷◌, [], ℕ, ◌≤◌, ◌<◌, length, ℤ}
use Rattle.reading.specs.Feed.{last_value}
use Rattle.reading.specs.Engineer.{room}
use Rattle.rms.specs.Gather.{part_of}
use Rattle.greedy.proofs.CutterLaws.{sample-due, sample-within}
use Rattle.greedy.proofs.ToldLaws.{ToldWithin, takes_one, told-within}
use Rattle.state.specs.declared.State.{State}
use Rattle.state.specs.Step.{cutter, machine}
use Rattle.state.proofs.StepValid.{half_due-most, within_end_lem}
use Rattle.state.specs.Calls.{fed_with}

-- one sample has at most four records due
due-most : (st : State) (x : ℤ) → length (machine.due_with st x) ≤ 4
due-most st x = sample-due cutter st x 4 (half_due-most st (part_of (x ∷ [])))

-- and passes no end where V is short of it, so with room for four it is taken
pub takes-some : (st : State) (x : ℤ) (xs : List ℤ) (lent : List ℕ) → 4 ≤ room lent → st.detector.count < last_value → 1 ≤ (fed_with st (x ∷ xs) lent).told.taken
unfolding fed_with
takes-some st x xs lent four below = takes_one machine 4 due-most st x xs (room lent) four (sample-within cutter st x (within_end_lem st (part_of (x ∷ [])) below))

pub fed_with-within : (st : State) (block : List ℤ) (lent : List ℕ) → ToldWithin 4 block lent (fed_with st block lent).told
unfolding fed_with
fed_with-within = told-within machine 4 due-most
