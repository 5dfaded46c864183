-- What bounds a feed of triples: triples of the block, records of the buffer; and with room for four records it takes a triple, unless V is at its end.
use Rattle.std.specs.Prelude.{List, ◌∷◌, [], ℕ, ◌≤◌, ◌<◌, length, ℤ}
use Rattle.reading.specs.Feed.{last_value}
use Rattle.reading.specs.Engineer.{room}
use Rattle.greedy.proofs.CutterLaws.{sample-due, sample-within}
use Rattle.greedy.proofs.ToldLaws.{ToldWithin, takes_one, told-within}
use Rattle.three_reading.specs.declared.Three.{Three}
use Rattle.three_state.specs.declared.ThreeState.{ThreeState}
use Rattle.three_state.specs.ThreeStep.{parts_of, three_cutter, three_machine}
use Rattle.three_state.specs.ThreeStepValid.{three_half_due-most, three-within-end}
use Rattle.three_state.specs.ThreeFed.{three_fed_with}

-- one triple has at most four records due
due-most : (st : ThreeState) (x : Three ℤ) → length (three_machine.due_with st x) ≤ 4
due-most st x = sample-due three_cutter st x 4 (three_half_due-most st (parts_of (x ∷ [])))

-- and passes no end where V is short of it, so with room for four it is taken
pub three-takes-some : (st : ThreeState) (x : Three ℤ) (xs : List (Three ℤ)) (lent : List ℕ) → 4 ≤ room lent → st.joint.count < last_value
    → 1 ≤ (three_fed_with st (x ∷ xs) lent).told.taken
unfolding three_fed_with
three-takes-some st x xs lent four below =
    takes_one three_machine 4 due-most st x xs (room lent) four (sample-within three_cutter st x (three-within-end st (parts_of (x ∷ [])) below))

pub three_fed_with-within : (st : ThreeState) (block : List (Three ℤ)) (lent : List ℕ) → ToldWithin 4 block lent (three_fed_with st block lent).told
unfolding three_fed_with
three_fed_with-within = told-within three_machine 4 due-most
