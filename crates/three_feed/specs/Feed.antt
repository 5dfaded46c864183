-- What a walk through triples leaves and tells, and what its end asks.
use Rattle.std.specs.Prelude.{List, ℕ, ◌+◌, ◌*◌, ◌^◌, ◌≤◌, ℤ}
use Rattle.reading.specs.Told.{Told}
use Rattle.reading.specs.Calls.{Outcome}
use Rattle.rms.specs.declared.Gatherer.{Gatherer}
use Rattle.three_reading.specs.declared.Three.{Three}
use Rattle.three_reading.specs.Three.{Channel, at}
use Rattle.joint.specs.declared.Joint.{Joint}
use Rattle.three_state.specs.declared.ThreeState.{ThreeState}
use Rattle.three_state.specs.ThreeState.{three_with}
use Rattle.three_state.specs.ThreeStep.{parts_of, with_parts}

-- the outcome of a walk; the state that a walk ends in, with triples
abbrev pub fed_to : ThreeState → Told → List ℕ → Outcome ThreeState
fed_to st told bytes = record { after = st; told = told; bytes = bytes }

abbrev pub walked_with : ThreeState → Three Gatherer → Joint → List (Three ℤ) → ThreeState
walked_with st g j xs = three_with st.settings (with_parts g (parts_of xs)) j st.windows st.marks

-- what the end of a walk needs of the gatherers, for as many triples more
abbrev pub RoomFor : Three Gatherer → ℕ → Type 0
RoomFor g n = (c : Channel) → ((at c g).count + n ≤ 256) × ((at c g).sum ≤ (at c g).count * 2 ^ 30)
