-- Feed of triples, from a three-phase logger's state and the bytes lent to it; taken is told in triples.
use Rattle.std.specs.Prelude.{List, ℕ, ℤ}
use Rattle.reading.specs.Calls.{Outcome}
use Rattle.greedy.specs.Greedy.{fed_into}
use Rattle.three_reading.specs.declared.Three.{Three}
use Rattle.three_state.specs.declared.ThreeState.{ThreeState}
use Rattle.three_state.specs.ThreeStep.{three_machine}

unfoldable pub three_fed_with : ThreeState → List (Three ℤ) → List ℕ → Outcome ThreeState
three_fed_with st block lent = fed_into three_machine st block lent
