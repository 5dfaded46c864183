-- Feed, from a logger's state and the bytes lent to it: what the contracts of `feed` and `logger` cite.
use Rattle.std.specs.Prelude.{List, ℕ, ℤ}
use Rattle.reading.specs.Calls.{Outcome}
use Rattle.greedy.specs.Greedy.{fed_into}
use Rattle.state.specs.declared.State.{State}
use Rattle.state.specs.Step.{machine}

unfoldable pub fed_with : State → List ℤ → List ℕ → Outcome State
fed_with st block lent = fed_into machine st block lent
