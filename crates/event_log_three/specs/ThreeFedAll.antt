-- Triples fed with room for all their records.
use Rattle.std.specs.Prelude.{◌≡◌, List, ℕ, ℤ}
use Rattle.greedy.specs.AllFed.{fed_all_by}
use Rattle.three_reading.specs.Three.{triples_of}
use Rattle.three_state.specs.ThreeStep.{three_machine}
use Rattle.three_logger.specs.declared.ThreeLogger.{ThreeLogger}

-- triple by triple, until all are taken (0) or the next would pass V's end (2): what a logger becomes, and why it takes no more
abbrev pub ThreeFedAll : ThreeLogger → List ℤ → ThreeLogger → ℕ → Type 0
ThreeFedAll l xs after why = record { after = after.state; why = why } ≡ fed_all_by three_machine l.state (triples_of xs)
