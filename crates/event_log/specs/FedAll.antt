-- Samples fed with room for all their records.
use Rattle.std.specs.Prelude.{◌≡◌, List, ℕ, ℤ}
use Rattle.greedy.specs.AllFed.{fed_all_by}
use Rattle.state.specs.Step.{machine}
use Rattle.logger.specs.declared.Logger.{Logger}

-- sample by sample, until all are taken (0) or the next would pass V's end (2): what a logger becomes, and why it takes no more
abbrev pub FedAll : Logger → List ℤ → Logger → ℕ → Type 0
FedAll l xs after why = record { after = after.state; why = why } ≡ fed_all_by machine l.state xs
