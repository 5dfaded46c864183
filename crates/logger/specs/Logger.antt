-- What the calls of a logger leave, from the parts that their answers have.
use Rattle.std.specs.Prelude.{List, ℕ, Result}
use Rattle.numbers.specs.Answers.{Answered}
use Rattle.numbers.specs.declared.Refusal.{Refusal}
use Rattle.numbers.specs.Refusals.{answer_with}
use Rattle.reading.specs.Calls.{Saved}
use Rattle.state.specs.declared.State.{State}
use Rattle.logger.specs.declared.Logger.{Logger}
-- feed: as in feed
pub use Rattle.feed.specs.Feed.{fed_to}

-- start's answer, as 01 gives it
abbrev pub started_told : Result Logger Refusal → Answered State
started_told r = answer_with (λ (l : Logger). l.state) r

-- save
abbrev pub saved_to : ℕ → List ℕ → Saved
saved_to number bytes = record { number = number; bytes = bytes }
