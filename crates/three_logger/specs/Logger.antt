-- What the calls of a three-phase logger leave, from the parts that their answers have.
use Rattle.std.specs.Prelude.{List, ℕ, zero, suc, ◌*◌, ℤ, Result}
use Rattle.numbers.specs.Answers.{Answered}
use Rattle.numbers.specs.Answers.Answered.{accepted, refused}
use Rattle.numbers.specs.declared.Refusal.{Refusal}
use Rattle.numbers.specs.Refusals.{answer_with}
use Rattle.reading.specs.Told.{Told}
use Rattle.three_reading.specs.ThreeCalls.{ThreeOutcome}
use Rattle.three_reading.specs.ThreeEngineer.{feed_refusal}
use Rattle.three_reading.specs.Three.{triples_of}
use Rattle.three_state.specs.declared.ThreeState.{ThreeState}
use Rattle.three_state.specs.ThreeFed.{three_fed_with}
use Rattle.three_logger.specs.declared.ThreeLogger.{ThreeLogger}

-- start's answer, as 01 gives it
abbrev pub three_started_told : Result ThreeLogger Refusal → Answered ThreeState
three_started_told r = answer_with (λ (l : ThreeLogger). l.state) r

-- what a feed leaves, and its answer as 02 gives it
abbrev pub three_fed_to : ThreeState → Answered Told → List ℕ → ThreeOutcome ThreeState
three_fed_to st answer bytes = record { after = st; answer = answer; bytes = bytes }

-- what a feed of triples tells, in samples
abbrev pub in_samples : Told → Told
in_samples t = record { taken = 3 * t.taken; written = t.written; why = t.why }

-- feed, by its refusal of the block
abbrev pub three_fed_by : ℕ → ThreeState → List ℤ → List ℕ → ThreeOutcome ThreeState
three_fed_by zero st block lent = let o = three_fed_with st (triples_of block) lent in three_fed_to o.after (accepted (in_samples o.told)) o.bytes
three_fed_by (suc r) st block lent = three_fed_to st (refused (suc r)) lent

unfoldable pub three_fed : ThreeState → List ℤ → List ℕ → ThreeOutcome ThreeState
three_fed st block lent = three_fed_by (feed_refusal block) st block lent
