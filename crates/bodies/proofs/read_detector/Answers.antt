-- The numbers are those of the body, so that `events_good` answers the reading's test of them.
use mathlib.Core.Path.{◌≡◌, sym, ◌∙◌, ap}
use mathlib.Core.Bool.{Bool}
use mathlib.Core.List.{List}
use Prim.Native.Nat.{ℕ}
use Rattle.octets.specs.Bytes.{numbers_in}
use Rattle.numbers.specs.Notation.{refuse◌unless◌then◌}
use Rattle.numbers.specs.Answers.{Answered, answered}
use Rattle.numbers.specs.Answers.Answered.{accepted}
use Rattle.numbers.specs.Rules.{passes}
use Rattle.settings.specs.declared.Settings.{Settings}
use Rattle.settings.specs.Settings.{window_length_of}
use Rattle.reading.specs.Layout.{events_widths}
use Rattle.reading.specs.Restore.{events_rule}
use Rattle.detection.specs.declared.Detector.{Detector}
use Rattle.bodies.specs.Bodies.{detector_from, detector_answer}
use Rattle.bodies.proofs.read_detector.Goals as goal

abbrev answer-by : Bool → ℕ → List ℕ → Answered Detector
answer-by b v ns = answered (refuse 11 unless b then 0) (detector_from v ns)

answer-is : (s : Settings) (v : ℕ) (body ns : List ℕ) {n : ℕ} (r : Bool) → ns ≡ numbers_in events_widths body → n ≡ window_length_of s → r ≡ passes (events_rule n v ns) →
    answer-by r v ns ≡ detector_answer s v body
unfolding detector_answer
answer-is s v body ns r e n-is t = ap (λ (b : Bool). answer-by b v ns) t ∙ (λ i. answer-by (passes (events_rule (n-is i) v (e i))) v (e i))

pub returns-then-not-events_good : goal.returns-then-not-events_good
returns-then-not-events_good c =
    let v = c.args.count in
    let ns = c.events_numbers-numbers.result in
    ap (λ (b : Bool). answer-by b v ns) (sym c.if-not-events_good.true)
    ∙ answer-is c.args.settings v c.args.part.now ns c.events_good.result c.events_numbers-numbers.ensures c.window_length.ensures.0 c.events_good.ensures

pub returns : goal.returns
returns c =
    let v = c.args.count in
    let ns = c.events_numbers-numbers.result in
    ap accepted c.detector_of.ensures
    ∙ (ap (λ (b : Bool). answer-by b v ns) (sym c.if-not-events_good.false)
    ∙ answer-is c.args.settings v c.args.part.now ns c.events_good.result c.events_numbers-numbers.ensures c.window_length.ensures.0 c.events_good.ensures)
