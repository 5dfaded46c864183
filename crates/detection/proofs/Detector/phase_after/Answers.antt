-- The part of the window that is lent holds the values that stay in it (`part-is`).
use mathlib.Core.List.{List}
use mathlib.Core.Path.{◌∙◌, ap}
use Prim.Native.Nat.{ℕ}
use Rattle.rvc.specs.Phase.{moved_on}
use Rattle.detection.specs.DetectionLaws.{part-is}
use Rattle.detection.proofs.Detector.phase_after.Goals as goal

pub returns : goal.returns
returns c =
    let first = c.first_staying-first in
    let a = c.args in
    c.step.ensures
    ∙ ap (λ (part : List ℕ). moved_on a.scaled a.window_length part a.joining a.self.phase)
    (part-is first.result a.window_length a.self.count a.window.now first.ensures.0)
