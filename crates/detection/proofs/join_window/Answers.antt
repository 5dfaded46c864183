-- The bounds come from a valid window, and the parts are put together by `joined_is`.
use Rattle.std.proofs.Common.{◌≡◌, ℕ, Bool, true, false, if◌then◌else◌, refl, arith, add-one, ap, ◌∙◌}
use mir.Val.{bool_byte}
use Rattle.numbers.specs.Notation.{◌<ᵇ◌, flag}
use Rattle.numbers.specs.NotationLaws.{flag-most}
use Rattle.detection.specs.DetectionLaws.{sum-most, marks-most, joined_is}
use Rattle.detection.proofs.join_window.Goals as goal

byte-flag : (b : Bool) → bool_byte b ≡ flag b
byte-flag true = refl
byte-flag false = refl

pub overflow_add-after : goal.overflow_add-after
overflow_add-after c =
    let g = c.requires in omega (arith, g.3.value-le, sum-most g.0 g.1 g.3, c.from-3.ensures)

pub overflow_add-marked : goal.overflow_add-marked
overflow_add-marked c =
    let g = c.requires in
    let clipped = c.args.value.clipped in
    omega (arith, marks-most g.0 g.1 g.3, c.from-4.ensures ∙ byte-flag clipped, flag-most clipped)

pub returns : goal.returns
returns c =
    let a = c.args in
    let g = c.requires in
    let left = λ (oldest : ℕ). if a.count <ᵇ a.window_length then 0 else oldest in
    rw c.from-3.ensures
    (joined_is g.0 g.1 g.3 a.stands (c.leaving-leaves.ensures ∙ ap left c.from.ensures) (c.leaving-mark.ensures ∙ ap left c.from-2.ensures) (add-one a.count)
    (c.from-4.ensures ∙ byte-flag a.value.clipped))
