-- Where no place is free, the values move down and the last store makes the pushed window.
use Rattle.std.proofs.Common.{◌≡◌, false, le-ltb}
use Rattle.numbers.specs.Notation.{◌<ᵇ◌}
use Rattle.window.proofs.Shift.{stored}
use Rattle.window.proofs.push.Goals as goal

pub returns-else-count-window_length : goal.returns-else-count-window_length
returns-else-count-window_length g c =
    let a = c.args in
    let full : (a.count <ᵇ a.window_length) ≡ false = le-ltb _ _ c.if-count-window_length.false in
    rw (full, c.copy_within.ensures.after) (stored a.window.now a.window_length a.value c.requires.0 c.requires.1)
