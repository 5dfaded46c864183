-- Where the window's marks add up to 0 and the new one is 0, they are the pushed ones already.
use Rattle.std.proofs.Common.{sym, ap, ◌∙◌, eqb-true}
use Rattle.numbers.specs.Notation.{◌≡ᵇ◌}
use Rattle.numbers.specs.NotationLaws.{and_left, and_right}
use Rattle.window.specs.Window.{pushed}
use Rattle.window.specs.WindowLaws.{pushed-zero}
use Rattle.window.proofs.push_mark.Goals as goal

pub returns-then-marked-mark : goal.returns-then-marked-mark
returns-then-marked-mark c =
    let a = c.args in
    let pre = c.requires in
    let none = eqb-true a.marked 0 (and_left (a.marked ≡ᵇ 0) (a.mark ≡ᵇ 0) c.if-marked-mark.true) in
    let zero = eqb-true a.mark 0 (and_right (a.marked ≡ᵇ 0) (a.mark ≡ᵇ 0) c.if-marked-mark.true) in
    sym (ap (pushed a.window_length a.count a.marks.now) zero
    ∙ pushed-zero a.window_length a.count a.marks.now pre.0 pre.1 (sym pre.2 ∙ none))
