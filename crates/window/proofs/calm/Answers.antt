-- The newest value is tested as it stands, the others by the code's two ends, which are `lowest` and `highest`.
use Rattle.std.proofs.Common.{ℕ, ◌+◌, ◌-◌, ◌*◌, ◌/◌, sym, ap, ◌∙◌, arith}
use Rattle.numbers.specs.Notation.{all}
use Rattle.numbers.specs.NotationLaws.{and-passes}
use Rattle.window.specs.Range.{highest, between}
use Rattle.window.specs.RangeLaws.{in-range, lowest-le-highest}
use Rattle.window.proofs.calm.Goals as goal

pub all_between-requires : goal.all_between-requires
all_between-requires c =
    let a = c.args in
    let scaled = ap (λ (k : ℕ). a.window_length * k) c.from.ensures in
    let gap = c.abs_diff.ensures in
    rw c.saturating_sub.ensures (lowest-le-highest a.window_length a.sum a.limit (omega arith) a.newest (omega arith) (omega arith))

pub returns : goal.returns
returns c =
    let a = c.args in
    let n = a.window_length in
    let scaled = ap (λ (k : ℕ). n * k) c.from.ensures in
    let gap = c.abs_diff.ensures in
    c.all_between.ensures
    ∙ ap (λ (d : ℕ). all (between ((d + (n - 1)) / n) (highest n a.sum a.limit)) a.part.now) c.saturating_sub.ensures
    ∙ sym (and-passes _ (in-range n a.sum a.limit (omega arith) a.newest (omega arith) (omega arith)))
