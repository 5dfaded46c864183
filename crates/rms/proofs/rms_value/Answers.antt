-- The root of 256 times the mean square is the value by definition, and sums that samples can make keep it within 524,288.
use Rattle.std.proofs.Common.{◌≤◌, arith}
use Rattle.reading_laws.specs.RecordingsLaws.{rms-le}
use Rattle.rms.proofs.rms_value.Goals.{After-root}
use Rattle.rms.proofs.rms_value.Goals as goal

bound : (c : After-root) → c.root.result ≤ 524288
bound c =
    let a = c.args in
    let p = c.requires in
    rw (c.root.ensures, c.from.ensures) (rms-le a.half_length a.first a.second p.0 p.2 p.3)

pub overflow_cast-result : goal.overflow_cast-result
overflow_cast-result c = omega (arith, bound (goal.at.overflow_cast-result c).After-root)

pub returns : goal.returns
returns c = (rw c.from.ensures at c.root.ensures, bound (goal.at.returns c).After-root)
