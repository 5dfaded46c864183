-- The root of a 64-bit number's quarter is below 2^31, so nothing wraps; and the root is made of it by `odd-root` and `even-root`.
use Rattle.std.proofs.Common.{◌+◌, ◌-◌, ◌*◌, ◌^◌, ◌<◌, ◌≤◌, mul-le-mul, arith}
use Rattle.reading_laws.specs.RootLaws.{odd-root, even-root, quarter-root-lt}
use Rattle.rms.proofs.from_quarter.Goals.{Start}
use Rattle.rms.proofs.from_quarter.Goals as goal

quarter-lt : (c : Start) → c.args.quarter < 2 ^ 31
quarter-lt c = rw c.requires (quarter-root-lt c.ranges.n.fits)

pub overflow_mul-even : goal.overflow_mul-even
overflow_mul-even c = omega (arith, quarter-lt (goal.at.overflow_mul-even c).Start)

pub overflow_add-odd : goal.overflow_add-odd
overflow_add-odd c = omega (arith, quarter-lt (goal.at.overflow_add-odd c).Start)

pub overflow_mul-odd : goal.overflow_mul-odd
overflow_mul-odd c =
    let h : 2 * c.args.quarter + 1 ≤ 2 ^ 32 - 1 = omega (arith, quarter-lt (goal.at.overflow_mul-odd c).Start) in
    omega (arith, mul-le-mul h h)

pub returns-then-odd-n : goal.returns-then-odd-n
returns-then-odd-n c = odd-root c.args.n c.args.quarter c.requires c.if-odd-n.true

pub returns-else-odd-n : goal.returns-else-odd-n
returns-else-odd-n c = even-root c.args.n c.args.quarter c.requires c.if-odd-n.false
