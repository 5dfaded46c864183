-- Fewer than 8 bytes are less than a number's own 8; and 8 or more hold every number.
use mathlib.Core.Path.{◌≡◌, refl, sym, ◌∙◌, ap}
use Prim.Native.Nat.{ℕ, zero, suc, ◌+◌, ◌*◌, ◌≤◌, ◌^◌}
use native.Mathlib.Omega.{arith}
use Rattle.std.proofs.Math.Nat.{pow-le-pow_right, pow-succ'}
use Rattle.std.proofs.lemmas.Nat.{one_shl, pow-add}
use borrow.Author.Tests.{lt-ltb, le-leb}
use lib.Dec.{ltb}
use Rattle.conversion.proofs.holds.Goals as goal

-- 8 bits are a byte
bytes-are : (w : ℕ) → 2 ^ (8 * w) ≡ 256 ^ w
bytes-are zero = refl
bytes-are (suc w) =
    let more : 8 * suc w ≡ 8 + 8 * w = omega arith in
    ap (λ (k : ℕ). 2 ^ k) more ∙ (pow-add 2 8 (8 * w) ∙ (ap (λ (n : ℕ). 256 * n) (bytes-are w) ∙ sym (pow-succ' 256 w)))

pub returns-then-width-ge8 : goal.returns-then-width-ge8
returns-then-width-ge8 c =
    le-leb 8 c.args.width c.if-width-ge8.true
    ∙ sym (lt-ltb c.args.number (256 ^ c.args.width) (omega (arith, c.ranges.number.fits, pow-le-pow_right {n = 256} (omega arith) c.if-width-ge8.true)))

pub returns-else-width-ge8 : goal.returns-else-width-ge8
returns-else-width-ge8 c =
    let is = one_shl (8 * c.from.result) 64 (omega (arith, c.from.ensures, c.if-width-ge8.false)) ∙ bytes-are c.from.result ∙ ap (λ (w : ℕ). 256 ^ w) c.from.ensures in
    ap (λ (n : ℕ). ltb c.args.number n) is
