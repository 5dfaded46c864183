-- A row of numbers of 8 bytes each.
use Rattle.std.specs.Prelude.{ℕ, zero, suc, ◌*◌, length, replicate}
use Rattle.std.proofs.Common.{◌≡◌, refl, ap, arith}
use Rattle.octets.specs.Bytes.{total}

pub length-eights : (n : ℕ) → length {A = ℕ} (replicate n 8) ≡ n
length-eights zero = refl
length-eights (suc n) = ap suc (length-eights n)

pub total-eights : (n : ℕ) → total (replicate n 8) ≡ 8 * n
total-eights zero = refl
total-eights (suc n) = omega (arith, total-eights n)
