-- The root of the readings is the integer square root, and a root is made from the root of the quarter.
use Rattle.std.specs.Prelude.{◌≡◌, refl, Bool, true, false, ℕ, zero, suc, ◌+◌, ◌-◌, ◌*◌, ◌/◌, ◌^◌, ◌≤◌, ◌<◌, if◌then◌else◌}
use Rattle.std.proofs.Common.{ap, ◌∙◌, arith, mul-le-mul, mul-add, add-mul, mul_comm, le_antisymm, eqb-true, leb-true, leb-false}
use Rattle.std.proofs.Math.Decide.{dec_le}
use Rattle.std.proofs.lemmas.Bool.{eqb-false}
use Rattle.numbers.specs.Notation.{◌≤ᵇ◌, ◌≡ᵇ◌}
use Rattle.reading.specs.Values.{root_by, root}

-- r is the greatest number whose square is at most n
pub record IsRoot (n r : ℕ) : Type 0 where
  pub low : r * r ≤ n
  pub high : n < (r + 1) * (r + 1)

pub square-add : (a b : ℕ) → (a + b) * (a + b) ≡ a * a + 2 * (a * b) + b * b
square-add a b = simp (mul-add, add-mul) (omega (arith, mul_comm a b))

square-double : (q : ℕ) → (2 * q) * (2 * q) ≡ 4 * (q * q)
square-double q = ap (λ (x : ℕ). x * x) (twice q) ∙ simp (mul-add, add-mul) (omega arith)
  where
    twice : (q : ℕ) → 2 * q ≡ q + q
    twice q = omega arith

-- from the root q of the quarter: 2 × q + 1 where its square is at most n, else 2 × q
module _ (n q : ℕ) (i : IsRoot (n / 4) q) where
  odd_is : (2 * q + 1) * (2 * q + 1) ≤ n → IsRoot n (2 * q + 1)
  odd_is h = record { low = h; high = omega (arith, square-add (2 * q + 1) 1, square-add (2 * q) 1, square-double q, square-add q 1) }

  even_is : n < (2 * q + 1) * (2 * q + 1) → IsRoot n (2 * q)
  even_is h = record { low = omega (arith, square-double q); high = h }

  either_is : (b : Bool) → ((2 * q + 1) * (2 * q + 1) ≤ᵇ n) ≡ b → IsRoot n (if b then 2 * q + 1 else 2 * q)
  either_is true e = odd_is (leb-true _ _ e)
  either_is false e = even_is (leb-false _ _ e)

stepped : (n q : ℕ) (b : Bool) → (n ≡ᵇ 0) ≡ b → ((n ≡ 0 → ⊥) → IsRoot (n / 4) q)
    → IsRoot n (elim b [ true ↦ 0 | false ↦ if (2 * q + 1) * (2 * q + 1) ≤ᵇ n then 2 * q + 1 else 2 * q ])
stepped n q true e f = record { low = omega arith; high = omega (arith, eqb-true n 0 e) }
stepped n q false e f = either_is n q (f (eqb-false n 0 e)) ((2 * q + 1) * (2 * q + 1) ≤ᵇ n) refl

root_by-is : (k n : ℕ) → n ≤ k → IsRoot n (root_by k n)
root_by-is zero n h = record { low = omega arith; high = omega arith }
root_by-is (suc k) n h = stepped n (root_by k (n / 4)) (n ≡ᵇ 0) refl (λ f. root_by-is k (n / 4) (omega (arith, f)))

pub root_is : (n : ℕ) → IsRoot n (root n)
unfolding root
root_is n = root_by-is n n (omega arith)

-- no number with a square up to n is greater than the root
pub root-most : (n k : ℕ) → k * k ≤ n → k ≤ root n
root-most n k h = go (dec_le k (root n))
  where
    go : Dec (k ≤ root n) → k ≤ root n
    go (yes p) = p
    go (no f) = let i = root_is n in let g : root n + 1 ≤ k = omega (arith, f) in absurd (omega (arith, mul-le-mul g g))

-- the root is at most b where the number is below the square after b's
pub root-le : (n b : ℕ) → n < (b + 1) * (b + 1) → root n ≤ b
root-le n b h = go (dec_le (root n) b)
  where
    go : Dec (root n ≤ b) → root n ≤ b
    go (yes p) = p
    go (no f) = let i = root_is n in let g : b + 1 ≤ root n = omega (arith, f) in absurd (omega (arith, mul-le-mul g g))

-- there is no other root
pub root-only : {n r : ℕ} → IsRoot n r → r ≡ root n
root-only {n} {r} i = le_antisymm (root-most n r i.low) (root-le n r i.high)

module _ (n q : ℕ) (e : q ≡ root (n / 4)) where
  quarter : IsRoot (n / 4) q
  quarter = rw e (root_is (n / 4))

  pub odd-root : (2 * q + 1) * (2 * q + 1) ≤ n → 2 * q + 1 ≡ root n
  odd-root h = root-only (odd_is n q quarter h)

  pub even-root : n < (2 * q + 1) * (2 * q + 1) → 2 * q ≡ root n
  even-root h = root-only (even_is n q quarter h)

-- the root of a 64-bit number's quarter is below 2^31
pub quarter-root-lt : {n : ℕ} → n < 2 ^ 64 → root (n / 4) < 2 ^ 31
quarter-root-lt {n} h = let f = root-le (n / 4) (2 ^ 31 - 1) (omega arith) in omega arith
