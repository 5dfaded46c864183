-- What an answer tells of the refusal's number, and of what was asked for.
use Rattle.std.specs.Prelude.{◌≡◌, refl, ℕ, zero, suc, ◌<◌}
use Rattle.std.proofs.Common.{arith}
use Rattle.numbers.specs.Answers.{answered}
use Rattle.numbers.specs.Answers.Answered.{accepted, refused}

module _ {A : Type 0} where
  pub accepted-is : (n : ℕ) (a b : A) → answered n a ≡ accepted b → (n ≡ 0) × (a ≡ b)
  accepted-is zero a b e = (refl, cc)
  accepted-is (suc n) a b e = let z : ◌≡◌ {A = ℕ} 0 1 = cc in absurd (omega arith)

  pub refused-is : (n k : ℕ) (a : A) → answered n a ≡ refused k → (n ≡ k) × (0 < k)
  refused-is zero k a e = let z : ◌≡◌ {A = ℕ} 0 1 = cc in absurd (omega arith)
  refused-is (suc n) k a e = let same : suc n ≡ k = cc in (same, omega arith)
