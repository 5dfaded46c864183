-- Chunks come to an end: one that is taken whole lowers what is left.
use Rattle.std.proofs.Common.{◌≡◌, Bool, true, false, ◌&&◌, List, ℕ, ℤ, ◌*◌, ◌<◌, length, sym, ◌∙◌, arith, eqb-true, true≢false}
use Rattle.std.proofs.Math.Path.{refl, subst}
use Rattle.numbers.specs.Notation.{◌≡ᵇ◌}
use Rattle.samples.specs.Samples.{samples_of}
use Rattle.samples.specs.SamplesLaws.{length-samples}

module _ {L : Type 0} (Leaves : L → List ℤ → L → ℕ → Type 0) (whole_of : ℕ → ℕ) (left : L → ℕ)
    (falls : (l m : L) (xs : List ℤ) → 0 < whole_of (length xs) → Leaves l xs m 0 → left m < left l) where
  pub chunk-falls : (l m : L) (bytes : List ℕ) (got whole places why : ℕ) (good more : Bool) → length bytes ≡ got → whole ≡ 2 * places → 0 < whole_of places
      → Leaves l (samples_of bytes) m why → more ≡ (good && got ≡ᵇ whole && why ≡ᵇ 0) → more ≡ true → left m < left l
  chunk-falls l m bytes got whole places why good more long twice some leaves is goes = go good (got ≡ᵇ whole) (why ≡ᵇ 0) refl refl (sym is ∙ goes)
    where
      go : (g a b : Bool) → (got ≡ᵇ whole) ≡ a → (why ≡ᵇ 0) ≡ b → (g && a && b) ≡ true → left m < left l
      go false a b p q e = absurd (true≢false (sym e))
      go true false b p q e = absurd (true≢false (sym e))
      go true true false p q e = absurd (true≢false (sym e))
      go true true true p q e =
          let all : length (samples_of bytes) ≡ places = omega (arith, length-samples bytes, eqb-true got whole p) in
          falls l m (samples_of bytes) (subst (λ (n : ℕ). 0 < whole_of n) (sym all) some) (subst (λ (w : ℕ). Leaves l (samples_of bytes) m w) (eqb-true why 0 q) leaves)
