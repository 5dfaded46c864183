-- What refusal 11's rule says of each phase, both ways.
use Rattle.std.specs.Prelude.{◌≡◌, refl, Bool, true, false, [], ◌∷◌, ℕ, zero, suc, ◌≤◌, ◌<◌, get_or}
use Rattle.std.proofs.Common.{arith, ltb-true, ltb-false}
use Rattle.numbers.specs.Notation.{◌<ᵇ◌}
use Rattle.rvc.specs.declared.Phase.{Phase}
use Rattle.rvc.specs.declared.Phase.TheVariants.{Filling, Unsettled, Steady, Changing}
use Rattle.rvc.specs.Phase.{ValidChange, ValidPhase}

module _ (n v : ℕ) where
  abbrev pub Allowed : Phase → Type 0
  Allowed Filling = v < n
  Allowed Unsettled = n ≤ v
  Allowed Steady = n ≤ v
  Allowed (Changing c) = ValidChange n v c

  -- four zeros
  none : (i : ℕ) → get_or {A = ℕ} (0 ∷ 0 ∷ 0 ∷ 0 ∷ []) i 0 ≡ 0
  none zero = refl
  none (suc zero) = refl
  none (suc (suc zero)) = refl
  none (suc (suc (suc zero))) = refl
  none (suc (suc (suc (suc i)))) = refl

  pub allowed-valid : (p : Phase) → Allowed p → ValidPhase n v p
  allowed-valid Filling h = (omega arith, ((λ _. h, λ _. refl), (λ e. absurd (omega arith), λ _. (none, refl))))
  allowed-valid Unsettled h = (omega arith, ((λ e. absurd (omega arith), λ e. absurd (omega arith)), (λ e. absurd (omega arith), λ _. (none, refl))))
  allowed-valid Steady h = (omega arith, ((λ e. absurd (omega arith), λ e. absurd (omega arith)), (λ e. absurd (omega arith), λ _. (none, refl))))
  allowed-valid (Changing c) h = (omega arith, ((λ e. absurd (omega arith), λ e. absurd (omega arith)), (λ _. h, λ e. absurd (omega arith))))

  -- a phase that is not 0 has a full window
  pub full : {x : ℕ} → (v < n → suc x ≡ 0) → n ≤ v
  full f = go (v <ᵇ n) refl
    where
      go : (b : Bool) → (v <ᵇ n) ≡ b → n ≤ v
      go true e = absurd (omega (arith, f (ltb-true v n e)))
      go false e = ltb-false v n e

  pub valid-allowed : (p : Phase) → ValidPhase n v p → Allowed p
  valid-allowed Filling h = h.1.0.0 refl
  valid-allowed Unsettled h = full h.1.0.1
  valid-allowed Steady h = full h.1.0.1
  valid-allowed (Changing c) h = h.1.1.0 refl
