-- Each rule has a test, so that a valid state's fact, of which only the existence is known, is a fact. A logger's invariant is read so.
use Rattle.std.specs.Prelude.{◌≡◌, refl, Bool, true, false, length, ℕ}
use Rattle.std.proofs.Math.Logic.{∥∥₁_elim}
use mathlib.Core.HLevel.{⊥_prop}
use native.Mathlib.Omega.{arith}
use Rattle.numbers.specs.Notation.{flag}
use Rattle.numbers.specs.Rules.{Rule, passes, Holds}
use Rattle.numbers.specs.Rules.Rule.{◌≤ʳ◌, ◌≡ʳ◌}
use Rattle.numbers.proofs.RulesLaws.{holds, passed}
use Rattle.settings.specs.Settings.{window_length_of, samples_rule, frequency_rule, declared_rule, limit_rule, levels_rule, order_rule}
use Rattle.reading.specs.Feed.{last_value}
use Rattle.reading.specs.Layout.{places}
use Rattle.reading.specs.Restore.{value_most, gatherer_rule, whole_rule, places_rule, phase_rule, standing_rule}
use Rattle.rms.specs.Gather.{gatherer_row}
use Rattle.threshold.specs.declared.Standing.{Standing}
use Rattle.rvc.specs.Phase.{phase_row, phase_mark}
use Rattle.state.specs.declared.State.{State}
use Rattle.state.specs.State.{ValidState}

neither : {b : Bool} → b ≡ true → b ≡ false → ⊥
neither e f = let z : ◌≡◌ {A = ℕ} 0 1 = cc in omega arith

pub settle : {A : Type 0} (r : Rule) → ∥ A ∥₁ → (A → Holds r) → Holds r
settle r some f = go (passes r) refl
  where
    go : (b : Bool) → passes r ≡ b → Holds r
    go true e = holds r e
    go false e = absurd (∥∥₁_elim some ⊥_prop (λ a. neither (passed r (f a)) e))

module _ (st : State) (some : ∥ ValidState st ∥₁) where
  abbrev n : ℕ
  n = window_length_of st.settings

  abbrev v : ℕ
  v = st.detector.count

  abbrev standing : Standing → Rule
  standing p = standing_rule v p.start p.magnitude (flag p.clipped)

  pub valid-settled : ValidState st
  valid-settled = record {
    settings-valid = record {
      samples-valid = settle (samples_rule st.settings) some (λ h. h.settings-valid.samples-valid);
      frequency-valid = settle (frequency_rule st.settings) some (λ h. h.settings-valid.frequency-valid);
      declared-valid = settle (declared_rule st.settings) some (λ h. h.settings-valid.declared-valid);
      limit-valid = settle (limit_rule st.settings) some (λ h. h.settings-valid.limit-valid);
      levels-valid = settle (levels_rule st.settings) some (λ h. h.settings-valid.levels-valid);
      order-valid = settle (order_rule st.settings) some (λ h. h.settings-valid.order-valid);
    };
    gatherer-valid = settle (gatherer_rule st.settings.samples (gatherer_row st.gatherer)) some (λ h. h.gatherer-valid);
    detector-valid = record {
      dip-valid = settle (standing st.detector.dip) some (λ h. h.detector-valid.dip-valid);
      swell-valid = settle (standing st.detector.swell) some (λ h. h.detector-valid.swell-valid);
      interruption-valid = settle (standing st.detector.interruption) some (λ h. h.detector-valid.interruption-valid);
      phase-valid = settle (phase_rule n v (phase_row st.detector.phase) (phase_mark st.detector.phase)) some (λ h. h.detector-valid.phase-valid);
    };
    window-valid = record {
      size = settle (length st.window ≡ʳ places) some (λ h. h.window-valid.size);
      allowed = settle (places_rule value_most n v st.window) some (λ h. h.window-valid.allowed);
    };
    marks-valid = record {
      size = settle (length st.marks ≡ʳ places) some (λ h. h.marks-valid.size);
      allowed = settle (places_rule 1 n v st.marks) some (λ h. h.marks-valid.allowed);
    };
    count-le = settle (v ≤ʳ last_value) some (λ h. h.count-le);
    none-whole = settle (whole_rule (flag st.gatherer.whole) v) some (λ h. h.none-whole);
  }
