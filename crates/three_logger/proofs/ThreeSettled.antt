-- Each rule has a test, so that a valid state's fact, of which only the existence is known, is a fact. A three-phase logger's invariant is read so.
use Rattle.std.specs.Prelude.{◌≡◌, refl, Bool, true, false, length, ℕ}
use Rattle.std.proofs.Common.{ap, arith}
use Rattle.numbers.specs.Notation.{flag}
use Rattle.numbers.specs.Rules.Rule.{◌≤ʳ◌, ◌<ʳ◌, ◌≡ʳ◌, ◌and◌}
use Rattle.settings.specs.Settings.{window_length_of, samples_rule, frequency_rule, declared_rule, limit_rule, levels_rule, order_rule}
use Rattle.numbers.specs.Rules.{Rule}
use Rattle.reading.specs.Feed.{last_value}
use Rattle.reading.specs.Layout.{places}
use Rattle.reading.specs.Restore.{value_most, gatherer_rule, places_rule, phase_rule, standing_rule}
use Rattle.rms.specs.Gather.{gatherer_row}
use Rattle.threshold.specs.declared.Standing.{Standing}
use Rattle.rvc.specs.declared.Signal.{Signal}
use Rattle.rvc.specs.declared.Signal.TheVariants.{Filling, Unsettled, Steady, Changing}
use Rattle.rvc.specs.Signal.{ValidSignal}
use Rattle.rvc.specs.Phase.{phase_row, phase_mark}
use Rattle.state.proofs.ValidSettled.{settle}
use Rattle.three_reading.specs.Three.{at}
use Rattle.three_state.specs.declared.ThreeState.{ThreeState}
use Rattle.three_state.specs.ThreeState.{ValidThree}

signal-settled : {A : Type 0} (n v : ℕ) (p : Signal) → ∥ A ∥₁ → (A → ValidSignal n v p) → ValidSignal n v p
signal-settled n v Filling some f = settle (v <ʳ n) some f
signal-settled n v Unsettled some f = settle (n ≤ʳ v) some f
signal-settled n v Steady some f = settle (n ≤ʳ v) some f
signal-settled n v (Changing k) some f = settle ((n <ʳ k) and (k ≤ʳ v)) some f

same-flag : (x y : Bool) → flag x ≡ flag y → x ≡ y
same-flag true true e = refl
same-flag true false e = absurd (omega arith)
same-flag false true e = absurd (omega arith)
same-flag false false e = refl

module _ (st : ThreeState) (some : ∥ ValidThree st ∥₁) where
  abbrev n : ℕ
  n = window_length_of st.settings

  abbrev v : ℕ
  v = st.joint.count

  abbrev standing : Standing → Rule
  standing p = standing_rule v p.start p.magnitude (flag p.clipped)

  pub three-settled : ValidThree st
  three-settled = record {
    settings-valid = record {
      samples-valid = settle (samples_rule st.settings) some (λ h. h.settings-valid.samples-valid);
      frequency-valid = settle (frequency_rule st.settings) some (λ h. h.settings-valid.frequency-valid);
      declared-valid = settle (declared_rule st.settings) some (λ h. h.settings-valid.declared-valid);
      limit-valid = settle (limit_rule st.settings) some (λ h. h.settings-valid.limit-valid);
      levels-valid = settle (levels_rule st.settings) some (λ h. h.settings-valid.levels-valid);
      order-valid = settle (order_rule st.settings) some (λ h. h.settings-valid.order-valid);
    };
    gatherer-valid = λ c. settle (gatherer_rule st.settings.samples (gatherer_row (at c st.gatherers))) some (λ h. h.gatherer-valid c);
    joint-valid = record {
      dip-valid = settle (standing st.joint.standings.dip) some (λ h. h.joint-valid.dip-valid);
      swell-valid = settle (standing st.joint.standings.swell) some (λ h. h.joint-valid.swell-valid);
      interruption-valid = settle (standing st.joint.standings.interruption) some (λ h. h.joint-valid.interruption-valid);
      signal-valid = λ c. signal-settled n v (at c st.joint.own).signal some (λ h. h.joint-valid.signal-valid c);
      phase-valid = λ c.
          let p = (at c st.joint.own).phase in
          settle (phase_rule n v (phase_row p) (phase_mark p)) some (λ h. h.joint-valid.phase-valid c);
    };
    window-valid = λ c. record {
      size = settle (length (at c st.windows) ≡ʳ places) some (λ h. (h.window-valid c).size);
      allowed = settle (places_rule value_most n v (at c st.windows)) some (λ h. (h.window-valid c).allowed);
    };
    marks-valid = record {
      size = settle (length st.marks ≡ʳ places) some (λ h. h.marks-valid.size);
      allowed = settle (places_rule 1 n v st.marks) some (λ h. h.marks-valid.allowed);
    };
    count-le = settle (v ≤ʳ last_value) some (λ h. h.count-le);
    same_count = λ c. settle ((at c st.gatherers).count ≡ʳ st.gatherers.a.count) some (λ h. h.same_count c);
    same_whole = λ c.
        same-flag (at c st.gatherers).whole st.gatherers.a.whole
        (settle (flag (at c st.gatherers).whole ≡ʳ flag st.gatherers.a.whole) some (λ h. ap flag (h.same_whole c)));
  }
