-- What refusal 11 allows of the detector is kept by the step, from every allowed state; and at most four records are due at one value.
use Rattle.std.specs.Prelude.{◌≡◌, List, [], ◌∷◌, ℕ, suc, ◌≤◌, length}
use Rattle.std.proofs.Common.{◌∙◌, ap, subst, arith}
use Rattle.numbers.specs.Notation.{◌≡ᵇ◌}
use Rattle.numbers.specs.NotationLaws.{back-flag}
use Rattle.settings.specs.declared.Settings.{Settings}
use Rattle.settings.specs.Settings.{window_length_of}
use Rattle.settings.specs.SettingsLaws.{window_length_of-some, window_length_of-most}
use Rattle.reading.specs.declared.Kind.{Kind}
use Rattle.reading.specs.declared.Kind.TheVariants.{Dip, Swell, Interruption}
use Rattle.rms.specs.declared.Marked.{Marked}
use Rattle.reading.specs.Restore.{value_most}
use Rattle.reading.specs.Thresholds.{begins, ends}
use Rattle.threshold.specs.declared.Standing.{Standing}
use Rattle.threshold.specs.Standing.{ValidStanding}
use Rattle.threshold.specs.StandingValid.{no_event-valid, stepped-valid}
use Rattle.window.specs.Window.{window_of, Small, ValidWindow}
use Rattle.window.specs.WindowValid.{window_of-valid}
use Rattle.records.specs.DueLaws.{records_of-most}
use Rattle.rvc.specs.PhaseValid.{phase-valid}
use Rattle.rvc.specs.PhaseRuleLaws.{allowed-valid}
use Rattle.rvc.specs.declared.Phase.TheVariants.{Filling}
use Rattle.detection.specs.declared.Detector.{Detector}
use Rattle.detection.specs.Detection.{step_of, stands_at, detector_after, due_by, due_at, detector_of, ValidDetector}
use Rattle.detection.specs.DetectionFollows.{detector-follows}

module _ (s : Settings) where
  pub detector_after-valid : (x : Marked) (d : Detector) (w ms : List ℕ) → x.value ≤ 524288 → ValidWindow value_most (window_length_of s) d.count w
      → ValidDetector (window_length_of s) d → ValidDetector (window_length_of s) (detector_after s x d w ms)
  unfolding detector_after
  detector_after-valid x d w ms h window v =
      let step : (k : Kind) (p : Standing) → ValidStanding d.count p → ValidStanding (suc d.count) (step_of s k (suc d.count) x p) =
      λ k p p-valid. stepped-valid k d.count x.value x.clipped p h p-valid (begins s k x.value) (ends s k x.value) in
      record {
        dip-valid = step Dip d.dip v.dip-valid;
        swell-valid = step Swell d.swell v.swell-valid;
        interruption-valid = step Interruption d.interruption v.interruption-valid;
        phase-valid =
            phase-valid s d.count w ms x.value (stands_at (suc d.count) d.dip d.swell (step_of s Dip (suc d.count) x d.dip) (step_of s Swell (suc d.count) x d.swell)) d.phase window v.phase-valid;
      }

  pub due-most : (x : Marked) (d : Detector) (w ms : List ℕ) → length (due_at s x d w ms) ≤ 4
  unfolding due_at
  due-most x d w ms = records_of-most (due_by s x d w ms)

  -- the detector that a history leaves is allowed
  pub detector_of-valid : (hist ms : List ℕ) → length ms ≡ length hist → Small value_most hist → Small 1 ms → ValidDetector (window_length_of s) (detector_of s hist ms)
  detector_of-valid [] ms e small marked = record {
    dip-valid = no_event-valid 0;
    swell-valid = no_event-valid 0;
    interruption-valid = no_event-valid 0;
    phase-valid = allowed-valid (window_length_of s) 0 Filling (window_length_of-some s);
  }
  detector_of-valid (r ∷ older) [] e small marked = absurd (omega arith)
  detector_of-valid (r ∷ older) (m ∷ ms) e small marked =
      let n = window_length_of s in
      let x : Marked = record { value = r; clipped = m ≡ᵇ 1 } in
      let window = window_of-valid n older (window_length_of-some s) (window_length_of-most s) (λ i. small (suc i)) in
      let before = detector_of-valid older ms (omega arith) (λ i. small (suc i)) (λ i. marked (suc i)) in
      subst (ValidDetector n)
      (detector-follows s r older (m ≡ᵇ 1) ms (omega arith) ∙ ap (λ (k : ℕ). detector_of s (r ∷ older) (k ∷ ms)) (back-flag m (marked 0)))
      (detector_after-valid x (detector_of s older ms) (window_of n older) (window_of n ms) (small 0) window before)
