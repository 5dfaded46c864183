-- The detector follows the history: stepped by a value it is the detector of the longer history, and the records due are those of the
-- reading.
use Rattle.std.specs.Prelude.{◌≡◌, Bool, ℕ, suc, length}
use Rattle.std.proofs.Math.Path.{sym, ap}
use Rattle.std.proofs.Common.{◌∙◌, ap₂}
use mathlib.Core.List.{List, ◌∷◌, ◌++◌, map, map-append}
use Rattle.numbers.specs.Notation.{flag}
use Rattle.settings.specs.declared.Settings.{Settings}
use Rattle.settings.specs.Settings.{window_length_of}
use Rattle.reading.specs.declared.Kind.{Kind}
use Rattle.reading.specs.declared.Kind.TheVariants.{Dip, Swell, Interruption}
use Rattle.reading.specs.declared.Event.{Event}
use Rattle.reading.specs.declared.Record.{Record}
use Rattle.rms.specs.declared.Marked.{Marked}
use Rattle.reading.specs.Thresholds.{begins, ends, kind_number, threshold_due}
use Rattle.reading.specs.Changes.{change_due}
use Rattle.reading.specs.Clipping.{record_of}
use Rattle.reading.specs.Records.{due}
use Rattle.threshold.specs.Standing.{stepped, ended_at, list_of, standing_of}
use Rattle.threshold.specs.StandingFollows.{follows, ended-follows as standing-ended}
use Rattle.window.specs.Window.{window_of}
use Rattle.rvc.specs.PhaseFollows.{phase-follows, ended-follows}
use Rattle.detection.specs.Detection.{detector_after, due_by, due_at, detector_of}

-- a value r, clipped or not, after older ones, each with its mark
module _ (s : Settings) (r : ℕ) (older : List ℕ) (clipped : Bool) (ms : List ℕ) (beside : length ms ≡ length older) where
  abbrev now : List ℕ
  now = flag clipped ∷ ms

  abbrev x : Marked
  x = record { value = r; clipped = clipped }

  steps : (k : Kind) → stepped k (suc (length older)) r clipped (begins s k r) (ends s k r) (standing_of s k older ms) ≡ standing_of s k (r ∷ older) now
  steps k = follows k r older clipped ms beside s

  pub detector-follows : detector_after s x (detector_of s older ms) (window_of (window_length_of s) older) (window_of (window_length_of s) ms) ≡ detector_of s (r ∷ older) now
  unfolding detector_after
  detector-follows = rw (steps Dip, steps Swell, steps Interruption, phase-follows s r older clipped ms beside)

  ended : (k : Kind) →
      list_of (ended_at (kind_number k) (suc (length older)) (standing_of s k older ms) (standing_of s k (r ∷ older) now)) ≡ map (record_of now) (threshold_due s k (r ∷ older))
  ended k = standing-ended k r older clipped ms beside s

  pub due-follows : due_at s x (detector_of s older ms) (window_of (window_length_of s) older) (window_of (window_length_of s) ms) ≡ map (record_of now) (due s (r ∷ older))
  unfolding due_by due_at
  due-follows =
      rw (steps Dip, steps Swell, steps Interruption)
      (ap₂ ◌++◌ (ended Dip) (ap₂ ◌++◌ (ended Swell) (ap₂ ◌++◌ (ended Interruption) (ended-follows s r older clipped ms beside)))
      ∙ sym (all-four (threshold_due s Dip (r ∷ older)) (threshold_due s Swell (r ∷ older)) (threshold_due s Interruption (r ∷ older)) (change_due s (r ∷ older))))
    where
      all-four : (a b c d : List Event) →
          map (record_of now) (a ++ (b ++ (c ++ d))) ≡ map (record_of now) a ++ (map (record_of now) b ++ (map (record_of now) c ++ map (record_of now) d))
      all-four a b c d =
          map-append (record_of now) a (b ++ (c ++ d))
          ∙ ap (λ (l : List Record). map (record_of now) a ++ l)
          (map-append (record_of now) b (c ++ d) ∙ ap (λ (l : List Record). map (record_of now) b ++ l) (map-append (record_of now) c d))
