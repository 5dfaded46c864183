-- The code's step under the phase's own signal is the step of the phase; and a phase of a history has the signal that it stands under.
use Rattle.std.specs.Prelude.{◌≡◌, refl, Bool, List, ℕ, ◌≤◌}
use Rattle.std.proofs.Common.{ap}
use Rattle.settings.specs.declared.Settings.{Settings}
use Rattle.settings.specs.Settings.{window_length_of, scaled_of, ValidSettings}
use Rattle.reading.specs.Changes.{Signal}
use Rattle.reading.specs.Changes.Signal.{filling, unsettled, steady, changing}
use Rattle.window.specs.Window.{staying, ValidWindow}
use Rattle.window.specs.WindowValid.{leaving-le}
use Rattle.rvc.specs.declared.Stands.{Stands}
use Rattle.rvc.specs.declared.Joining.{Joining}
use Rattle.rvc.specs.declared.Phase.{Phase}
use Rattle.rvc.specs.declared.Phase.TheVariants.{Filling, Unsettled, Steady, Changing}
use Rattle.rvc.specs.Signal.{signal_of, ValidSignal}
use Rattle.rvc.specs.SignalLaws.{test-ready, steady-is}
use Rattle.rvc.specs.Phase.{signal_in, moved_by, moved_on, joining_of, moved_after, phase_under, Joins, ValidPhase}
use Rattle.rvc.specs.PhaseRuleLaws.{Allowed, valid-allowed}

-- an allowed phase has a valid signal
pub valid-signal : (n v : ℕ) (p : Phase) → ValidPhase n v p → ValidSignal n v (signal_in p)
valid-signal n v p valid = go p (valid-allowed n v p valid)
  where
    go : (p : Phase) → Allowed n v p → ValidSignal n v (signal_in p)
    go Filling h = h
    go Unsettled h = h
    go Steady h = h
    go (Changing c) h = (h.0, h.1.0)

-- of a history under any signal
pub signal-under : (s : Settings) (hist ms : List ℕ) (stand : ℕ → ℕ) (p : Signal) → signal_in (phase_under s hist ms stand p) ≡ signal_of p
signal-under s hist ms stand filling = refl
signal-under s hist ms stand unsettled = refl
signal-under s hist ms stand steady = refl
signal-under s hist ms stand (changing k) = refl

module _ (s : Settings) (v : ℕ) (w ms : List ℕ) (r : ℕ) (stands : Stands) (window : ValidWindow 524288 (window_length_of s) v w) (p : Phase) where
  abbrev n : ℕ
  n = window_length_of s

  abbrev j : Joining
  j = joining_of (window_length_of s) v w ms r stands

  pub joins : ValidSettings s → r ≤ 524288 → Joins (scaled_of s) n j p
  joins settings small = record { test-ready = test-ready s v w r window (signal_in p) settings small; leaving-le = leaving-le n v w window }

  pub moved-is : ValidPhase n v p → moved_on (scaled_of s) n (staying n v w) j p ≡ moved_after s v w ms r stands p
  moved-is valid = ap (λ (b : Bool). moved_by n j b p) (steady-is s v w r window (signal_in p) (valid-signal n v p valid))
