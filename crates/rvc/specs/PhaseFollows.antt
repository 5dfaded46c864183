-- The phase follows the history under any signal: stepped by a value, at which the signal is true or not, it is the phase of the longer history under the signal
-- as it then turns. Under its own signal that is the reading's phase, and the record that ends is the one that the reading has due, with its mark.
use Rattle.std.specs.Prelude.{◌≡◌, refl, Bool, true, false, ◌||◌, List, ◌∷◌, map, ℕ, suc, ◌-◌, ◌≤◌, ◌<◌, length, if◌then◌else◌}
use Rattle.std.proofs.Common.{sym, ◌∙◌, ap, arith}
use Rattle.numbers.specs.Notation.{◌<ᵇ◌, flag}
use Rattle.settings.specs.declared.Settings.{Settings}
use Rattle.settings.specs.Settings.{window_length_of}
use Rattle.reading.specs.Clipping.{record_of}
use Rattle.reading.specs.Changes.{calm, Signal, signal, first_stand, dip_or_swell, change_over, change_due}
use Rattle.reading.specs.Changes.Signal.{filling, unsettled, steady, changing}
use Rattle.reading.specs.Image.{stand_number}
use Rattle.threshold.specs.Standing.{list_of}
use Rattle.window.specs.Window.{window_of}
use Rattle.rvc.specs.declared.Change.{Change}
use Rattle.rvc.specs.declared.Stands.{Stands}
use Rattle.rvc.specs.declared.Joining.{Joining}
use Rattle.rvc.specs.declared.Phase.TheVariants.{Filling, Unsettled, Changing}
use Rattle.rvc.specs.declared.Moved.{Moved}
use Rattle.rvc.specs.Signal.{steady_after, signal_of, true_at, turned, ValidSignal}
use Rattle.rvc.specs.SignalLaws.{true-late}
use Rattle.rvc.specs.SignalFollows.{next-turned, signal-valid, true-follows}
use Rattle.rvc.specs.StandLaws.{kept-begins, kept-grows}
use Rattle.rvc.specs.Phase.{closing, moved_by, moved_after, joining_newest, phase_under, phase_on, phase_of, ended_under, stands_first, stands_newest}
use Rattle.rvc.specs.PhaseLaws.{signal-under}
use Rattle.rvc.specs.ChangeFollows.{change-grows, change-begins, change-ends, event-listed}

-- a value r, clipped or not, after older ones, each with its mark, and the dips and swells at it: `stand` and `after` tell what a change since k keeps of them,
-- before r and with it
module _ (s : Settings) (r : ℕ) (older : List ℕ) (clipped : Bool) (ms : List ℕ) (beside : length ms ≡ length older) (stands : Stands) (stand after : ℕ → ℕ)
    (begun : after (suc (length older)) ≡ (if stands.first || stands.before then suc (length older) else 0))
    (grows : (k : ℕ) → 0 < k → k ≤ length older → after k ≡ (if 0 <ᵇ stand k then stand k else if stands.first then suc (length older) else 0)) where
  abbrev n : ℕ
  n = window_length_of s

  abbrev i : ℕ
  i = suc (length older)

  abbrev hist : List ℕ
  hist = r ∷ older

  abbrev now : List ℕ
  now = flag clipped ∷ ms

  abbrev j : Joining
  j = joining_newest s r older ms stands

  pub phase-under : (b : Bool) (p : Signal) → ValidSignal n (length older) (signal_of p) →
      (moved_by n j b (phase_under s older ms stand p)).phase ≡ phase_under s hist now after (turned n i b p)
  phase-under true p h = refl
  phase-under false filling h = fills (i <ᵇ n)
    where
      fills : (few : Bool) → (if few then Filling else Unsettled) ≡ phase_under s hist now after (if few then filling else unsettled)
      fills true = refl
      fills false = refl
  phase-under false unsettled h = refl
  phase-under false steady h = ap Changing (change-begins s r older clipped ms beside h stands (after i) begun)
  phase-under false (changing k) h = ap Changing (change-grows s k r older clipped ms beside h.0 h.1 stands (stand k) (after k) (grows k (omega (arith, h.0)) h.1))

  pub ended-under : (b : Bool) (p : Signal) → ValidSignal n (length older) (signal_of p) →
      (moved_by n j b (phase_under s older ms stand p)).ended ≡ ended_under s hist now after b p
  ended-under false p h = refl
  ended-under true filling h = refl
  ended-under true unsettled h = refl
  ended-under true steady h = refl
  ended-under true (changing k) h =
      ap (λ (c : Change). closing n j c) (change-grows s k r older clipped ms beside h.0 h.1 stands (stand k) (after k) (grows k (omega (arith, h.0)) h.1))
      ∙ change-ends s r older ms now k stands (after k) (omega (arith, h.0, h.1))

-- under its own signal, the stand that is kept being the reading's
module _ (s : Settings) (r : ℕ) (older : List ℕ) (clipped : Bool) (ms : List ℕ) (beside : length ms ≡ length older) where
  abbrev was : Signal
  was = signal s older

  abbrev stands : Stands
  stands = stands_newest s r older

  -- what a change since k keeps of them
  abbrev from : List ℕ → ℕ → ℕ
  from hist k = stand_number s k hist

  abbrev true-now : Bool
  true-now = true_at s (r ∷ older) was

  -- value r joins the window that the older values leave
  abbrev moved : Moved
  moved = moved_after s (length older) (window_of (window_length_of s) older) (window_of (window_length_of s) ms) r stands (phase_of s older ms)

  begun : from (r ∷ older) (suc (length older)) ≡ (if stands.first || stands.before then suc (length older) else 0)
  begun = kept-begins (stands_first s) (first_stand s) (λ k. refl) (λ k r older. refl) (dip_or_swell s) r older

  grows : (k : ℕ) → 0 < k → k ≤ length older → from (r ∷ older) k ≡ (if 0 <ᵇ from older k then from older k else if stands.first then suc (length older) else 0)
  grows k some h = kept-grows (stands_first s) (first_stand s) (λ k. refl) (λ k r older. refl) (dip_or_swell s) k r older some h

  moved-is : moved ≡ moved_by (window_length_of s) (joining_newest s r older ms stands) true-now (phase_of s older ms)
  moved-is =
      ap (λ (b : Bool). moved_by (window_length_of s) (joining_newest s r older ms stands) b (phase_of s older ms))
      (ap (steady_after s (length older) (window_of (window_length_of s) older) r) (signal-under s older ms (from older) was) ∙ true-follows s r older was (signal-valid s older))

  pub phase-follows : moved.phase ≡ phase_of s (r ∷ older) (flag clipped ∷ ms)
  phase-follows =
      ap (λ (m : Moved). m.phase) moved-is
      ∙ phase-under s r older clipped ms beside stands (from older) (from (r ∷ older)) begun grows true-now was (signal-valid s older)
      ∙ ap (phase_on s (r ∷ older) (flag clipped ∷ ms)) (sym (next-turned s (r ∷ older) was))

  -- what ends is the reading's
  over : (p : Signal) (b : Bool) → ValidSignal (window_length_of s) (length older) (signal_of p) → true_at s (r ∷ older) p ≡ b →
      list_of (ended_under s (r ∷ older) (flag clipped ∷ ms) (from (r ∷ older)) b p)
      ≡ map (record_of (flag clipped ∷ ms)) (change_over s (r ∷ older) p (turned (window_length_of s) (suc (length older)) b p))
  over filling true h e = refl
  over filling false h e = refl
  over unsettled true h e = refl
  over unsettled false h e = refl
  over steady true h e = refl
  over steady false h e = refl
  over (changing k) true h e =
      let late = true-late (window_length_of s) (suc (length older)) k (calm s (s.limit - s.reduction) (r ∷ older)) e in
      event-listed s (r ∷ older) (flag clipped ∷ ms) (omega arith) k (omega (arith, h.0)) (omega (arith, late))
  over (changing k) false h e = refl

  pub ended-follows : list_of moved.ended ≡ map (record_of (flag clipped ∷ ms)) (change_due s (r ∷ older))
  ended-follows =
      ap (λ (m : Moved). list_of m.ended) moved-is
      ∙ ap list_of (ended-under s r older clipped ms beside stands (from older) (from (r ∷ older)) begun grows true-now was (signal-valid s older))
      ∙ over was true-now (signal-valid s older) refl
      ∙ ap (λ (p : Signal). map (record_of (flag clipped ∷ ms)) (change_over s (r ∷ older) was p)) (sym (next-turned s (r ∷ older) was))
