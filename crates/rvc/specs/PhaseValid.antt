-- What refusal 11 allows of a phase is kept by the step, from every allowed state, also from one that no recording gives.
use Rattle.std.specs.Prelude.{◌≡◌, refl, Bool, true, false, ◌||◌, List, ℕ, suc, ◌+◌, ◌-◌, ◌*◌, ◌≤◌, ◌<◌, max, if◌then◌else◌}
use Rattle.std.proofs.Common.{arith, mul-le-mul_left, ltb-true, ltb-false}
use Rattle.numbers.specs.Notation.{◌<ᵇ◌, ◌≡ᵇ◌, flag}
use Rattle.numbers.specs.NotationLaws.{flag-most}
use Rattle.settings.specs.declared.Settings.{Settings}
use Rattle.settings.specs.Settings.{window_length_of}
use Rattle.settings.specs.SettingsLaws.{window_length_of-most}
use Rattle.reading.specs.Changes.{gap, calm}
use Rattle.window.specs.Window.{pushed, leaving, ValidWindow}
use Rattle.window.specs.WindowValid.{sum-le, leaving-le}
use Rattle.rvc.specs.declared.Change.{Change}
use Rattle.rvc.specs.declared.Phase.{Phase}
use Rattle.rvc.specs.declared.Phase.TheVariants.{Filling, Unsettled, Steady, Changing}
use Rattle.rvc.specs.declared.Stands.{Stands}
use Rattle.rvc.specs.declared.Joining.{Joining}
use Rattle.rvc.specs.Signal.{limit_in, steady_after}
use Rattle.rvc.specs.SignalLaws.{true-full}
use Rattle.rvc.specs.Phase.{signal_in, change_from, grown, moved_by, joining_of, moved_after, ValidChange, ValidPhase}
use Rattle.rvc.specs.PhaseLaws.{valid-signal}
use Rattle.rvc.specs.PhaseRuleLaws.{Allowed, allowed-valid, valid-allowed}

module _ (n v : ℕ) (w ms : List ℕ) (r : ℕ) (stands : Stands) (window : ValidWindow 524288 n v w) where
  abbrev j : Joining
  j = joining_of n v w ms r stands

  change_from-valid : n ≤ 120 → n ≤ v → ValidChange n (suc v) (change_from j)
  change_from-valid most full =
      (omega arith, (omega arith, (sum-le n v w most window, (omega arith, (λ e. refl, (stand (stands.first || stands.before), (omega arith, λ e. refl)))))))
    where
      stand : (b : Bool) → 0 < (if b then suc v else 0) → (suc v ≤ (if b then suc v else 0)) × ((if b then suc v else 0) ≤ suc v)
      stand true h = (omega arith, omega arith)
      stand false h = absurd (omega arith)

  grown-valid : (c : Change) → ValidChange n v c → ValidChange n (suc v) (grown n j c)
  grown-valid c (late, (seen, (sum-small, (difference-small, (early, (stood, (mark-most, mark-early))))))) = (
    late,
    (
      omega arith,
      (
        sum-small,
        (
          grows (suc v - c.start <ᵇ n),
          (
            λ e. stays e (suc v - c.start <ᵇ n) refl,
            (stand (0 <ᵇ c.stand) stands.first refl, (flag-most (clipped (suc v - c.start <ᵇ n)), λ e. unmarked e (suc v - c.start <ᵇ n) refl)),
          ),
        ),
      ),
    ),
  )
    where
      clipped : Bool → Bool
      clipped b = if b then c.clipped else leaving n v ms ≡ᵇ 1 || c.clipped

      unmarked : suc v < c.start + n → (b : Bool) → (suc v - c.start <ᵇ n) ≡ b → flag (clipped b) ≡ 0
      unmarked e true f = mark-early (omega arith)
      unmarked e false f = absurd (omega (arith, ltb-false (suc v - c.start) n f))

      difference : Bool → ℕ
      difference b = if b then c.difference else max (gap (n * leaving n v w) c.sum) c.difference

      grows : (b : Bool) → difference b ≤ n * 524288
      grows true = difference-small
      grows false = let h : n * leaving n v w ≤ n * 524288 = mul-le-mul_left n (leaving-le n v w window) in omega arith

      stays : suc v < c.start + n → (b : Bool) → (suc v - c.start <ᵇ n) ≡ b → difference b ≡ 0
      stays e true f = early (omega arith)
      stays e false f = absurd (omega (arith, ltb-false (suc v - c.start) n f))

      stand : (b here : Bool) → (0 <ᵇ c.stand) ≡ b → let at = if b then c.stand else if here then suc v else 0 in 0 < at → (c.start ≤ at) × (at ≤ suc v)
      stand true here f h = let s = stood h in (s.0, omega (arith, s.1))
      stand false true f h = (omega arith, omega arith)
      stand false false f h = absurd (omega arith)

-- under any truth b: a signal that is true has a full window
pub moved-valid : (n v : ℕ) (w ms : List ℕ) (r : ℕ) (stands : Stands) (b : Bool) (p : Phase) → n ≤ 120 → (b ≡ true → n ≤ suc v) → ValidWindow 524288 n v w → ValidPhase n v p →
    ValidPhase n (suc v) (moved_by n (joining_of n v w ms r stands) b p).phase
moved-valid n v w ms r stands b p most full window valid = allowed-valid n (suc v) (moved_by n j' b p).phase (go b p full (valid-allowed n v p valid))
  where
    j' : Joining
    j' = joining_of n v w ms r stands

    go : (b : Bool) (p : Phase) → (b ≡ true → n ≤ suc v) → Allowed n v p → Allowed n (suc v) (moved_by n j' b p).phase
    go true p full h = full refl
    go false Filling full h = fills (suc v <ᵇ n) refl
      where
        fills : (few : Bool) → (suc v <ᵇ n) ≡ few → Allowed n (suc v) (if few then Filling else Unsettled)
        fills true e = ltb-true (suc v) n e
        fills false e = ltb-false (suc v) n e
    go false Unsettled full h = omega arith
    go false Steady full h = change_from-valid n v w ms r stands window most h
    go false (Changing c) full h = grown-valid n v w ms r stands window c h

-- and under its own signal
pub phase-valid : (s : Settings) (v : ℕ) (w ms : List ℕ) (r : ℕ) (stands : Stands) (p : Phase) → ValidWindow 524288 (window_length_of s) v w → ValidPhase (window_length_of s) v p →
    ValidPhase (window_length_of s) (suc v) (moved_after s v w ms r stands p).phase
phase-valid s v w ms r stands p window valid =
    let n = window_length_of s in
    let full = true-full n v (signal_in p) (calm s (limit_in s (signal_in p)) (pushed n v w r)) (valid-signal n v p valid) in
    moved-valid n v w ms r stands (steady_after s v w r (signal_in p)) p (window_length_of-most s) full window valid
