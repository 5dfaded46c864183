-- What a change in progress carries follows the history, whatever signal it stands under: its sum stays, its greatest difference and its mark grow by the value
-- that leaves the window, the stand that it keeps as it is told. What begins with a value is the reading's change there, and what ends is the reading's event.
use Rattle.std.specs.Prelude.{◌≡◌, refl, Bool, true, false, ◌||◌, List, [], ◌∷◌, map, ℕ, zero, suc, ◌+◌, ◌-◌, ◌*◌, ◌≤◌, ◌<◌, max, length, take, drop, get_or, if◌then◌else◌, Some, None}
use Rattle.std.proofs.Common.{sym, ◌∙◌, ap, arith, length-drop, drop-cons, ltb-true, ltb-false}
use Rattle.settings.specs.declared.Settings.{Settings}
use Rattle.numbers.specs.Notation.{◌<ᵇ◌, ◌≡ᵇ◌, flag}
use Rattle.settings.specs.Settings.{window_length_of}
use Rattle.settings.specs.SettingsLaws.{window_length_of-some, window_length_of-most}
use Rattle.reading.specs.Values.{since, up_to}
use Rattle.reading.specs.Clipping.{any_marked, clipped_from, record_of}
use Rattle.reading.specs.Changes.{window_sum, gap, first_stand, dip_or_swell, stood_before, sum_before, farthest, greatest_difference, change_event}
use Rattle.reading.specs.Image.{stand_number}
use Rattle.reading_laws.specs.SignalLaws.{up_to-older}
use Rattle.threshold.specs.Standing.{list_of}
use Rattle.window.specs.Window.{window_of}
use Rattle.window.specs.WindowLaws.{leaving-full}
use Rattle.window.specs.WindowFollows.{window-follows, window_sum-window_of, oldest-is}
use Rattle.rvc.specs.declared.Stands.{Stands}
use Rattle.rvc.specs.StandLaws.{kept-settled}
use Rattle.rvc.specs.Phase.{change_from, grown, closing, joining_newest, change_under, change_up_to, dropped, change_ended, stands_first}

-- the history before its n newest values, and its values from k on
up_to-settled : (n : ℕ) (hist : List ℕ) → n ≤ length hist → up_to (length hist - n) hist ≡ drop n hist
up_to-settled n hist full = let e : length hist - (length hist - n) ≡ n = omega arith in rw e

since-settled : (n k : ℕ) (hist : List ℕ) → n ≤ length hist → since k (up_to (length hist - n) hist) ≡ take (suc (length hist) - (k + n)) (drop n hist)
since-settled n k hist full =
    let e : suc (length (drop n hist)) - k ≡ suc (length hist) - (k + n) = omega (arith, length-drop n hist) in
    ap (since k) (up_to-settled n hist full) ∙ ap (λ (m : ℕ). take m (drop n hist)) e

-- the values from k to V − N, with a value more: none joins while the change is younger than the window, then the one that leaves it
settled-grows : (n k r : ℕ) (older : List ℕ) → 0 < n → 0 < k →
    let rest = take (suc (length older) - (k + n)) (drop n older) in
    take (suc (suc (length older)) - (k + n)) (drop n (r ∷ older)) ≡ (if suc (length older) - k <ᵇ n then rest else get_or (window_of n older) 0 0 ∷ rest)
settled-grows zero k r older some late = absurd (omega arith)
settled-grows (suc m) k r older some late = go (suc (length older) - k <ᵇ suc m) refl
  where
    rest : List ℕ
    rest = take (suc (length older) - (k + suc m)) (drop (suc m) older)

    go : (b : Bool) → (suc (length older) - k <ᵇ suc m) ≡ b →
        take (suc (suc (length older)) - (k + suc m)) (drop m older) ≡ (if b then rest else get_or (window_of (suc m) older) 0 0 ∷ rest)
    go true e =
        let young : suc (length older) - k < suc m = ltb-true _ _ e in
        let p : suc (suc (length older)) - (k + suc m) ≡ 0 = omega arith in
        let q : suc (length older) - (k + suc m) ≡ 0 = omega arith in
        rw (p, q)
    go false e =
        let old : suc m ≤ suc (length older) - k = ltb-false _ _ e in
        let p : suc (suc (length older)) - (k + suc m) ≡ suc (suc (length older) - (k + suc m)) = omega arith in
        let d : suc m - 1 ≡ m = omega arith in
        rw (p, drop-cons older m 0 (omega arith), oldest-is (suc m) older some (omega arith), d)

-- so what is told of them, from one to the next
since-grows : (s : Settings) (k r : ℕ) (older : List ℕ) → window_length_of s < k → k ≤ length older →
    let before = since k (up_to (length older - window_length_of s) older) in
    since k (up_to (suc (length older) - window_length_of s) (r ∷ older))
    ≡ (if suc (length older) - k <ᵇ window_length_of s then before else get_or (window_of (window_length_of s) older) 0 0 ∷ before)
since-grows s k r older late seen =
    let n : ℕ = window_length_of s in
    let old : ℕ = get_or (window_of n older) 0 0 in
    let before = since-settled n k older (omega arith) in
    since-settled n k (r ∷ older) (omega arith)
    ∙ settled-grows n k r older (window_length_of-some s) (omega arith)
    ∙ (λ j. if suc (length older) - k <ᵇ n then sym before j else old ∷ sym before j)

-- a change since k goes on with a value r, clipped or not, after older ones, each with its mark
module _ (s : Settings) (k r : ℕ) (older : List ℕ) (clipped : Bool) (ms : List ℕ) (beside : length ms ≡ length older)
    (late : window_length_of s < k) (seen : k ≤ length older) where
  sum-stays : sum_before s k (r ∷ older) ≡ sum_before s k older
  sum-stays = ap (window_sum s) (up_to-older (k - 1) r older (omega arith))

  difference-grows : greatest_difference s k (r ∷ older) ≡
      (if suc (length older) - k <ᵇ window_length_of s then greatest_difference s k older
      else max (gap (window_length_of s * get_or (window_of (window_length_of s) older) 0 0) (sum_before s k older)) (greatest_difference s k older))
  difference-grows =
      let n : ℕ = window_length_of s in
      let a : ℕ = sum_before s k older in
      (λ j. farthest n (sum-stays j) (since-grows s k r older late seen j)) ∙ go (suc (length older) - k <ᵇ n)
    where
      go : (b : Bool) → let before = since k (up_to (length older - window_length_of s) older) in
          farthest (window_length_of s) (sum_before s k older) (if b then before else get_or (window_of (window_length_of s) older) 0 0 ∷ before)
          ≡ (if b then greatest_difference s k older
          else max (gap (window_length_of s * get_or (window_of (window_length_of s) older) 0 0) (sum_before s k older)) (greatest_difference s k older))
      go true = refl
      go false = refl

  mark-grows : clipped_from s k (flag clipped ∷ ms) ≡
      (if suc (length older) - k <ᵇ window_length_of s then clipped_from s k ms else get_or (window_of (window_length_of s) ms) 0 0 ≡ᵇ 1 || clipped_from s k ms)
  mark-grows =
      ap any_marked (since-grows s k (flag clipped) ms late (omega arith))
      ∙ (ap (λ (v : ℕ). any_marked (if suc v - k <ᵇ window_length_of s then before else oldest ∷ before)) beside ∙ go (suc (length older) - k <ᵇ window_length_of s))
    where
      before : List ℕ
      before = since k (up_to (length ms - window_length_of s) ms)

      oldest : ℕ
      oldest = get_or (window_of (window_length_of s) ms) 0 0

      go : (b : Bool) → any_marked (if b then before else oldest ∷ before) ≡ (if b then clipped_from s k ms else oldest ≡ᵇ 1 || clipped_from s k ms)
      go true = refl
      go false = refl

  pub change-grows : (stands : Stands) (f f' : ℕ) → f' ≡ (if 0 <ᵇ f then f else if stands.first then suc (length older) else 0) →
      grown (window_length_of s) (joining_newest s r older ms stands) (change_under s older ms k f) ≡ change_under s (r ∷ older) (flag clipped ∷ ms) k f'
  change-grows stands f f' stand-grows =
      rw (
        leaving-full (window_length_of s) (length older) (window_of (window_length_of s) older) (omega arith),
        leaving-full (window_length_of s) (length older) (window_of (window_length_of s) ms) (omega arith),
      )
      (sym (λ j. record { start = k; sum = sum-stays j; difference = difference-grows j; stand = stand-grows j; clipped = mark-grows j }))

-- a change begins with a value
module _ (s : Settings) (r : ℕ) (older : List ℕ) (clipped : Bool) (ms : List ℕ) (beside : length ms ≡ length older) (full : window_length_of s ≤ length older) where
  -- nothing of it has left the window
  none-settled : (x : ℕ) (hist : List ℕ) → length hist ≡ length older → since (suc (length older)) (up_to (length (x ∷ hist) - window_length_of s) (x ∷ hist)) ≡ []
  none-settled x hist l =
      let n : ℕ = window_length_of s in
      let e : suc (suc (length hist)) - (suc (length older) + n) ≡ 0 = omega (arith, window_length_of-some s) in
      since-settled n (suc (length older)) (x ∷ hist) (omega arith) ∙ ap (λ (m : ℕ). take m (drop n (x ∷ hist))) e

  pub change-begins : (stands : Stands) (f : ℕ) → f ≡ (if stands.first || stands.before then suc (length older) else 0) →
      change_from (joining_newest s r older ms stands) ≡ change_under s (r ∷ older) (flag clipped ∷ ms) (suc (length older)) f
  change-begins stands f stand-is = λ j. record { start = i; sum = sum_is j; difference = difference-is j; stand = sym stand-is j; clipped = mark_is j }
    where
      i : ℕ
      i = suc (length older)

      sum_is : window_sum s (window_of (window_length_of s) older) ≡ sum_before s i (r ∷ older)
      sum_is = let e : suc (length older) - (suc (length older) - 1) ≡ 1 = omega arith in window_sum-window_of s older full ∙ rw e

      difference-is : 0 ≡ greatest_difference s i (r ∷ older)
      difference-is = sym (ap (farthest (window_length_of s) (sum_before s i (r ∷ older))) (none-settled r older refl))

      mark_is : false ≡ clipped_from s i (flag clipped ∷ ms)
      mark_is = sym (ap any_marked (none-settled (flag clipped) ms beside))

-- a change ends with a value
module _ (s : Settings) (r : ℕ) (older : List ℕ) (ms : List ℕ) where
  pub change-ends : (now : List ℕ) (k : ℕ) (stands : Stands) (f : ℕ) → window_length_of s ≤ suc (length older) →
      closing (window_length_of s) (joining_newest s r older ms stands) (change_under s (r ∷ older) now k f) ≡ change_ended s (r ∷ older) now k f
  change-ends now k stands f full =
      rw (window-follows (window_length_of s) r older (window_length_of-some s) (window_length_of-most s), window_sum-window_of s (r ∷ older) full)

-- its mark, where k + N is behind it: the last value of its first magnitude is m − N
pub settled-mark : (s : Settings) (k v : ℕ) (ms : List ℕ) → length ms ≡ v → k + window_length_of s ≤ v
    → clipped_from s k ms ≡ any_marked (since k (up_to (k + (v - window_length_of s - k)) ms))
settled-mark s k v ms beside full =
    let same : length ms - window_length_of s ≡ k + (v - window_length_of s - k) = omega arith in
    ap (λ (i : ℕ). any_marked (since k (up_to i ms))) same

-- its record
module _ (s : Settings) (hist ms : List ℕ) (beside : length ms ≡ length hist) where
  pub ended-listed : (k f : ℕ) → k + window_length_of s ≤ length hist →
      list_of (change_ended s hist ms k f) ≡ map (record_of ms) (if dropped s hist f then [] else change_up_to s hist k ∷ [])
  ended-listed k f full = listed (dropped s hist f)
    where
      listed : (b : Bool) → list_of (if b then None else Some (record { event = change_up_to s hist k; clipped = clipped_from s k ms }))
          ≡ map (record_of ms) (if b then [] else change_up_to s hist k ∷ [])
      listed true = refl
      listed false = λ j. record { event = change_up_to s hist k; clipped = settled-mark s k (length hist) ms beside full j } ∷ []

  -- of the reading's own change
  pub event-listed : (k : ℕ) → 0 < k → k + window_length_of s ≤ length hist → list_of (change_ended s hist ms k (stand_number s k hist)) ≡ map (record_of ms) (change_event s k hist)
  event-listed k some full = ended-listed k (stand_number s k hist) full ∙ ap (λ (b : Bool). map (record_of ms) (if b then [] else change_up_to s hist k ∷ [])) (sym dropped-is)
    where
      dropped-is : (stood_before s k hist || 0 <ᵇ first_stand s k (up_to (length hist - window_length_of s) hist)) ≡ dropped s hist (stand_number s k hist)
      dropped-is =
          ap (λ (l : List ℕ). stood_before s k hist || 0 <ᵇ first_stand s k l) (up_to-settled (window_length_of s) hist (omega arith))
          ∙ kept-settled (stands_first s) (first_stand s) (λ k. refl) (λ k r older. refl) (dip_or_swell s) k (window_length_of s) hist some full
