-- The pushed window: its values are those that stay and the new one, and its sum follows from the sum before.
use Rattle.std.specs.Prelude.{◌≡◌, ℕ, zero, suc, ◌+◌, ◌-◌, ◌<◌, ◌≤◌, Bool, true, false, ◌&&◌, List, [], ◌∷◌, ◌++◌, length, take, drop, slice_index, slice_range, slice_set, refl, if◌then◌else◌}
use Rattle.std.proofs.Common.{ap, sym, ◌∙◌, arith, length-drop, length-take-le, take-suc-set, le-ltb, ltb-true}
use Rattle.std.proofs.Math.Bool.{and_assoc}
use Rattle.std.proofs.Math.Seq.{take-append-add}
use Rattle.numbers.specs.Notation.{◌<ᵇ◌, all}
use Rattle.reading.specs.Changes.{sum}
use Rattle.window.specs.Window.{pushed, staying, leaving}

-- two lists, one after the other
pub sum-append : (xs ys : List ℕ) → sum (xs ++ ys) ≡ sum xs + sum ys
sum-append [] ys = omega arith
sum-append (x ∷ xs) ys = omega (arith, sum-append xs ys)

pub all_append : (test : ℕ → Bool) (xs ys : List ℕ) → all test (xs ++ ys) ≡ (all test xs && all test ys)
all_append test [] ys = refl
all_append test (x ∷ xs) ys = ap (λ (b : Bool). test x && b) (all_append test xs ys) ∙ sym (and_assoc (test x) (all test xs) (all test ys))

-- the full window after value r
module _ (n v r : ℕ) (w : List ℕ) (some : 0 < n) (full : n ≤ suc v) (long : n ≤ length w) where
  pub take-pushed : take n (pushed n v w r) ≡ staying n v w ++ (r ∷ [])
  take-pushed = go (v <ᵇ n) refl
    where
      go : (b : Bool) → (v <ᵇ n) ≡ b →
          take n (if b then slice_set w v r else slice_range w 1 n ++ (r ∷ drop n w)) ≡ take (n - 1) (drop (if b then 0 else 1) w) ++ (r ∷ [])
      go true e =
          let q : v ≡ n - 1 = omega (arith, ltb-true v n e) in
          let k : n ≡ suc (n - 1) = omega arith in
          rw q (ap (λ (m : ℕ). take m (slice_set w (n - 1) r)) k ∙ take-suc-set w (n - 1) r (omega arith))
      go false e =
          let stay : List ℕ = take (n - 1) (drop 1 w) in
          let l : length stay ≡ n - 1 = length-take-le (n - 1) (drop 1 w) (omega (arith, length-drop 1 w)) in
          let k : n ≡ length stay + 1 = omega arith in
          ap (λ (m : ℕ). take m (stay ++ (r ∷ drop n w))) k ∙ take-append-add stay (r ∷ drop n w) 1

  pub sum-after : sum (take n (pushed n v w r)) ≡ sum (staying n v w) + r
  sum-after = ap sum take-pushed ∙ omega (arith, sum-append (staying n v w) (r ∷ []))

-- what leaves the full window
pub leaving-full : (n v : ℕ) (w : List ℕ) → n ≤ v → leaving n v w ≡ slice_index w 0
leaving-full n v w full = rw (le-ltb v n full)

-- 0 into a window of zeros leaves it as it was
set-zero : (w : List ℕ) (i : ℕ) → sum w ≡ 0 → slice_set w i 0 ≡ w
set-zero [] i e = refl
set-zero (x ∷ w) zero e = let z : 0 ≡ x = omega arith in ap (λ (y : ℕ). y ∷ w) z
set-zero (x ∷ w) (suc i) e = ap (λ (l : List ℕ). x ∷ l) (set-zero w i (omega arith))

shift_zero : (m : ℕ) (w : List ℕ) → sum w ≡ 0 → suc m ≤ length w → take m (drop 1 w) ++ (0 ∷ drop (suc m) w) ≡ w
shift_zero m [] e h = absurd (omega arith)
shift_zero zero (x ∷ w) e h = let z : 0 ≡ x = omega arith in ap (λ (y : ℕ). y ∷ w) z
shift_zero (suc m) (x ∷ []) e h = absurd (omega arith)
shift_zero (suc m) (x ∷ y ∷ w) e h = let z : y ≡ x = omega arith in λ i. z i ∷ shift_zero m (y ∷ w) (omega arith) (omega arith) i

pub pushed-zero : (n v : ℕ) (w : List ℕ) → 0 < n → n ≤ length w → sum w ≡ 0 → pushed n v w 0 ≡ w
pushed-zero n v w some long none = go (v <ᵇ n)
  where
    go : (b : Bool) → (if b then slice_set w v 0 else slice_range w 1 n ++ (0 ∷ drop n w)) ≡ w
    go true = set-zero w v none
    go false =
        let k : n ≡ suc (n - 1) = omega arith in
        ap (λ (j : ℕ). slice_range w 1 n ++ (0 ∷ drop j w)) k ∙ shift_zero (n - 1) w none (omega arith)
