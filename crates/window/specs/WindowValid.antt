-- What refusal 11 allows of a window is kept by the step, and so holds of what a history leaves; and the sum of such a window, from value to value.
use Rattle.std.specs.Prelude.{◌≡◌, ℕ, zero, suc, ◌+◌, ◌-◌, ◌*◌, ◌<◌, ◌≤◌, min, Bool, true, false, List, [], ◌∷◌, ◌++◌, length, take, drop, replicate}
use Rattle.std.specs.Prelude.{slice_index, slice_index_or, slice_set, refl, if◌then◌else◌}
use Rattle.std.proofs.Common.{sym, ◌∙◌, ap, subst, arith, take-append-drop, length-append, length-drop, length-set, get_or-set_other}
use Rattle.std.proofs.Common.{get_or-append-add, get_or-drop, length-take-le, ltb-true, ltb-false}
use Rattle.std.proofs.lemmas.List.{length-replicate}
use Rattle.numbers.specs.Notation.{◌<ᵇ◌}
use Rattle.reading.specs.Changes.{sum}
use Rattle.reading.specs.Layout.{places}
use Rattle.window.specs.Window.{pushed, leaving, window_of, Small, ValidWindow}
use Rattle.window.specs.WindowLaws.{sum-append}
use Rattle.window.specs.WindowFollows.{window_of-none, window-follows}

-- parts of small lists are small
small-append : {most : ℕ} (xs ys : List ℕ) → Small most xs → Small most ys → Small most (xs ++ ys)
small-append [] ys p q i = q i
small-append (x ∷ xs) ys p q zero = p zero
small-append (x ∷ xs) ys p q (suc i) = small-append xs ys (λ j. p (suc j)) q i

small-take : {most : ℕ} (n : ℕ) (l : List ℕ) → Small most l → Small most (take n l)
small-take zero l p i = omega arith
small-take (suc n) [] p i = omega arith
small-take (suc n) (x ∷ l) p zero = p zero
small-take (suc n) (x ∷ l) p (suc i) = small-take n l (λ j. p (suc j)) i

small-drop : {most : ℕ} (n : ℕ) (l : List ℕ) → Small most l → Small most (drop n l)
small-drop n l p i = rw (get_or-drop n l i 0) (p (n + i))

small-cons : {most : ℕ} (r : ℕ) (l : List ℕ) → r ≤ most → Small most l → Small most (r ∷ l)
small-cons r l h p zero = h
small-cons r l h p (suc i) = p i

small-set : {most : ℕ} (l : List ℕ) (h r : ℕ) → Small most l → r ≤ most → Small most (slice_set l h r)
small-set [] h r p q i = p i
small-set (x ∷ l) zero r p q zero = q
small-set (x ∷ l) zero r p q (suc i) = p (suc i)
small-set (x ∷ l) (suc h) r p q zero = p zero
small-set (x ∷ l) (suc h) r p q (suc i) = small-set l h r (λ j. p (suc j)) q i

-- what the rule says: values are small, and a place that is not used is 0
module _ {most n v : ℕ} {w : List ℕ} where
  pub unused : ValidWindow most n v w → (i : ℕ) → min v n ≤ i → slice_index w i ≡ 0
  unused valid i h = let e : i ≡ min v n + (i - min v n) = omega arith in rw e (sym (get_or-drop (min v n) w (i - min v n) 0) ∙ valid.allowed.1 (i - min v n))

  allow : length w ≡ places → Small most w → ((i : ℕ) → min v n ≤ i → slice_index w i ≡ 0) → ValidWindow most n v w
  allow size small none = record { size = size; allowed = (small, λ i. get_or-drop (min v n) w i 0 ∙ none (min v n + i) (omega arith)) }

-- a value more, while places are free
filling-valid : {most : ℕ} (n v r : ℕ) (w : List ℕ) → n ≤ 120 → v < n → r ≤ most → ValidWindow most n v w → ValidWindow most n (suc v) (slice_set w v r)
filling-valid n v r w fits few small valid =
    allow (length-set w v r ∙ valid.size) (small-set w v r valid.allowed.0 small)
    (λ i h. get_or-set_other w v i r 0 (omega arith) ∙ unused valid i (omega arith))

-- and once all are used
full-valid : {most : ℕ} (m v r : ℕ) (w : List ℕ) → suc m ≤ 120 → suc m ≤ v → r ≤ most → ValidWindow most (suc m) v w →
    ValidWindow most (suc m) (suc v) (take (suc m - 1) (drop 1 w) ++ (r ∷ drop (suc m) w))
full-valid {most} m v r w fits full small valid =
    let d : suc m - 1 ≡ m = omega arith in
    rw d (allow size small_all none)
  where
    stay : length (take m (drop 1 w)) ≡ m
    stay =
        let z : length w ≡ places = valid.size in
        length-take-le m (drop 1 w) (simp length-drop (omega arith))

    size : length (take m (drop 1 w) ++ (r ∷ drop (suc m) w)) ≡ 120
    size =
        let z : length w ≡ places = valid.size in
        simp (length-append, length-drop, stay) (omega arith)

    small_all : Small most (take m (drop 1 w) ++ (r ∷ drop (suc m) w))
    small_all =
        small-append (take m (drop 1 w)) (r ∷ drop (suc m) w) (small-take m (drop 1 w) (small-drop 1 w valid.allowed.0))
        (small-cons r (drop (suc m) w) small (small-drop (suc m) w valid.allowed.0))

    none : (i : ℕ) → min (suc v) (suc m) ≤ i → slice_index (take m (drop 1 w) ++ (r ∷ drop (suc m) w)) i ≡ 0
    none i h =
        let e : i ≡ length (take m (drop 1 w)) + suc (i - suc m) = omega (arith, stay) in
        rw e
        (get_or-append-add (take m (drop 1 w)) (r ∷ drop (suc m) w) (suc (i - suc m)) 0
        ∙ get_or-drop (suc m) w (i - suc m) 0
        ∙ unused valid (suc m + (i - suc m)) (omega arith))

pub pushed-valid : {most : ℕ} (n v r : ℕ) (w : List ℕ) → 0 < n → n ≤ 120 → r ≤ most → ValidWindow most n v w → ValidWindow most n (suc v) (pushed n v w r)
pushed-valid {most} zero v r w some fits small valid = absurd (omega arith)
pushed-valid {most} (suc m) v r w some fits small valid = go (v <ᵇ suc m) refl
  where
    go : (b : Bool) → (v <ᵇ suc m) ≡ b → ValidWindow most (suc m) (suc v) (if b then slice_set w v r else take (suc m - 1) (drop 1 w) ++ (r ∷ drop (suc m) w))
    go true e = filling-valid (suc m) v r w fits (ltb-true v (suc m) e) small valid
    go false e = full-valid m v r w fits (ltb-false v (suc m) e) small valid

-- what a history leaves is valid
zeros : (n i : ℕ) → slice_index_or {A = ℕ} (replicate n 0) i 0 ≡ 0
zeros zero i = refl
zeros (suc n) zero = refl
zeros (suc n) (suc i) = zeros n i

pub window_of-valid : {most : ℕ} (n : ℕ) (hist : List ℕ) → 0 < n → n ≤ 120 → Small most hist → ValidWindow most n (length hist) (window_of n hist)
window_of-valid {most} n [] some fits small =
    let none : ValidWindow most n 0 (replicate places 0) =
    allow (length-replicate {A = ℕ} places 0) (λ i. omega (arith, zeros places i)) (λ i h. zeros places i) in
    rw (window_of-none n) none
window_of-valid {most} n (r ∷ older) some fits small =
    subst (ValidWindow most n (suc (length older))) (window-follows n r older some fits)
    (pushed-valid n (length older) r (window_of n older) some fits (small 0) (window_of-valid n older some fits (λ i. small (suc i))))

-- the sum of the window, and of all places
sum-small : {most : ℕ} (l : List ℕ) → Small most l → sum l ≤ length l * most
sum-small [] p = omega arith
sum-small (x ∷ l) p = omega (arith, p zero, sum-small l (λ j. p (suc j)))

pub sum-le : {most : ℕ} (n v : ℕ) (w : List ℕ) → n ≤ 120 → ValidWindow most n v w → sum (take n w) ≤ n * most
sum-le n v w fits valid =
    let z : length w ≡ places = valid.size in
    let e : length (take n w) ≡ n = length-take-le n w (omega arith) in
    rw e at (sum-small (take n w) (small-take n w valid.allowed.0))

sum_zeros : (l : List ℕ) → ((i : ℕ) → slice_index l i ≡ 0) → sum l ≡ 0
sum_zeros [] p = refl
sum_zeros (x ∷ l) p = omega (arith, p zero, sum_zeros l (λ j. p (suc j)))

sum-split : (n : ℕ) (l : List ℕ) → sum l ≡ sum (take n l) + sum (drop n l)
sum-split n l = ap sum (sym (take-append-drop n l)) ∙ sum-append (take n l) (drop n l)

pub sum-all : {most : ℕ} (n v : ℕ) (w : List ℕ) → ValidWindow most n v w → sum (take n w) ≡ sum w
sum-all n v w valid =
    let rest : sum (drop n w) ≡ 0 = sum_zeros (drop n w) (λ i. get_or-drop n w i 0 ∙ unused valid (n + i) (omega arith)) in
    omega (arith, sum-split n w)

-- the sum from value to value: the new value comes, and the one that leaves goes
sum-set : (w : List ℕ) (i r : ℕ) → i < length w → sum (slice_set w i r) + slice_index w i ≡ sum w + r
sum-set [] i r h = absurd (omega arith)
sum-set (x ∷ w) zero r h = omega arith
sum-set (x ∷ w) (suc i) r h = omega (arith, sum-set w i r (omega arith))

sum_shifted : (m r : ℕ) (w : List ℕ) → 0 < length w → sum (take m (drop 1 w) ++ (r ∷ drop (suc m) w)) + slice_index w 0 ≡ sum w + r
sum_shifted m r [] h = absurd (omega arith)
sum_shifted m r (x ∷ w) h = omega (arith, sum-append (take m w) (r ∷ drop m w), sum-split m w)

pub sum-pushed : {most : ℕ} (n v r : ℕ) (w : List ℕ) → 0 < n → n ≤ 120 → ValidWindow most n v w → sum (pushed n v w r) + leaving n v w ≡ sum w + r
sum-pushed zero v r w some fits valid = absurd (omega arith)
sum-pushed (suc m) v r w some fits valid = go (v <ᵇ suc m) refl
  where
    go : (b : Bool) → (v <ᵇ suc m) ≡ b →
        sum (if b then slice_set w v r else take (suc m - 1) (drop 1 w) ++ (r ∷ drop (suc m) w)) + (if b then 0 else slice_index w 0) ≡ sum w + r
    go true e =
        let few : v < suc m = ltb-true v (suc m) e in
        let z : length w ≡ places = valid.size in
        omega (arith, sum-set w v r (omega arith), unused valid v (omega arith))
    go false e =
        let d : suc m - 1 ≡ m = omega arith in
        let z : length w ≡ places = valid.size in
        rw d (sum_shifted m r w (omega arith))

pub leaving-le : {most : ℕ} (n v : ℕ) (w : List ℕ) → ValidWindow most n v w → leaving n v w ≤ most
leaving-le {most} n v w valid = go (v <ᵇ n)
  where
    go : (b : Bool) → (if b then 0 else slice_index w 0) ≤ most
    go true = omega arith
    go false = valid.allowed.0 0
