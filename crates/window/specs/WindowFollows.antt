-- The window follows the history, and the sum and the calm of a window are those of the history that left it.
use Rattle.std.specs.Prelude.{◌≡◌, ℕ, zero, suc, ◌-◌, ◌*◌, ◌<◌, ◌≤◌, min, Bool, true, false, ◌&&◌, List, [], ◌∷◌, ◌++◌, reverse, length, take, drop}
use Rattle.std.specs.Prelude.{replicate, slice_index, slice_set, refl, if◌then◌else◌}
use Rattle.std.proofs.Common.{sym, ◌∙◌, ap, arith, length-take, take_all, take-suc, take_at, drop_at, ltb-true, ltb-false}
use Rattle.std.proofs.Math.Bool.{and-true, and_comm}
use mathlib.Core.List.{reverse-cons, append_assoc, reverse-append}
use Rattle.std.proofs.lemmas.List.{length-reverse, set_at, get_or_at}
use Rattle.std.proofs.Math.Seq.{take-nil}
use Rattle.numbers.specs.Notation.{◌<ᵇ◌, all}
use Rattle.settings.specs.declared.Settings.{Settings}
use Rattle.settings.specs.Settings.{window_length_of}
use Rattle.reading.specs.Changes.{sum, window_sum, within, calm}
use Rattle.window.specs.Window.{pushed, window_of}
use Rattle.window.specs.WindowLaws.{sum-append, all_append}

-- before the first value all places are 0
pub window_of-none : (n : ℕ) → window_of n [] ≡ replicate 120 0
window_of-none n = rw (take-nil {A = ℕ} n)

-- the oldest of m + 1 values comes first
reverse-take : (m : ℕ) (hist : List ℕ) → m < length hist → reverse (take (suc m) hist) ≡ slice_index hist m ∷ reverse (take m hist)
reverse-take m hist h = ap reverse (take-suc hist m 0 h) ∙ reverse-append (take m hist) (slice_index hist m ∷ [])

-- with a value more, while places are free: it takes the first of them
follows-filling : (n r : ℕ) (older : List ℕ) → n ≤ 120 → length older < n → slice_set (window_of n older) (length older) r ≡ window_of n (r ∷ older)
follows-filling n r older most few =
    let e : take n older ≡ older = take_all n older (omega arith) in
    let e' : take n (r ∷ older) ≡ r ∷ older = take_all n (r ∷ older) (omega arith) in
    let k : 120 - length older ≡ suc (120 - suc (length older)) = omega arith in
    let p : length (reverse older) ≡ length older = length-reverse older in
    let q : length (reverse (r ∷ older)) ≡ suc (length older) = length-reverse (r ∷ older) in
    let rest : List ℕ = replicate (120 - suc (length older)) 0 in
    rw (e, e', p, q, k)
    (set_at (reverse older) 0 rest r (length older) p
    ∙ sym (append_assoc (reverse older) (r ∷ []) rest)
    ∙ ap (λ (l : List ℕ). l ++ rest) (sym (reverse-cons r older)))

-- and once all are used: the oldest leaves
follows-full : (m r : ℕ) (older : List ℕ) → m < length older →
    take (suc m - 1) (drop 1 (window_of (suc m) older)) ++ (r ∷ drop (suc m) (window_of (suc m) older)) ≡ window_of (suc m) (r ∷ older)
follows-full m r older full =
    let stay : List ℕ = reverse (take m older) in
    let rest : List ℕ = replicate (120 - suc m) 0 in
    let e : reverse (take (suc m) older) ≡ slice_index older m ∷ stay = reverse-take m older full in
    let p : length stay ≡ m = simp (length-reverse, length-take) (omega arith) in
    let q : length (reverse (r ∷ take m older)) ≡ suc m = simp (length-reverse, length-take) (omega arith) in
    let d : suc m - 1 ≡ m = omega arith in
    rw (e, q, d, p)
    (rw (take_at stay rest m p, drop_at stay rest m p)
    (sym (append_assoc stay (r ∷ []) rest) ∙ ap (λ (l : List ℕ). l ++ rest) (sym (reverse-cons r (take m older)))))

pub window-follows : (n r : ℕ) (older : List ℕ) → 0 < n → n ≤ 120 → pushed n (length older) (window_of n older) r ≡ window_of n (r ∷ older)
window-follows zero r older some most = absurd (omega arith)
window-follows (suc m) r older some most = go (length older <ᵇ suc m) refl
  where
    go : (b : Bool) → (length older <ᵇ suc m) ≡ b →
        (if b then slice_set (window_of (suc m) older) (length older) r
        else take (suc m - 1) (drop 1 (window_of (suc m) older)) ++ (r ∷ drop (suc m) (window_of (suc m) older))) ≡ window_of (suc m) (r ∷ older)
    go true e = follows-filling (suc m) r older most (ltb-true _ _ e)
    go false e = follows-full m r older (ltb-false _ _ e)

-- a sum and a test of all values do not depend on the order
sum-reverse : (l : List ℕ) → sum (reverse l) ≡ sum l
sum-reverse [] = refl
sum-reverse (x ∷ l) = ap sum (reverse-cons x l) ∙ omega (arith, sum-append (reverse l) (x ∷ []), sum-reverse l)

all-reverse : (test : ℕ → Bool) (l : List ℕ) → all test (reverse l) ≡ all test l
all-reverse test [] = refl
all-reverse test (x ∷ l) =
    ap (all test) (reverse-cons x l)
    ∙ all_append test (reverse l) (x ∷ [])
    ∙ (λ i. all-reverse test l i && and-true (test x) i)
    ∙ and_comm (all test l) (test x)

-- the full window holds the last n values, oldest first
take-window_of : (n : ℕ) (hist : List ℕ) → n ≤ length hist → take n (window_of n hist) ≡ reverse (take n hist)
take-window_of n hist full =
    let p : length (reverse (take n hist)) ≡ n = simp (length-reverse, length-take) (omega arith) in
    take_at (reverse (take n hist)) _ n p

module _ (s : Settings) where
  pub window_sum-window_of : (hist : List ℕ) → window_length_of s ≤ length hist → window_sum s (window_of (window_length_of s) hist) ≡ window_sum s hist
  window_sum-window_of hist full = ap sum (take-window_of (window_length_of s) hist full) ∙ sum-reverse (take (window_length_of s) hist)

  pub calm-window_of : (t : ℕ) (hist : List ℕ) → window_length_of s ≤ length hist → calm s t (window_of (window_length_of s) hist) ≡ calm s t hist
  calm-window_of t hist full =
      let n : ℕ = window_length_of s in
      let limit : ℕ = t * n * s.declared in
      (λ i. all (within n (window_sum-window_of hist full i) limit) (take-window_of n hist full i))
      ∙ all-reverse (within n (window_sum s hist) limit) (take n hist)

-- its two ends
pub oldest-is : (n : ℕ) (hist : List ℕ) → 0 < n → n ≤ length hist → slice_index (window_of n hist) 0 ≡ slice_index hist (n - 1)
oldest-is zero hist some full = absurd (omega arith)
oldest-is (suc m) hist some full =
    let d : suc m - 1 ≡ m = omega arith in
    rw (reverse-take m hist full, d)

pub newest-is : (n : ℕ) (r : ℕ) (older : List ℕ) → 0 < n → slice_index (window_of n (r ∷ older)) (min (suc (length older)) n - 1) ≡ r
newest-is zero r older some = absurd (omega arith)
newest-is (suc m) r older some =
    let stay : List ℕ = reverse (take m older) in
    let kept : List ℕ = reverse (r ∷ take m older) in
    let rest : List ℕ = replicate (120 - length kept) 0 in
    let last : ℕ = min (suc (length older)) (suc m) - 1 in
    let p : length stay ≡ last = simp (length-reverse, length-take) (omega arith) in
    ap (λ (l : List ℕ). slice_index (l ++ rest) last) (reverse-cons r (take m older))
    ∙ ap (λ (l : List ℕ). slice_index l last) (append_assoc stay (r ∷ []) rest)
    ∙ get_or_at stay r rest 0 last p
