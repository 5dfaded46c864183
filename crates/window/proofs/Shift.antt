-- The window with its first values moved down by one place: the store at the end then makes the pushed window.
use Rattle.std.proofs.Common.{◌≡◌, ℕ, zero, suc, ◌+◌, ◌-◌, ◌<◌, ◌≤◌, List, [], ◌∷◌, ◌++◌, length, take, drop, set, refl, ap, ◌∙◌, arith}
use Rattle.std.specs.List.{copy_within, slice_range}

module _ {A : Type 0} where
  stored-at : (w : List A) (m : ℕ) (r : A) → m < length w → set (take m (drop 1 w) ++ drop m w) m r ≡ take m (drop 1 w) ++ (r ∷ drop (suc m) w)
  stored-at [] m r h = absurd (omega arith)
  stored-at (a ∷ l) zero r h = refl
  stored-at (a ∷ []) (suc m) r h = absurd (omega arith)
  stored-at (a ∷ b ∷ l) (suc m) r h = ap (λ (t : List A). b ∷ t) (stored-at (b ∷ l) m r (omega arith))

  pub stored : (w : List A) (n : ℕ) (r : A) → 0 < n → n ≤ length w → set (copy_within w 1 n 0) (n - 1) r ≡ slice_range w 1 n ++ (r ∷ drop n w)
  stored w n r some long =
      let m = n - 1 in
      let k : suc m ≡ n = omega arith in
      let from : 0 + m ≡ m = omega arith in
      ap (λ (j : ℕ). set (take m (drop 1 w) ++ drop j w) m r) from
      ∙ stored-at w m r (omega arith)
      ∙ ap (λ (j : ℕ). take m (drop 1 w) ++ (r ∷ drop j w)) k
