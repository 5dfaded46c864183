-- The sum of the first i places and of one more.
use Rattle.std.proofs.Common.{◌≡◌, ℕ, ◌+◌, ◌<◌, List, [], ◌∷◌, ◌++◌, map, length, get_or, take, add-one, arith, ap, sym, ◌∙◌, take-suc}
use mathlib.Core.List.{map-append}
use Rattle.reading.specs.Changes.{sum}
use Rattle.window.specs.WindowLaws.{sum-append}

module _ {A : Type 0} (number : A → ℕ) (numbers : List A → List ℕ) (one_by_one : (l : List A) → numbers l ≡ map number l) where
  pub sum_more : (l : List A) (i : ℕ) (x : A) → i < length l → x ≡ get_or l i x → sum (numbers (take (i + 1) l)) ≡ sum (numbers (take i l)) + number x
  sum_more l i x h is =
      let one : take (i + 1) l ≡ take i l ++ (get_or l i x ∷ []) = rw add-one (take-suc l i x h) in
      ap (λ (t : List A). sum (numbers t)) one
      ∙ ap sum (one_by_one (take i l ++ (get_or l i x ∷ [])) ∙ map-append number (take i l) (get_or l i x ∷ []))
      ∙ sum-append (map number (take i l)) (number (get_or l i x) ∷ [])
      ∙ (λ j. sum (sym (one_by_one (take i l)) j) + (number (sym is j) + 0))
      ∙ omega arith
