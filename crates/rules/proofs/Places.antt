-- The numbers of the places from the i-th on.
use Rattle.std.proofs.Common.{◌≡◌, ℕ, List, map, drop, ap, sym, ◌∙◌}
use Rattle.std.proofs.lemmas.List.{drop-map}

module _ {A : Type 0} (number : A → ℕ) (numbers : List A → List ℕ) (one_by_one : (l : List A) → numbers l ≡ map number l) where
  pub numbers-drop : (i : ℕ) (l : List A) → numbers (drop i l) ≡ drop i (numbers l)
  numbers-drop i l = one_by_one (drop i l) ∙ sym (drop-map number i l) ∙ ap (drop i) (sym (one_by_one l))
