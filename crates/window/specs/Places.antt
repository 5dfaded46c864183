-- A list of numbers is the list of the number of each.
use Rattle.std.specs.Prelude.{◌≡◌, ℕ, List, map}
use Rattle.std.proofs.Common.{sym}
use Rattle.std.proofs.lemmas.List.{map-id}

pub same_numbers : (l : List ℕ) → l ≡ map (λ (n : ℕ). n) l
same_numbers l = sym (map-id l)
