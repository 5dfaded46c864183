-- The last test is the numbers' own, in the places that are not used.
use Rattle.std.proofs.Common.{◌≡◌, ℕ, ◌&&◌, min, List, [], ◌∷◌, length, refl, arith}
use Rattle.std.proofs.lemmas.Slice.{between_to_end}
use Rattle.numbers.specs.Notation.{◌≤ᵇ◌, ◌≡ᵇ◌, all}
use Rattle.rules.proofs.Places.{numbers-drop}
use Rattle.rules.proofs.places_good.Goals as goal

none : (n : ℕ) → (n ≤ᵇ 0) ≡ (n ≡ᵇ 0)
none n = grind arith

zeros : (l : List ℕ) → all (◌≤ᵇ 0) l ≡ all (◌≡ᵇ 0) l
zeros [] = refl
zeros (n ∷ l) = λ i. none n i && zeros l i

pub returns-then-all_up_to : goal.returns-then-all_up_to
returns-then-all_up_to g c =
    let place = g.T.Place in
    let places = c.args.places.now in
    let first = c.min-first_unused in
    let rest = between_to_end places first.result (length places) (omega arith) in
    rw (
      ← numbers-drop place.number place.numbers g.met.T.Place.one_by_one (min c.args.count c.args.window_length) places,
      ← first.ensures,
      ← rest,
      ← zeros,
      ← c.all_up_to.ensures,
      c.if-all_up_to.true,
    )
    c.all_up_to-then-all_up_to.ensures
