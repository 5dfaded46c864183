-- The invariant: the flag is down where the places so far pass.
use Rattle.std.proofs.Common.{◌≡◌, not, take}
use Rattle.numbers.specs.Notation.{◌≤ᵇ◌, all}
use Rattle.rules.proofs.all_up_to.Given as goal

abbrev pub invariant-loop-place : goal.invariant-loop-place
invariant-loop-place g l = not l.above ≡ all (◌≤ᵇ l.most) (g.T.Place.numbers (take l.place-index l.places))
