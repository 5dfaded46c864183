-- The invariant: the sum is that of the places so far, each below 2^32, so that 120 of them fit.
use Rattle.std.proofs.Common.{◌≡◌, ◌*◌, ◌≤◌, take}
use Rattle.reading.specs.Changes.{sum as sum_of}
use Rattle.window.proofs.sum_of.Given as goal

abbrev pub invariant-loop-place : goal.invariant-loop-place
invariant-loop-place g l = (l.sum ≤ 4294967295 * l.place-index) × (l.sum ≡ sum_of (g.T.Place.numbers (take l.place-index l.part)))
