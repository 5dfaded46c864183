-- The invariant: so many records are in the places passed, at most one in each.
use Rattle.std.proofs.Common.{◌≡◌, ◌≤◌, length, take}
use Rattle.records.specs.Due.{records_in}
use Rattle.records.proofs.Due.count.Given as goal

abbrev pub invariant-loop-ended : goal.invariant-loop-ended
invariant-loop-ended l = (l.count ≡ length (records_in (take l.ended-index l.ended-items))) × (l.count ≤ l.ended-index)
