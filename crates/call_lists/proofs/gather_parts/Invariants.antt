-- The gatherer is valid, and the cut gives a share of what is left. The measure: the samples left.
use Rattle.std.proofs.Common.{length}
use Rattle.call_lists.proofs.Gathering.{Parting}
use Rattle.call_lists.proofs.gather_parts.Given as goal

abbrev pub invariant-loop-share : goal.invariant-loop-share
invariant-loop-share l = Parting l.half_length l.samples l.gatherer l.halves l.rest l.share

abbrev pub decreases-loop-share : goal.decreases-loop-share
decreases-loop-share l = length l.rest
