-- The invariant `Walking`: what is fed so far, and the cut of what is left. It starts, turns and ends by the laws of Walking.
use Prim.Native.Nat.{◌-◌}
use lib.ListN.{length}
use Rattle.feed.proofs.Walking.{Walking}
use Rattle.feed.proofs.walk.Given as goal

abbrev pub invariant-loop-share : goal.invariant-loop-share
invariant-loop-share l = Walking l.settings l.fn.state l.block l.fn.records l.state l.records l.g l.d l.sums l.at l.written l.share

abbrev pub decreases-loop-share : goal.decreases-loop-share
decreases-loop-share l = length l.block - l.at
