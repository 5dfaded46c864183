-- The invariant `Walking`: what is fed so far, and the cut of what is left. It starts, turns and ends by the laws of Walking.
use Rattle.std.proofs.Common.{◌-◌, length}
use Rattle.three_reading.specs.Three.{triples_of}
use Rattle.joint.specs.Joint.{three_of}
use Rattle.three_feed.proofs.Walking.{Walking}
use Rattle.three_feed.proofs.walk.Given as goal

abbrev pub invariant-loop-share : goal.invariant-loop-share
invariant-loop-share l =
    Walking l.settings l.fn.state l.block l.fn.records l.state l.records (three_of l.lane_a l.lane_b l.lane_c) l.g l.kept l.sums l.at l.written l.share

abbrev pub decreases-loop-share : goal.decreases-loop-share
decreases-loop-share l =
    length (triples_of l.block) - l.at
