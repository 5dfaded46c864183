-- The invariant: the first i places of each lane hold the first i samples that it is to have.
use Rattle.std.proofs.Common.{length}
use Rattle.three_reading.specs.Three.Channel.{on_a, on_b, on_c}
use Rattle.lanes.specs.Lanes.{lane_in}
use Rattle.lanes.proofs.Laying.{Laid}
use Rattle.lanes.proofs.split.Given as goal

abbrev pub invariant-loop-i : goal.invariant-loop-i
invariant-loop-i l =
    Laid (lane_in on_a (length l.initial.a) l.block) l.i l.initial.a l.a × Laid (lane_in on_b (length l.initial.a) l.block) l.i l.initial.b l.b × Laid (lane_in on_c (length l.initial.a) l.block) l.i l.initial.c l.c
