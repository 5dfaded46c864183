-- The invariant: the first i places of each lane hold the first i samples of its channel.
use Rattle.three_reading.specs.Three.{triples_of, channel}
use Rattle.three_reading.specs.Three.Channel.{on_a, on_b, on_c}
use Rattle.lanes.proofs.Laying.{Laid}
use Rattle.lanes.proofs.split_in_order.Given as goal

abbrev pub invariant-loop-i : goal.invariant-loop-i
invariant-loop-i l =
    Laid (channel on_a (triples_of l.block)) l.i l.initial.a l.a × Laid (channel on_b (triples_of l.block)) l.i l.initial.b l.b × Laid (channel on_c (triples_of l.block)) l.i l.initial.c l.c
