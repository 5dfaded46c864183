-- What each step of the walk asks and leaves is a law of Walking.
use Rattle.std.proofs.Common.{◌+◌, ◌^◌, ◌<◌, ◌∙◌, refl, arith}
use Rattle.three_reading.specs.Three.Channel.{on_a, on_b, on_c}
use Rattle.joint.specs.Joint.{three_of}
use Rattle.three_half.specs.HalvesLaws.{sums-fit}
use Rattle.three_feed.proofs.Walking.{three-long, walk-starts, stop-ready, complete-ready, taken-fits, taken-count}
use Rattle.three_feed.proofs.Walking.{walk-turns, walk-stops, end-ready, walk_ends}
use Rattle.three_feed.proofs.walk.Goals as goal

pub sum_of-requires : goal.sum_of-requires
sum_of-requires c = omega (arith, (c.requires.0.window-valid on_a).size)

pub sum_of-requires-2 : goal.sum_of-requires-2
sum_of-requires-2 c = omega (arith, (c.requires.0.window-valid on_b).size)

pub sum_of-requires-3 : goal.sum_of-requires-3
sum_of-requires-3 c = omega (arith, (c.requires.0.window-valid on_c).size)

pub cut_of-share-requires : goal.cut_of-share-requires
cut_of-share-requires c = (c.requires.0.gatherer-valid on_a).0

pub loop-share-init : goal.loop-share-init
loop-share-init c =
    walk-starts c.args.state.now c.args.block.now c.args.records.now
    c.requires.0 c.requires.1 _ c.cut_of-share.result _
    (λ i. record { values = three_of (c.sum_of.ensures i) (c.sum_of-2.ensures i) (c.sum_of-3.ensures i); marks = c.sum_of-4.ensures i })
    c.cut_of-share.ensures (three-long _ refl refl refl)

pub complete-requires : goal.complete-requires
complete-requires c =
    complete-ready c.loop-share.invariant c.loop-share-test.true c.parts_of-parts.ensures.0 c.scaled-scaled.result c.scaled-scaled.ensures

pub end_walk-requires : goal.end_walk-requires
end_walk-requires c = stop-ready c.loop-share.invariant c.loop-share-test.true

pub returns-in-Err : goal.returns-in-Err
returns-in-Err c =
    walk-stops c.loop-share.invariant c.loop-share-test.true c.parts_of-parts.ensures.0 c.in-Err.stop c.in-Err.ensures
    c.end_walk.new.state c.end_walk.ensures

pub halves_of-g-requires : goal.halves_of-g-requires
halves_of-g-requires c =
    sums-fit (complete-ready c.loop-share.invariant c.loop-share-test.true c.parts_of-parts.ensures.0 c.scaled-scaled.result c.scaled-scaled.ensures)

pub overflow_add-written : goal.overflow_add-written
overflow_add-written c =
    let fits =
    taken-fits c.loop-share.invariant c.loop-share-test.true c.parts_of-parts.ensures.0 c.in-Ok.half c.in-Ok.ensures c.halves_of-g.ensures in
    let h : c.loop-share.written + c.in-Ok.half.written < 2 ^ 64 = omega (arith, fits, c.well_formed) in
    record { fits = h }

pub cut_of-share-requires-in-Ok : goal.cut_of-share-requires-in-Ok
cut_of-share-requires-in-Ok c =
    taken-count c.loop-share.invariant c.loop-share-test.true c.parts_of-parts.ensures.0 c.in-Ok.half c.in-Ok.ensures c.halves_of-g.ensures

pub loop-share-preserved : goal.loop-share-preserved
loop-share-preserved c =
    let p = c.parts_of-parts.auto in
    let long = c.loop-share.invariant.lanes-long in
    walk-turns c.loop-share.invariant c.loop-share-test.true c.parts_of-parts.ensures.0 c.in-Ok.half c.in-Ok.ensures c.halves_of-g.ensures
    c.cut_of-share-in-Ok.result _ c.cut_of-share-in-Ok.ensures (three-long _ (p.a ∙ long on_a) (p.b ∙ long on_b) (p.c ∙ long on_c))
    c.complete.auto.records

pub end_walk-requires-2 : goal.end_walk-requires-2
end_walk-requires-2 c = end-ready c.loop-share.invariant c.loop-share-test.false

pub returns : goal.returns
returns c = walk_ends c.loop-share.invariant c.loop-share-test.false c.end_walk-2.new.state c.end_walk-2.ensures
