-- How the walk starts, turns and ends, by the laws of Walking.
use Prim.Native.Nat.{◌-◌, ◌*◌}
use native.Mathlib.Omega.{arith}
use lib.ListN.{length}
use borrow.Rule.Slice.PartMut.{same_len_mid}
use Rattle.reading.specs.Layout.{record_length}
use Rattle.feed.proofs.Walking.{walk-starts, taken-fits, taken-count, walk-turns, walk-stops, walk_ends}
use Rattle.feed.proofs.walk.Goals as goal

pub loop-share-init : goal.loop-share-init
loop-share-init c =
    walk-starts c.args.state.now c.args.block.now c.args.records.now c.requires _ c.cut-share.result
    (λ i. record { values = c.sum_of.ensures i; marks = c.sum_of-2.ensures i }) c.cut-share.ensures

pub returns-in-Err : goal.returns-in-Err
returns-in-Err c =
    walk-stops c.loop-share.invariant c.loop-share-test.true c.sum_squares-part.ensures c.in-Err.stop c.in-Err.ensures c.end_walk.new.state c.end_walk.ensures

pub overflow_add-written : goal.overflow_add-written
overflow_add-written c =
    let l = c.loop-share in
    let fits = taken-fits l.invariant c.loop-share-test.true c.sum_squares-part.ensures c.in-Ok.half c.in-Ok.ensures in
    omega (arith, fits)

pub cut-share-requires-in-Ok : goal.cut-share-requires-in-Ok
cut-share-requires-in-Ok c =
    taken-count c.loop-share.invariant c.loop-share-test.true c.sum_squares-part.ensures c.in-Ok.half c.in-Ok.ensures

pub loop-share-preserved : goal.loop-share-preserved
loop-share-preserved c =
    let l = c.loop-share in
    let half = c.complete in
    let behind = record_length * l.written in
    walk-turns l.invariant c.loop-share-test.true c.sum_squares-part.ensures c.in-Ok.half c.in-Ok.ensures c.cut-share-in-Ok.result
    c.cut-share-in-Ok.ensures (same_len_mid behind (length l.records - behind) l.records half.new.records half.auto.records)

pub returns : goal.returns
returns c =
    walk_ends c.loop-share.invariant c.loop-share-test.false c.end_walk-2.new.state c.end_walk-2.ensures
