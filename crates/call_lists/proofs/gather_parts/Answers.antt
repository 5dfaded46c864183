-- A share more.
use Rattle.std.proofs.Common.{◌+◌, arith}
use Rattle.call_lists.proofs.Gathering.{parting, none-valid, half-valid}
use Rattle.call_lists.proofs.gather_parts.Goals as goal

pub loop-share-init : goal.loop-share-init
loop-share-init c =
    parting _ _ _ 0 _ _ (none-valid _ _ c.new-gatherer.ensures (omega arith)) (omega arith) c.cut-share.ensures

pub loop-share-preserved : goal.loop-share-preserved
loop-share-preserved c =
    let loop = c.loop-share in
    let some = loop.invariant.some c.loop-share-test.true in
    parting _ _ _ (loop.halves + 1) _ _ (half-valid _ _ _ _ _ _ loop.invariant _ _ _ c.split_at.ensures.front_len c.sum_squares.ensures c.with_half-gatherer.ensures)
    (omega arith) c.cut-share-in-loop-share.ensures
