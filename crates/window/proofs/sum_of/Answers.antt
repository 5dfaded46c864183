use Rattle.std.proofs.Common.{arith}
use Rattle.window.proofs.OneMore.{sum_more}
use Rattle.window.proofs.sum_of.Goals as goal

pub loop-place-preserved : goal.loop-place-preserved
loop-place-preserved g c =
    let place = g.T.Place in
    let more = sum_more place.number place.numbers g.met.T.Place.one_by_one c.args.part.now c.loop-place.place-index c.place-item.result (omega arith) c.place-item.is in
    (omega arith, omega arith)
