-- Each way out is a law of HalfEnds.
use Rattle.std.proofs.Common.{arith}
use Rattle.three_half.proofs.HalfEnds.{is-false, is-true, first-half, end-half, full-half, taken-half}
use Rattle.three_half.proofs.complete.Goals as goal

pub returns-then-not-gatherers : goal.returns-then-not-gatherers
returns-then-not-gatherers c = first-half c.requires c.args.records.now (is-false _ c.if-not-gatherers.true)

pub returns-then-count-eq-LAST_VALUE : goal.returns-then-count-eq-LAST_VALUE
returns-then-count-eq-LAST_VALUE c = end-half c.requires c.args.records.now (is-true _ c.if-not-gatherers.false) c.if-count-eq-LAST_VALUE.true

pub returns-then-records-written : goal.returns-then-records-written
returns-then-records-written c =
    let halves = c.halves_of-halves in
    let values = c.values_of-values in
    let tried = c.try_values-tried in
    let written = c.count-written in
    full-half c.requires c.args.records.now (is-true _ c.if-not-gatherers.false) c.if-count-eq-LAST_VALUE.false halves.result halves.ensures
    values.result values.ensures.0 tried.result tried.ensures written.result written.ensures c.if-records-written.true

pub returns : goal.returns
returns c =
    let halves = c.halves_of-halves in
    let values = c.values_of-values in
    let tried = c.try_values-tried in
    let written = c.count-written in
    let n = c.window_length-length in
    let pushed = c.push_values in
    taken-half c.requires c.args.records.now (is-true _ c.if-not-gatherers.false) c.if-count-eq-LAST_VALUE.false halves.result halves.ensures
    values.result values.ensures.0 tried.result tried.ensures written.result written.ensures (omega (arith, c.if-records-written.false))
    n.result c.from.result n.ensures.0 c.from.ensures
    pushed.new.windows c.push_mark.new.marks c.put.new.buffer
    pushed.ensures c.push_mark.ensures c.put.ensures
