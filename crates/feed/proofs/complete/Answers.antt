-- Each way out is a law of HalfEnds.
use mathlib.Core.Path.{◌∙◌, ap}
use Prim.Native.Nat.{ℕ}
use Rattle.window.specs.Window.{pushed}
use Rattle.feed.proofs.HalfEnds.{first-half, end-half, full-half, taken-half}
use Rattle.feed.proofs.complete.Goals as goal

pub returns-then-not-whole : goal.returns-then-not-whole
returns-then-not-whole c =
    first-half c.requires c.args.records.now c.if-not-whole.true c.with_half-half.result c.with_half-half.ensures

pub returns-then-count-eq-LAST_VALUE : goal.returns-then-count-eq-LAST_VALUE
returns-then-count-eq-LAST_VALUE c =
    end-half c.requires c.args.records.now c.if-not-whole.false c.if-count-eq-LAST_VALUE.true

pub returns-then-records-written : goal.returns-then-records-written
returns-then-records-written c =
    full-half c.requires c.args.records.now c.if-not-whole.false c.if-count-eq-LAST_VALUE.false c.with_half-half.result c.with_half-half.ensures
    c.rms_value.result c.rms_value.ensures.0 c.try_value-tried.result c.try_value-tried.ensures c.count-written.result c.count-written.ensures
    c.if-records-written.true

pub returns : goal.returns
returns c =
    let value = c.rms_value in
    let n_is = c.window_length-window_length.ensures.0 in
    let v = c.args.detector.count in
    taken-half c.requires c.args.records.now c.if-not-whole.false c.if-count-eq-LAST_VALUE.false c.with_half-half.result c.with_half-half.ensures
    value.result value.ensures.0 c.try_value-tried.result c.try_value-tried.ensures c.count-written.result c.count-written.ensures
    c.if-records-written.false c.push.new.window c.push_mark.new.marks c.put.new.buffer
    (c.push.ensures ∙ ap (λ (n : ℕ). pushed n v c.args.window.now value.result) n_is)
    (c.push_mark.ensures ∙ (λ i. pushed (n_is i) v c.args.marks.now (c.from.ensures i))) c.put.ensures
