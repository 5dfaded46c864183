-- Each way out is a law of RowsLaws; the tests on both sides are the same but for the room, which the code asks of numbers of records.
use mathlib.Core.Path.{refl, sym, ◌∙◌, ap}
use Rattle.conversion.specs.Conversion.{converted_to}
use Rattle.conversion.proofs.RowsLaws.{has_room, not-whole, not_good, not-fit, no_room, all-converted}
use Rattle.conversion.proofs.records_to.Goals as goal

pub returns-then-list-length-ne0 : goal.returns-then-list-length-ne0
returns-then-list-length-ne0 c =
    let a = c.args in
    let sized = c.record_length-length in
    not-whole a.from.width a.to.width sized.result _ a.list.now a.output.now sized.ensures.0 refl c.if-list-length-ne0.true

pub returns-then-not-all_good : goal.returns-then-not-all_good
returns-then-not-all_good c =
    let a = c.args in
    let sized = c.record_length-length in
    not_good a.from.width a.to.width sized.result _ a.list.now a.output.now sized.ensures.0 refl c.if-list-length-ne0.false
    (sym c.all_good.ensures ∙ c.if-not-all_good.true)

pub returns-then-not-all_fit : goal.returns-then-not-all_fit
returns-then-not-all_fit c =
    let a = c.args in
    let sized = c.record_length-length in
    not-fit a.from.width a.to.width sized.result _ a.list.now a.output.now sized.ensures.0 refl c.if-list-length-ne0.false
    (sym c.all_good.ensures ∙ c.if-not-all_good.false)
    (sym c.all_fit.ensures ∙ c.if-not-all_fit.true)

pub returns-then-output-record_length : goal.returns-then-output-record_length
returns-then-output-record_length c =
    let a = c.args in
    let sized = c.record_length-length in
    let other-sized = c.record_length in
    no_room a.from.width a.to.width sized.result other-sized.result a.list.now a.output.now sized.ensures.0 other-sized.ensures.0
    c.if-list-length-ne0.false
    (sym c.all_good.ensures ∙ c.if-not-all_good.false)
    (sym c.all_fit.ensures ∙ c.if-not-all_fit.false)
    c.if-output-record_length.true

pub put_records-requires : goal.put_records-requires
put_records-requires c =
    let a = c.args in
    let sized = c.record_length-length in
    let other-sized = c.record_length in
    let room = has_room a.from.width a.to.width sized.result other-sized.result a.list.now a.output.now sized.ensures.0 other-sized.ensures.0 in
    room c.if-output-record_length.false

pub returns : goal.returns
returns c =
    let a = c.args in
    let sized = c.record_length-length in
    let other-sized = c.record_length in
    ap (converted_to 0) c.put_records.ensures
    ∙ all-converted a.from.width a.to.width sized.result other-sized.result a.list.now a.output.now sized.ensures.0 other-sized.ensures.0
    c.if-list-length-ne0.false
    (sym c.all_good.ensures ∙ c.if-not-all_good.false)
    (sym c.all_fit.ensures ∙ c.if-not-all_fit.false)
    c.if-output-record_length.false
