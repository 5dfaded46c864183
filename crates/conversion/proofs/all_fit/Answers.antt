use Rattle.std.proofs.Common.{◌∙◌, rules, tests}
use Rattle.std.proofs.lemmas.Iterator.Search.{all_from_yields_List}
use Rattle.reading.specs.Layout.{record_widths_with}
use Rattle.conversion.specs.Conversion.{fits, rows_in}
use Rattle.conversion.proofs.RowsLaws.{rows-yielded, all-listed}
use Rattle.conversion.proofs.all_fit.Goals as goal

pub returns : goal.returns
returns c =
    let from = c.args.from.width in
    let test = fits (record_widths_with c.args.to.width) in
    all_from_yields_List test _ _ c.all.result c.all.ensures.ran (rows-yielded from c.args.list.now (cc) cc) (λ x b q k. search (rules, tests))
    ∙ all-listed test (rows_in from c.args.list.now)
