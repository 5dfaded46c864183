use Rattle.std.proofs.Common.{◌∙◌, rules, tests}
use Rattle.std.proofs.lemmas.Iterator.Search.{all_from_yields_List}
use Rattle.conversion.specs.Conversion.{rows_in, good_row}
use Rattle.conversion.proofs.RowsLaws.{rows-yielded, all-listed}
use Rattle.conversion.proofs.all_good.Goals as goal

pub returns : goal.returns
returns c =
    let from = c.args.from.width in
    all_from_yields_List good_row _ _ c.all.result c.all.ensures.ran (rows-yielded from c.args.list.now (cc) cc) (λ x b q k. search (rules, tests))
    ∙ all-listed good_row (rows_in from c.args.list.now)
