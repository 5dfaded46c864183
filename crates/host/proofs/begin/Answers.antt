-- Start's answer: a logger's image is saved, or the refusal is told.
use Rattle.std.proofs.lemmas.Result.{err_from_is_err_and}
use Rattle.host.proofs.Answers.{begun-refused, begun-saved}
use Rattle.host.proofs.begin.Goals as goal

pub returns-in_err-logger : goal.returns-in_err-logger
returns-in_err-logger c =
    let p = err_from_is_err_and c.from_residual.result c.from_residual.ensures.1 in
    rw (p.1, p.2) (begun-refused c.args.settings.now c.args.image.now _ c.in_err-logger.ensures)

pub returns : goal.returns
returns c = begun-saved c.args.settings.now c.args.image.now c.in_ok-logger.logger.state _ _ c.save.ensures c.in_ok-logger.ensures
