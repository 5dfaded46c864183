-- Each way out is what the bytes read as, left so.
use mathlib.Core.Path.{◌∙◌, ap}
use Rattle.image.proofs.RestoredRead.{left, left_is}
use Rattle.image.proofs.restore.Goals as goal

pub returns-in-Ok : goal.returns-in-Ok
returns-in-Ok c = ap (left c.args.old) c.in-Ok.ensures ∙ left_is c.args.old c.args.bytes.now

pub returns-in-Err : goal.returns-in-Err
returns-in-Err c = ap (left c.args.old) c.in-Err.ensures ∙ left_is c.args.old c.args.bytes.now
