-- The spare logger is the fresh one of the spare settings, and restore leaves what it leaves of that.
use mathlib.Core.Path.{◌∙◌, ap}
use Rattle.settings.specs.declared.Settings.{Settings}
use Rattle.state.specs.declared.State.{State}
use Rattle.state.specs.State.{fresh}
use Rattle.image.specs.Image.{restored_by}
use Rattle.logger.proofs.Logger.resume.Goals as goal

pub returns : goal.returns
returns c =
    let spare = c.fresh-spare.ensures ∙ ap (λ (s : Settings). fresh s) c.spare_settings.ensures.0 in
    c.restore.ensures ∙ ap (λ (st : State). restored_by st c.args.image.now) spare
