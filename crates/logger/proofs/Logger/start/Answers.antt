-- Settings that were read are valid.
use mathlib.Core.Path.{sym}
use Rattle.settings.specs.SettingsLaws.{read-accepted}
use Rattle.logger.proofs.Logger.start.Goals as goal

pub fresh-requires : goal.fresh-requires
fresh-requires c = (read-accepted c.args.bytes.now c.in_ok-settings.settings (sym c.in_ok-settings.ensures)).valid
