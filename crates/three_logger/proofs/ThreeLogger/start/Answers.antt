-- Settings that were read are valid ones.
use Rattle.std.proofs.Common.{sym}
use Rattle.settings.specs.SettingsLaws.{read-accepted}
use Rattle.three_logger.proofs.ThreeLogger.start.Goals as goal

pub fresh-requires : goal.fresh-requires
fresh-requires c = (read-accepted c.args.bytes.now c.in_ok-settings.settings (sym c.in_ok-settings.ensures)).valid
