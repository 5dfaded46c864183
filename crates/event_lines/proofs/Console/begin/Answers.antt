-- Settings that are read are valid.
use Rattle.std.proofs.Common.{sym}
use Rattle.settings.specs.SettingsLaws.{read-accepted}
use Rattle.event_lines.proofs.Console.begin.Goals as goal

pub returns-in-Ok : goal.returns-in-Ok
returns-in-Ok c = (read-accepted _ _ (sym c.in-Ok.ensures)).valid
