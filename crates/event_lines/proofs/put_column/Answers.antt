-- A space is put, then the digits that std makes.
use Rattle.std.proofs.Common.{arith}
use Rattle.event_lines.specs.TextLaws.{column-put}
use Rattle.event_lines.proofs.put_column.Goals as goal

pub returns-clause-text : goal.returns-clause-text
returns-clause-text g c =
    column-put _ _ _ _ c.args.number c.ranges.number.fits (c.push.ensures.ascii (omega arith)) c.format.ensures.text c.push_str.ensures.bytes
