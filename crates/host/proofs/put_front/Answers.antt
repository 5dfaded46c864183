-- The row has 8 bytes for each number.
use Rattle.std.proofs.Common.{sym, ◌∙◌, arith, length-take}
use Rattle.host.proofs.Rows.{length-eights, total-eights}
use Rattle.host.proofs.put_front.Goals as goal

pub put_row-requires : goal.put_row-requires
put_row-requires g c = (c.told-numbers ∙ sym (length-eights g.row.N), simp length-take (omega (arith, total-eights g.row.N, c.requires)))
