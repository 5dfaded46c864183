-- One byte more.
use Rattle.std.proofs.Common.{arith}
use Rattle.call_items.proofs.Hex.{hex-one}
use Rattle.call_items.proofs.put_hex.Goals as goal

pub loop-i-preserved : goal.loop-i-preserved
loop-i-preserved c =
    hex-one c.args.text.now c.args.bytes.now c.loop-i.text c.loop-i.i c.loop-i.invariant _ _ c.digit.ensures c.digit-in-loop-i.ensures (omega arith) (omega arith)
