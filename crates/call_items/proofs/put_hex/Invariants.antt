-- The first i bytes are put.
use Rattle.call_items.proofs.Hex.{HexSoFar}
use Rattle.call_items.proofs.put_hex.Given as goal

abbrev pub invariant-loop-i : goal.invariant-loop-i
invariant-loop-i l = HexSoFar l.initial.text l.bytes l.i l.text
