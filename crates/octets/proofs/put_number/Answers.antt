use Rattle.std.proofs.Common.{◌≡◌, arith, suc, ◌-◌, ◌+◌, ◌%◌, length}
use Rattle.octets.proofs.Loops.{one_more}
use Rattle.octets.proofs.put_number.Goals as goal

pub loop-byte-preserved : goal.loop-byte-preserved
loop-byte-preserved c =
    let l = c.loop-byte in
    let n = length c.args.part.now in
    let left : n - l.byte-index ≡ suc (n - (l.byte-index + 1)) = omega arith in
    one_more l.byte-index l.part _ _ (l.rest % 256) (omega arith) (rw left at l.invariant)
