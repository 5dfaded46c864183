-- What is written stays within the bytes.
use Rattle.std.proofs.Common.{◌≤◌, length}
use Rattle.streams.proofs.write_all.Given as goal

abbrev pub invariant-loop : goal.invariant-loop
invariant-loop g l = l.count ≤ length l.bytes
