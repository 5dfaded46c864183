-- The loop's invariant: x is the number of the bytes from i on; `drop-one` puts one byte more below them.
use Rattle.std.proofs.Common.{◌≡◌, drop}
use Rattle.octets.specs.Bytes.{number_of}
use Rattle.octets.proofs.number.Given as goal

abbrev pub invariant-loop-i : goal.invariant-loop-i
invariant-loop-i l = l.x ≡ number_of (drop l.i l.bytes)
