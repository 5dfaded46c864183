-- The loop's invariant: the bytes that are written, with the bytes of what is left, are the bytes of x; `one_more` writes one.
use Rattle.std.proofs.Common.{◌≡◌, ◌++◌, ◌-◌, length, take}
use Rattle.octets.specs.Bytes.{bytes_of}
use Rattle.octets.proofs.put_number.Given as goal

abbrev pub invariant-loop-byte : goal.invariant-loop-byte
invariant-loop-byte l = take l.byte-index l.part ++ bytes_of (length l.initial.part - l.byte-index) l.rest ≡ bytes_of (length l.initial.part) l.x
