-- The loop's invariant: the k numbers that are read, with those that the rest holds, are the numbers of all bytes; `one_more` reads one.
use Rattle.std.proofs.Common.{◌≡◌, ◌++◌, length, take, drop}
use Rattle.octets.specs.Bytes.{numbers_in, total}
use Rattle.octets.proofs.get_row.Given as goal

abbrev pub invariant-loop-k : goal.invariant-loop-k
invariant-loop-k l = (length l.rest ≡ total (drop l.k l.widths)) × (take l.k l.numbers ++ numbers_in (drop l.k l.widths) l.rest ≡ numbers_in l.widths l.bytes)
