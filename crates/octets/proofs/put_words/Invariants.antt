-- The loop's invariant: the 4 * k bytes that are written, with those of the numbers from k on, are the bytes of all; `part-more` writes the 4 bytes of one.
use Rattle.std.proofs.Common.{◌≡◌, ◌++◌, ◌*◌, take, drop}
use Rattle.octets.specs.Bytes.{row, fours}
use Rattle.octets.proofs.put_words.Given as goal

abbrev pub invariant-loop-k : goal.invariant-loop-k
invariant-loop-k l = take (4 * l.k) l.part ++ row (fours (drop l.k l.numbers)) (drop l.k l.numbers) ≡ row (fours l.numbers) l.numbers
