-- The loop's invariant: what is written, with the row of the numbers from k on, is the row of all; `part-more` writes one.
use Rattle.std.proofs.Common.{◌≡◌, ◌++◌, ◌+◌, length, take, drop}
use Rattle.octets.specs.Bytes.{row, total}
use Rattle.octets.proofs.put_row.Given as goal

abbrev pub invariant-loop-width : goal.invariant-loop-width
invariant-loop-width l =
    (l.at + total (drop (length l.yielded) l.widths) ≡ length l.initial.part)
    × (take l.at l.part ++ row (drop (length l.yielded) l.widths) (drop (length l.yielded) l.numbers) ≡ row l.widths l.numbers)
