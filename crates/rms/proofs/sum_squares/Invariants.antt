-- The invariant: the part is that of the samples passed, at first of the eights.
use Rattle.std.proofs.Common.{◌≡◌, ◌*◌, ◌/◌, ◌^◌, ◌≤◌, ◌++◌, length, take}
use Rattle.std.specs.Simd.{first_chunks}
use Rattle.rms.specs.Gather.{joined, part_of}
use Rattle.rms.proofs.sum_squares.Given as goal

abbrev pub invariant-loop-sample : goal.invariant-loop-sample
invariant-loop-sample l =
    let xs = l.fn.samples in
    (l.part ≡ part_of (joined (first_chunks 8 (length xs / 8) xs) ++ take l.sample-index l.rest)) × (l.part.squares ≤ l.part.count * 2 ^ 30)
