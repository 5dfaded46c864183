-- The loop's invariant: the k samples that are written, with those of the pairs from k on, are the samples of all pairs.
use Rattle.std.proofs.Common.{◌≡◌, ◌++◌, take, drop, map}
use Rattle.samples.proofs.Pairs.{sample_in}
use Rattle.samples.proofs.decode.Given as goal

abbrev pub invariant-loop-k : goal.invariant-loop-k
invariant-loop-k l = take l.k l.places ++ map sample_in (drop l.k l.pairs) ≡ map sample_in l.pairs
