-- The loop's invariant: the k numbers that are read, with those of the words from k on, are the numbers of all words; `one_more` reads one.
use Rattle.std.proofs.Common.{◌≡◌, ◌++◌, take, drop, map}
use Rattle.octets.specs.Bytes.{number_of}
use Rattle.octets.proofs.get_words.Given as goal

abbrev pub invariant-loop-k : goal.invariant-loop-k
invariant-loop-k l = take l.k l.places ++ map number_of (drop l.k l.words) ≡ map number_of l.words
