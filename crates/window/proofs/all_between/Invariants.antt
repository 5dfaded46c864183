-- The invariant: the flag is down where the values so far pass.
use Rattle.std.proofs.Common.{◌≡◌, not, take}
use Rattle.numbers.specs.Notation.{all}
use Rattle.window.specs.Range.{between}
use Rattle.window.proofs.all_between.Given as goal

abbrev pub invariant-loop-value : goal.invariant-loop-value
invariant-loop-value l = not l.outside ≡ all (between l.lowest l.highest) (take l.value-index l.part)
