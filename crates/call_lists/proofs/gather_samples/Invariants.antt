-- The gatherer is valid, and has ended no more half-cycles than there were samples.
use Rattle.std.proofs.Common.{◌≤◌}
use Rattle.rms.specs.Gather.{ValidGatherer}
use Rattle.call_lists.proofs.gather_samples.Given as goal

abbrev pub invariant-loop-sample : goal.invariant-loop-sample
invariant-loop-sample l = record {
  valid : ValidGatherer l.half_length l.gatherer;
  ended : l.halves ≤ l.sample-index;
}
