-- One sample more.
use Rattle.std.proofs.Common.{pos, get_or, rules}
use Rattle.call_lists.proofs.Gathering.{gathered-valid}
use Rattle.call_lists.proofs.gather_samples.Goals as goal

pub loop-sample-preserved : goal.loop-sample-preserved
loop-sample-preserved c =
    let loop = c.loop-sample in
    record {
      valid = gathered-valid _ loop.gatherer (get_or c.args.samples.now loop.sample-index (pos 0)) _ loop.invariant.valid (search rules) c.gather.ensures.0;
      ended = search rules;
    }
