-- A feed is a turn.
use Rattle.std.proofs.Common.{sym, ◌∙◌, refl, arith}
use Rattle.event_log.specs.FedAllLaws.{fed-turn}
use Rattle.event_log.proofs.ChannelEventLogger.feed.Goals as goal

pub returns : goal.returns
returns c =
    let turn = fed-turn c.args.samples.now _ _ c.feed-fed.ensures in
    record {
      fits = omega (arith, turn.fits);
      inside = turn.inside;
      whole = refl;
      last = turn.last;
      rest = λ stopped end why leaves. leaves ∙ sym (turn.rest stopped);
      some = λ stopped four. turn.some stopped (omega (arith, four));
    }
