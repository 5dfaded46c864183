-- A feed of whole triples is a turn.
use Rattle.std.proofs.Common.{sym, ◌∙◌, refl, arith}
use Rattle.event_log_three.specs.ThreeFedAllLaws.{fed-turn}
use Rattle.event_log_three.proofs.ChannelsEventLogger.feed.Goals as goal

pub returns : goal.returns
returns c =
    let turn = fed-turn c.args.samples.now _ _ c.feed-fed.result.answer c.feed-fed.ensures c.requires c.unwrap_or.result _ refl c.unwrap_or.ensures in
    record {
      fits = omega (arith, turn.fits);
      inside = turn.inside;
      whole = turn.whole;
      last = turn.last;
      rest = λ stopped end why leaves. leaves ∙ sym (turn.rest stopped);
      some = λ stopped four. turn.some stopped (omega (arith, four));
    }
