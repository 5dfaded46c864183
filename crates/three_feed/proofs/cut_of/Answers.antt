-- The cut goes by the number of samples alone, and a channel has as many as there are triples.
use Rattle.std.proofs.Common.{◌≡◌, sym, ◌∙◌, ◌/◌, arith, length, take, length-take}
use Rattle.rms.specs.CutLaws.{cut-length}
use Rattle.three_reading.specs.Three.{triples_of, channel}
use Rattle.three_reading.specs.Three.Channel.{on_a}
use Rattle.three_laws.specs.ChannelLaws.{length-channel}
use Rattle.three_laws.specs.TriplesLaws.{length-triples}
use Rattle.three_feed.proofs.cut_of.Goals as goal

pub returns : goal.returns
returns c =
    let a = c.args in
    let block = a.block.now in
    let few : length (take (length block / 3) block) ≡ length block / 3 = simp length-take (omega arith) in
    c.cut.ensures
    ∙ cut-length a.half_length a.gatherer _ (channel on_a (triples_of block))
    (few ∙ sym (length-channel on_a (triples_of block) ∙ length-triples block))
