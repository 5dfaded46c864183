-- A whole chunk that is taken lowers what is left.
use Rattle.std.proofs.Common.{length, sym, arith}
use Rattle.event_program.proofs.ChunkLaws.{chunk-falls}
use Rattle.event_program.proofs.log.Goals as goal

pub loop-got-smaller : goal.loop-got-smaller
loop-got-smaller g c =
    let L = g.L.EventLogger in
    chunk-falls L.Leaves L.whole_of L.left g.met.L.EventLogger.falls _ _ _ c.read-got.result.count (length c.read-got.new.bytes) (length c.args.places.now) _ c.if-turn.good c.goes_on.result
    (sym c.read-got.ensures.1) (omega arith) c.requires.chunk.1 c.feed_chunk-turn.ensures c.goes_on.ensures c.if-not-goes_on.false
