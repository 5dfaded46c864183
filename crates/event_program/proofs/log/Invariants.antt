-- The measure: what is left to V's end, for a whole chunk that is taken lowers it.
use Rattle.std.proofs.Common.{◌≡◌, length}
use Rattle.event_program.proofs.log.Given as goal

abbrev pub invariant-loop-got : goal.invariant-loop-got
invariant-loop-got g l = record {
  bytes : length l.bytes ≡ length l.fn.bytes;
  places : length l.places ≡ length l.fn.places;
}

abbrev pub decreases-loop-got : goal.decreases-loop-got
decreases-loop-got g l = g.L.EventLogger.left l.logger
