-- What the rest of the samples leaves is what they leave. The measure: the samples left to feed; there is room for four records in each feed.
use Rattle.std.proofs.Common.{◌≡◌, ◌≤◌, ℕ, length}
use Rattle.event_program.proofs.feed_all.Given as goal

abbrev pub invariant-loop-rest : goal.invariant-loop-rest
invariant-loop-rest g l = let leaves = g.L.EventLogger.Leaves in record {
  whole : g.L.EventLogger.whole_of (length l.rest) ≡ length l.rest;
  inside : length l.rest ≤ length l.samples;
  leaves : (end : _) (why : ℕ) → leaves l.held l.rest end why → leaves l.fn.logger l.samples end why;
}

abbrev pub decreases-loop-rest : goal.decreases-loop-rest
decreases-loop-rest g l = length l.rest
