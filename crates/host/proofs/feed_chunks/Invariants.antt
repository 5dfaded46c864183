-- The invariant `Chunks`: what is fed so far of the samples that the bytes are. It starts, turns and ends by the laws of Chunks.
use mathlib.Core.Path.{◌≡◌}
use Prim.Native.Nat.{◌-◌, ◌/◌}
use lib.ListN.{length}
use Rattle.host.proofs.Chunks.{Chunks}
use Rattle.host.proofs.feed_chunks.Given as goal

abbrev pub invariant-loop-at : goal.invariant-loop-at
invariant-loop-at l =
    Chunks l.initial.logger.state l.bytes l.initial.records l.records l.logger.state l.at l.written × (length l.samples ≡ 768)

abbrev pub decreases-loop-at : goal.decreases-loop-at
decreases-loop-at l = length l.bytes / 2 - l.at
