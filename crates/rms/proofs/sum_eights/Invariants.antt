-- The invariant: the four pairs together are the samples passed, and each has had two samples a turn.
use Rattle.rms.proofs.Passed.{Turned}
use Rattle.rms.proofs.sum_eights.Given as goal

abbrev pub invariant-loop-eight : goal.invariant-loop-eight
invariant-loop-eight l = Turned l.fn.eights l.eight-index l.first l.second l.third l.fourth
