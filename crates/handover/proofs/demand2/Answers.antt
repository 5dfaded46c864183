-- Demand 2 is proved in `proofs/Demand2Proof.antt`.
use Rattle.handover.proofs.Demand2Proof.{demand2-holds}
use Rattle.handover.proofs.demand2.Goals as goal

pub returns : goal.returns
returns c = demand2-holds
