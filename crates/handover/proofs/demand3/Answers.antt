-- Demand 3 is proved in `proofs/ClaimProof.antt`.
use Rattle.handover.proofs.ClaimProof.{demand3-holds}
use Rattle.handover.proofs.demand3.Goals as goal

pub returns : goal.returns
returns c = demand3-holds
