-- The claim is proved in `proofs/ThreeClaimProof.antt`.
use Rattle.three_claim.proofs.ThreeClaimProof.{three-phases-holds}
use Rattle.three_claim.proofs.three_phases.Goals as goal

pub returns : goal.returns
returns c = three-phases-holds
