-- The promises are proved in `proofs/PromisesProof.antt`.
use Rattle.conversion.proofs.PromisesProof.{promises-hold}
use Rattle.conversion.proofs.promises.Goals as goal

pub returns : goal.returns
returns c = promises-hold
