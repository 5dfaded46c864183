-- The sentences are proved in `specs/ThreeSentencesProof.antt`.
use Rattle.three_laws.specs.ThreeSentencesProof.{sentences-hold}
use Rattle.three_laws.proofs.three_sentences.Goals as goal

pub returns : goal.returns
returns c = sentences-hold
