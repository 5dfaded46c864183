-- The sentences are proved in `specs/SentencesProof.antt`.
use Rattle.reading_laws.specs.SentencesProof.{sentences-hold}
use Rattle.reading_laws.proofs.sentences.Goals as goal

pub returns : goal.returns
returns c = sentences-hold
