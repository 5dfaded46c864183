-- The sentences, proved of the readings.
use Rattle.std.proofs.Common.{arith}
use Rattle.reading_laws.specs.Sentences.{Sentences}
use Rattle.reading_laws.specs.RootLaws.{root_is, root-most}
use Rattle.reading_laws.specs.RecordingsLaws.{value-is, value-le, value-grow}
use Rattle.reading.specs.Values.{value_count}
use Rattle.reading.specs.Clipping.{value_clipped, marks, last_measured}
use Rattle.reading_laws.specs.MarksLaws.{marks-by, marked-clipped, clipped-marked}
use Rattle.reading_laws.specs.Past.{past}
use Rattle.reading_laws.specs.PastLaws.{past-grows, records-events}
use Rattle.reading_laws.specs.CompletedLaws.{records-completed}
use Rattle.reading_laws.specs.TakenLaws.{taken-le, taken-allowed, taken-greatest}
use Rattle.reading_laws.specs.SignalLaws.{signal-was, false-before-N, calm-after-true, calm-if-never, false-in-change, calm-in-change, calm-at-N, phase-says}

pub sentences-hold : Sentences
sentences-hold = record {
  root-greatest = λ n. record { holds = (root_is n).low; most = root-most n };
  value-greatest = λ s h rec i. value-is s rec i h;
  value-bounded = λ s h rec are i. value-le s rec are h i;
  value_stays = λ s h rec xs i. value-grow s rec xs h i;
  signal-at-N = calm-at-N;
  signal-before-N = false-before-N;
  signal-after-true = calm-after-true;
  signal-never-true = λ s r older h. calm-if-never s r older (omega arith);
  signal-held = false-in-change;
  signal-returns = calm-in-change;
  signal-cases = signal-was;
  signal-says = phase-says;
  taken-fits = λ s h rec block room v. (taken-le (past s) rec block room, taken-allowed (past-grows s h) rec block room v);
  taken-most = λ s h rec block room. taken-greatest (past s) rec block room;
  records-added = λ s h. records-completed (past-grows s h);
  records-are-events = λ s rec. records-events s rec (value_count s rec);
  marked-only-if = λ s rec i e h. marked-clipped (value_clipped s rec) (marks s rec) (marks-by s rec) i e.start (last_measured e) h;
  marked-if = λ s rec i e some h. clipped-marked (value_clipped s rec) (marks s rec) (marks-by s rec) i e.start (last_measured e) some h;
}
