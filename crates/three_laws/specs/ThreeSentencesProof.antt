-- The sentences, proved of the readings.
use Rattle.std.proofs.Common.{◌∙◌, ap}
use Rattle.std.specs.Prelude.{◌∷◌}
use Rattle.reading.specs.Clipping.{last_measured}
use Rattle.reading.specs.Changes.{Signal}
use Rattle.reading_laws.specs.CompletedLaws.{records-completed}
use Rattle.reading_laws.specs.MarksLaws.{marked-clipped, clipped-marked}
use Rattle.reading_laws.specs.TakenLaws.{taken-le, taken-allowed, taken-greatest}
use Rattle.three_reading.specs.declared.Three.{Three}
use Rattle.three_reading.specs.Three.{each, all_of, joint_count, joint_clipped, joint_marks}
use Rattle.three_reading.specs.JointChanges.{is_true}
use Rattle.three_laws.specs.ThreeSentences.{ThreeSentences}
use Rattle.three_laws.specs.RecordingsLaws.{count-channel, joint_marks-by}
use Rattle.three_laws.specs.EqualLaws.{records-same}
use Rattle.three_laws.specs.SignalsLaws.{own-signal, own-signals, joint-all, joint-true, change-lasts}
use Rattle.three_laws.specs.JointPhaseLaws.{joint-says, joint-only}
use Rattle.three_laws.specs.OrderLaws.{ab-fair, bc-fair, records-ordered}
use Rattle.three_laws.specs.EventsLaws.{joint_records_at-le}
use Rattle.three_laws.specs.ThreePast.{three_past, joint_records-events, three_past-grows}

pub sentences-hold : ThreeSentences
sentences-hold = record {
  same_count = count-channel;
  equal-channels = records-same;
  any_order = λ s rec. (records-ordered ab-fair s rec, records-ordered bc-fair s rec);
  own-signals = λ s hist c. own-signal s c hist;
  joint-signal = λ s hist. joint-all s hist ∙ ap (λ (t : Three Signal). all_of (each is_true t)) (own-signals s hist);
  joint-says = joint-says;
  joint-only = joint-only;
  taken-fits = λ s h rec block room v. (taken-le (three_past s) rec block room, taken-allowed (three_past-grows s h) rec block room v);
  taken-most = λ s h rec block room. taken-greatest (three_past s) rec block room;
  records-added = λ s h. records-completed (three_past-grows s h);
  at-most-three = joint_records_at-le;
  records-are-events = λ s rec. joint_records-events s rec (joint_count s rec);
  marked-only-if = λ s rec i e h. marked-clipped (joint_clipped s rec) (joint_marks s rec) (joint_marks-by s rec) i e.start (last_measured e) h;
  marked-if = λ s rec i e some h. clipped-marked (joint_clipped s rec) (joint_marks s rec) (joint_marks-by s rec) i e.start (last_measured e) some h;
  change-lasts = λ s r older k was now. change-lasts s r older k was (joint-true s (r ∷ older) now);
}
