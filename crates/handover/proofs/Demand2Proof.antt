-- Demand 2 of the logger's calls, proved: the image's round trips, the greedy feed, that one sample has at most four records due, and the trial.
use Rattle.std.specs.Prelude.{◌≡◌, refl, Bool, true, List, [], ◌∷◌, ℕ, ◌*◌, ◌≤◌, ◌<◌, take, ℤ, if◌then◌else◌}
use Rattle.std.proofs.Math.Path.{sym, ap, subst, subst⁻¹}
use Rattle.std.proofs.Common.{◌∙◌, arith, le-ltb, le-leb}
use Rattle.std.proofs.Math.ListN.{length}
use Rattle.octets.specs.Bytes.{Bytes}
use Rattle.numbers.specs.Answers.Answered.{accepted}
use Rattle.reading.specs.Records.{record_bytes}
use Rattle.reading.specs.Feed.{last_value}
use Rattle.reading.specs.Calls.{Saved, trial_to, without_logger}
use Rattle.reading.specs.Engineer.{over, room}
use Rattle.reading.specs.Layout.{record_length, image_length}
use Rattle.reading_laws.specs.TakenLaws.{greatest_to-passes, greatest_to-most, greatest_to-le}
use Rattle.records.specs.DueLaws.{length-record_bytes}
use Rattle.greedy.specs.Greedy.{Run, fed_by, outcome_of, due_over, walked_by, allowed_by, why_by}
use Rattle.greedy.proofs.GreedyLaws.{fed_by-less}
use Rattle.greedy.proofs.GreatestLaws.{fed_by-greatest}
use Rattle.state.specs.declared.State.{State}
use Rattle.state.specs.State.{readings_of, ValidState}
use Rattle.state.specs.Step.{machine}
use Rattle.state.specs.Calls.{fed_with}
use Rattle.state.proofs.CallsLaws.{takes-some}
use Rattle.image.specs.Image.{image_bytes, save_answer, saved_bytes}
use Rattle.image.specs.ImageLaws.{length-image_bytes, restored_by-saved, state_at-valid, image_bytes-state_at}
use Rattle.logger.specs.Logger.{saved_to}
use Rattle.logger.specs.Calls.{logger_calls}
use Rattle.logger.proofs.CallsLaws.{restore-accepted}
use Rattle.handover.proofs.ClaimProof.{take-over}
use Rattle.handover.specs.Demand2.{FedMost, trial_into, Demand2}

-- a save into a buffer that is long enough
save-long : (st : State) (lent : List ℕ) → image_length ≤ length lent → logger_calls.save st lent ≡ saved_to 0 (over (image_bytes st) lent)
unfolding save_answer saved_bytes
save-long st lent long =
    ap (λ (short : Bool). saved_to (if short then 7 else 0) (if short then lent else over (image_bytes st) lent)) (le-ltb (length lent) image_length long)

saved-back : (st : State) → ValidState st → (old : State) (lent : List ℕ) → image_length ≤ length lent
    → logger_calls.restore old (take image_length (logger_calls.save st lent).bytes) ≡ record { after = st; answer = accepted tt }
saved-back st valid old lent long =
    let first : take image_length (logger_calls.save st lent).bytes ≡ image_bytes st =
    ap (λ (s : Saved). take image_length s.bytes) (save-long st lent long)
    ∙ take-over image_length (image_bytes st) lent (length-image_bytes st valid.window-valid.size valid.marks-valid.size) in
    ap (logger_calls.restore old) first ∙ restored_by-saved st valid old

module _ (old : State) (b : List ℕ) (are : Bytes b) (yes : (logger_calls.restore old b).answer ≡ accepted tt) where
  saved-again : (lent : List ℕ) → image_length ≤ length lent → logger_calls.save (logger_calls.restore old b).after lent ≡ record { number = 0; bytes = over b lent }
  saved-again lent long =
      let read = restore-accepted old b yes in
      ap (λ (st : State). logger_calls.save st lent) read.1
      ∙ save-long _ lent long
      ∙ ap (λ (image : List ℕ). saved_to 0 (over image lent)) (image_bytes-state_at b are read.0)

  still-valid : ValidState (logger_calls.restore old b).after
  still-valid = let read = restore-accepted old b yes in subst⁻¹ ValidState read.1 (state_at-valid b are read.0)

-- feed
module _ (st : State) (block : List ℤ) (lent : List ℕ) where
  fed-most : FedMost st block lent (logger_calls.feed st block lent)
  unfolding fed_with
  fed-most =
      let run = fed_by-greatest machine block st (room lent) in
      let test = allowed_by machine st block (room lent) in
      let is = sym run.taken_is in
      let records-are = run.records-are ∙ (λ i. due_over machine st (take (is i) block)) in
      record {
        taken-greatest = record {
          holds = (
            omega (arith, run.taken_is, greatest_to-le test (length block)),
            subst (λ (n : ℕ). test n ≡ true) is (greatest_to-passes test (length block) (le-leb 0 (room lent) (omega arith))),
          );
          most = λ n h. omega (arith, run.taken_is, greatest_to-most test (length block) n h.0 h.1);
        };
        why-is = run.why-is ∙ ap (why_by machine st block) is;
        written_is = ap length records-are;
        bytes-are = ap (λ es. over (record_bytes es) lent) records-are;
        after_is = run.after_is ∙ (λ i. walked_by machine st (take (is i) block));
      }

fed-some : (st : State) (block : List ℤ) (lent : List ℕ) → 1 ≤ length block → 4 ≤ room lent → (logger_calls.look st).count < last_value
    → 1 ≤ (logger_calls.feed st block lent).told.taken
unfolding readings_of
fed-some st [] lent some four below = absurd (omega arith)
fed-some st (x ∷ xs) lent some four below = takes-some st x xs lent four below

-- trial
as-tried : (st : State) (block : List ℤ) (scratch lent : List ℕ) → (logger_calls.trial st block scratch).told.written ≤ room lent → room lent ≤ room scratch
    → without_logger (logger_calls.feed st block lent) ≡ trial_into lent (logger_calls.trial st block scratch)
unfolding fed_with
as-tried st block scratch lent enough most =
    let run = fed_by machine st block (room scratch) in
    let es = run.records in
    let first = take-over (record_length * length es) (record_bytes es) scratch (length-record_bytes es) in
    ap (λ (r : Run State). without_logger (outcome_of lent r)) (fed_by-less machine block st (room scratch) (room lent) enough most)
    ∙ (λ i. trial_to (outcome_of lent run).told (over (sym first i) lent))

pub demand2-holds : Demand2 logger_calls
demand2-holds = record {
  saved-restored = saved-back;
  restored-saved = saved-again;
  restored-valid = still-valid;
  feed-most = fed-most;
  feed-some = fed-some;
  trial-as-feed = λ st block lent. refl;
  feed-as-tried = as-tried;
}
