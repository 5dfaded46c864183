-- The claim of three phases, proved. What the caller keeps is read from the three recordings (`caller_of`); each call keeps it so and gives the engineer's answer;
-- and so, call by call, over every list.
use Rattle.std.proofs.Common.{◌≡◌, refl, drop, ℤ, sym, ap, subst, ◌∙◌, arith, take_at, List, [], ◌∷◌, ◌++◌, append-nil, ℕ, zero, suc, ◌*◌, ◌<◌, length, take}
use Rattle.numbers.specs.Answers.{Answered}
use Rattle.numbers.specs.Answers.Answered.{accepted, refused}
use Rattle.settings.specs.declared.Settings.{Settings}
use Rattle.settings.specs.Settings.{settings_read, ValidSettings}
use Rattle.settings.specs.SettingsLaws.{read-accepted, read-refused}
use Rattle.reading.specs.Layout.{record_length}
use Rattle.reading.specs.Values.{Samples}
use Rattle.reading.specs.Records.{record_bytes}
use Rattle.reading.specs.Engineer.{over, room}
use Rattle.reading_laws.specs.CompletedLaws.{records-completed}
use Rattle.records.specs.DueLaws.{length-record_bytes, record_bytes-append}
use Rattle.greedy.specs.Greedy.{outcome_of}
use Rattle.greedy.proofs.GreedyFollows.{Recording, fed_by-follows, recording-fed}
use Rattle.state.proofs.StepFollows.{halves-none}
use Rattle.three_reading.specs.declared.Three.{Three}
use Rattle.three_reading.specs.Three.{triples_of, joint_count}
use Rattle.three_reading.specs.ThreeFeed.{joint_due_after, joint_records, joint_completed, joint_taken}
use Rattle.three_reading.specs.ThreeEngineer.{Call, Answer, feed_refusal, taken_by, fed_answer, answer, recording_with, answers, recording_after, WellFormed}
use Rattle.three_reading.specs.ThreeEngineer.Call.{feed, look}
use Rattle.three_reading.specs.ThreeEngineer.Answer.{fed, looked}
use Rattle.three_laws.specs.TriplesLaws.{TripleSamples, triple_samples-append, triple_samples-take, triples-samples}
use Rattle.three_laws.specs.ThreePast.{three_past, three_past-grows}
use Rattle.three_state.specs.declared.ThreeState.{ThreeState}
use Rattle.three_state.specs.ThreeState.{three_fresh, three_state_of}
use Rattle.three_state.proofs.ThreeStepFollows.{three-steps-of, three-fresh-is, three-readings-of}
use Rattle.three_state.specs.ThreeFed.{three_fed_with}
use Rattle.three_logger.specs.Logger.{in_samples, three_fed_by, three_fed}
use Rattle.three_logger.specs.Calls.{three_started_from, three_calls}
use Rattle.three_claim.specs.ThreeClaim.{Caller, fed_as, written_by, logger_answer, caller_after, logger_answers, caller_after_all, fresh_caller, Agree, Kept, ThreePhases}

module _ (s : Settings) (valid : ValidSettings s) where
  some : 0 < s.samples
  some = omega (arith, valid.samples-valid.0)

  -- the records of the recordings
  abbrev records_of : List (Three ℤ) → List ℕ
  records_of rec = record_bytes (joint_records s rec)

  -- what the caller keeps, read from them
  abbrev caller_of : List (Three ℤ) → Caller ThreeState
  caller_of rec = record { logger = three_state_of s rec; written = records_of rec }

  -- a logger can hold them
  abbrev Held : List (Three ℤ) → Type 0
  Held rec = Recording (three_past s) TripleSamples rec

  -- one call: the two answers are the same, and the caller keeps what is read from the recordings after it
  pub record CallAgrees (told read : Answer) (kept : Caller ThreeState) (after : List (Three ℤ)) : Type 0 where
    pub same_answer : told ≡ read
    pub same_kept : kept ≡ caller_of after
    pub held : Held after

  abbrev Agrees : List (Three ℤ) → Call → Type 0
  Agrees rec c = CallAgrees (logger_answer three_calls (caller_of rec) c) (answer s rec c) (caller_after three_calls (caller_of rec) c) (recording_with s rec c)

  module _ (rec : List (Three ℤ)) (held : Held rec) where
    -- a feed, by its refusal of the block
    fed-step : (r : ℕ) (block : List ℤ) (lent : List ℕ) → Samples block →
        let o = three_fed_by r (three_state_of s rec) block lent in
        CallAgrees (fed_as o.answer o.bytes) (fed_answer r s rec (triples_of block) lent)
        (record { logger = o.after; written = records_of rec ++ written_by o.answer o.bytes }) (rec ++ taken_by r s rec (triples_of block) (room lent))
    unfolding three_fed_with
    fed-step zero block lent are =
        let triples = triples_of block in
        let F = fed_by-follows (three_past-grows s some) (three-steps-of s some) triples rec (room lent) held.within in
        let n = joint_taken s rec triples (room lent) in
        let es = joint_completed s rec triples n in
        let bytes = record_bytes es in
        let grown : records_of rec ++ take (record_length * length es) (over bytes lent) ≡ records_of (rec ++ take n triples) =
        ap (λ (front : List ℕ). records_of rec ++ front) (take_at bytes (drop (length bytes) lent) (record_length * length es) (length-record_bytes es))
        ∙ sym (ap record_bytes (records-completed (three_past-grows s some) rec triples n) ∙ record_bytes-append (joint_records s rec) es) in
        record {
          same_answer = λ i. fed (in_samples (outcome_of lent (F i)).told) (outcome_of lent (F i)).bytes;
          same_kept =
              (λ i. record { logger = (F i).after; written = records_of rec ++ take (record_length * length (F i).records) (over (record_bytes (F i).records) lent) })
              ∙ (λ i. record { logger = three_state_of s (rec ++ take n triples); written = grown i });
          held = recording-fed (three_past-grows s some) triple_samples-append triple_samples-take rec triples (room lent) held (triples-samples block are);
        }
    fed-step (suc r) block lent are = record {
      same_answer = refl;
      same_kept = (λ i. record { logger = three_state_of s rec; written = append-nil (records_of rec) i }) ∙ ap caller_of (sym (append-nil rec));
      held = subst Held (sym (append-nil rec)) held;
    }

    feed-step : (block : List ℤ) (lent : List ℕ) → Samples block → Agrees rec (feed block lent)
    unfolding three_fed
    feed-step block lent are = fed-step (feed_refusal block) block lent are

    look-step : Agrees rec look
    look-step = record { same_answer = ap looked (three-readings-of s rec); same_kept = refl; held = held }

  -- call by call
  pub record ListAgrees (rec : List (Three ℤ)) (cs : List Call) : Type 0 where
    pub same-answers : logger_answers three_calls (caller_of rec) cs ≡ answers s rec cs
    pub same_kept : caller_after_all three_calls (caller_of rec) cs ≡ caller_of (recording_after s rec cs)

  step_run : (rec : List (Three ℤ)) (c : Call) (cs : List Call) → Agrees rec c → ListAgrees (recording_with s rec c) cs → ListAgrees rec (c ∷ cs)
  step_run rec c cs step run = record {
    same-answers = λ i. step.same_answer i ∷ (ap (λ (w : Caller ThreeState). logger_answers three_calls w cs) step.same_kept ∙ run.same-answers) i;
    same_kept = ap (λ (w : Caller ThreeState). caller_after_all three_calls w cs) step.same_kept ∙ run.same_kept;
  }

  run : (cs : List Call) (rec : List (Three ℤ)) → Held rec → WellFormed cs → ListAgrees rec cs
  run [] rec held w = record { same-answers = refl; same_kept = refl }
  run (feed block lent ∷ cs) rec held w =
      let step = feed-step rec held block lent w.0 in
      step_run rec (feed block lent) cs step (run cs (recording_with s rec (feed block lent)) step.held w.2)
  run (look ∷ cs) rec held w = step_run rec look cs (look-step rec held) (run cs rec held w)

  -- from the fresh logger
  none_yet : joint_count s [] ≡ 0
  none_yet = omega (arith, halves-none s)

  fresh_kept : fresh_caller three_calls (three_fresh s) ≡ caller_of []
  fresh_kept = λ i. record { logger = three-fresh-is s some i; written = record_bytes (joint_due_after s [] 0 (sym none_yet i)) }

  pub agrees : (cs : List Call) → WellFormed cs → Agree three_calls s (three_fresh s) cs
  agrees cs w =
      let r = run cs [] (record { samples = λ c. tt; within = omega (arith, none_yet) }) w in
      record {
        same-answers = ap (λ (c : Caller ThreeState). logger_answers three_calls c cs) fresh_kept ∙ r.same-answers;
        same-records = ap (λ (c : Caller ThreeState). (caller_after_all three_calls c cs).written) fresh_kept ∙ ap (λ (c : Caller ThreeState). c.written) r.same_kept;
      }

-- start: settings bytes in, a fresh logger or a refusal out
pub three-phases-holds : ThreePhases three_calls
three-phases-holds b are = go (settings_read b) refl
  where
    go : (r : Answered Settings) → settings_read b ≡ r → Kept three_calls b (three_started_from r)
    go (accepted s) e =
        let a = read-accepted b s e in
        (a.none, λ cs w. subst (λ (z : Settings). Agree three_calls z (three_fresh s) cs) a.settings-are (agrees s a.valid cs w))
    go (refused n) e = read-refused b n e
