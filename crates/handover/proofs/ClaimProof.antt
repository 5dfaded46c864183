-- Demand 3, proved. What the caller keeps is read from what the engineer keeps (`caller_of`); each call keeps it so and gives the engineer's answer; and so,
-- call by call, over every list.
use Rattle.std.specs.Prelude.{◌≡◌, refl, true, false, ℕ, zero, suc, ◌*◌, ◌<◌, drop, get_or, ℤ, if◌then◌else◌}
use Rattle.std.proofs.Math.Path.{sym, ap}
use Rattle.std.proofs.Common.{◌∙◌, subst, arith, length-append, take_at}
use Rattle.std.proofs.Math.Bool.{Bool}
use mathlib.Core.List.{List, [], ◌∷◌, ◌++◌, map}
use Rattle.std.proofs.Math.ListN.{length, take}
use Rattle.settings.specs.declared.Settings.{Settings}
use Rattle.numbers.specs.Notation.{◌<ᵇ◌, ◌≡ᵇ◌}
use Rattle.numbers.specs.Answers.{refusal_in, Answered}
use Rattle.numbers.specs.Answers.Answered.{accepted, refused}
use Rattle.settings.specs.Settings.{settings_read, ValidSettings}
use Rattle.settings.specs.SettingsLaws.{read-accepted, read-refused}
use Rattle.reading.specs.Values.{Samples, value_count}
use Rattle.reading.specs.Records.{record_bytes}
use Rattle.reading.specs.Image.{image_of}
use Rattle.reading.specs.Restore.{restore_refusal}
use Rattle.reading.specs.Feed.{due_after, records, completed, taken}
use Rattle.reading.specs.Calls.{Calls, without_logger}
use Rattle.reading.specs.Engineer.{Call, Answer, Desk, over, room, empty_desk, fed_after, answer, desk_with, answers, desk_after, WellFormed}
use Rattle.reading.specs.Engineer.Call.{feed, trial, look, save, restore_save, restore_refused}
use Rattle.reading.specs.Engineer.Answer.{fed, tried, looked, saved, restored}
use Rattle.reading.specs.Layout.{record_length, image_length}
use Rattle.reading_laws.specs.RecordingsLaws.{samples-append, samples-take}
use Rattle.reading_laws.specs.Past.{past}
use Rattle.reading_laws.specs.PastLaws.{past-grows}
use Rattle.reading_laws.specs.CompletedLaws.{records-completed}
use Rattle.records.specs.DueLaws.{length-record_bytes, record_bytes-append}
use Rattle.greedy.specs.Greedy.{Run, outcome_of}
use Rattle.greedy.proofs.GreedyFollows.{Recording, fed_by-follows, recording-fed}
use Rattle.state.specs.declared.State.{State}
use Rattle.state.specs.State.{fresh, state_of}
use Rattle.state.proofs.StepFollows.{steps_of, fresh-is, readings-of, halves-none}
use Rattle.state.proofs.StepValid.{state_of-valid, recording-none}
use Rattle.state.specs.Calls.{fed_with}
use Rattle.image.specs.Image.{image_bytes, save_answer, saved_bytes, restored_by}
use Rattle.image.specs.ImageLaws.{length-image_bytes, restored_by-saved, restored_by-refused}
use Rattle.image.specs.ImageFollows.{image-of-state}
use Rattle.logger.specs.Calls.{started_from, logger_calls}
use Rattle.handover.specs.Claim.{is_trial, without_trials}
use Rattle.handover.specs.Claim.{Caller, logger_answer, caller_after, logger_answers, caller_after_all, fresh_caller, Agree, Kept, Demand3}

-- lists of copies
abbrev pub AllRecordings : Settings → List (List ℤ) → Type 0
AllRecordings s [] = Unit {0}
AllRecordings s (r ∷ rs) = Recording (past s) Samples r × AllRecordings s rs

recordings-snoc : (s : Settings) (rs : List (List ℤ)) (r : List ℤ) → AllRecordings s rs → Recording (past s) Samples r → AllRecordings s (rs ++ (r ∷ []))
recordings-snoc s [] r p q = (q, tt)
recordings-snoc s (x ∷ rs) r p q = (p.0, recordings-snoc s rs r p.1 q)

recordings-at : (s : Settings) (rs : List (List ℤ)) (j : ℕ) → AllRecordings s rs → j < length rs → Recording (past s) Samples (get_or rs j [])
recordings-at s [] j p h = absurd (omega arith)
recordings-at s (r ∷ rs) zero p h = p.0
recordings-at s (r ∷ rs) (suc j) p h = recordings-at s rs j p.1 (omega arith)

map_snoc : {A B : Type 0} (f : A → B) (xs : List A) (x : A) → map f xs ++ (f x ∷ []) ≡ map f (xs ++ (x ∷ []))
map_snoc f [] x = refl
map_snoc f (y ∷ xs) x = ap (λ z. f y ∷ z) (map_snoc f xs x)

get_d_map : {A B : Type 0} (f : A → B) (xs : List A) (j : ℕ) (a : A) (b : B) → j < length xs → get_or (map f xs) j b ≡ f (get_or xs j a)
get_d_map f [] j a b h = absurd (omega arith)
get_d_map f (x ∷ xs) zero a b h = refl
get_d_map f (x ∷ xs) (suc j) a b h = get_d_map f xs j a b (omega arith)

-- the bytes written at the front of a buffer
pub take-over : (n : ℕ) (bytes lent : List ℕ) → length bytes ≡ n → take n (over bytes lent) ≡ bytes
take-over n bytes lent l = take_at bytes (drop (length bytes) lent) n l

-- what stands at the place of a call that is no trial
other-stays : {A : Type 0} (c : Call) → is_trial c ≡ false → (x : A) (xs : List A) → (if is_trial c then xs else x ∷ xs) ≡ x ∷ xs
other-stays c other x xs = ap (λ (t : Bool). if t then xs else x ∷ xs) other

-- trials change nothing, whoever is called: without them the other answers are the same, and so is what is kept
module _ {L : Type 0} (C : Calls L) where
  pub record Aside (w : Caller L) (cs : List Call) : Type 0 where
    pub same-others : without_trials cs (logger_answers C w cs) ≡ logger_answers C w (without_trials cs cs)
    pub same_after : caller_after_all C w cs ≡ caller_after_all C w (without_trials cs cs)

  -- a call that is no trial
  aside-other : (w : Caller L) (c : Call) (cs : List Call) → is_trial c ≡ false → Aside (caller_after C w c) cs → Aside w (c ∷ cs)
  aside-other w c cs other rest =
      let a = logger_answer C w c in
      let calls = sym (other-stays c other c (without_trials cs cs)) in
      record {
        same-others = other-stays c other a _ ∙ ap (λ (later : List Answer). a ∷ later) rest.same-others ∙ ap (logger_answers C w) calls;
        same_after = rest.same_after ∙ ap (caller_after_all C w) calls;
      }

  aside : (cs : List Call) (w : Caller L) → Aside w cs
  aside [] w = record { same-others = refl; same_after = refl }
  aside (trial block lent ∷ cs) w = let rest = aside cs w in record { same-others = rest.same-others; same_after = rest.same_after }
  aside (feed block lent ∷ cs) w = aside-other w (feed block lent) cs refl (aside cs _)
  aside (look ∷ cs) w = aside-other w look cs refl (aside cs _)
  aside (save lent ∷ cs) w = aside-other w (save lent) cs refl (aside cs _)
  aside (restore_save j ∷ cs) w = aside-other w (restore_save j) cs refl (aside cs _)
  aside (restore_refused bytes ∷ cs) w = aside-other w (restore_refused bytes) cs refl (aside cs _)

module _ (s : Settings) (valid : ValidSettings s) where
  some : 0 < s.samples
  some = omega (arith, valid.samples-valid.0)

  -- the records of a recording
  abbrev records_of : List ℤ → List ℕ
  records_of rec = record_bytes (records s rec)

  -- what the caller keeps, read from what the engineer keeps
  abbrev caller_of : Desk → Caller State
  caller_of d = record {
    logger = state_of s d.recording;
    images = map (image_of s) d.copies;
    written = records_of d.recording;
    written_at = map records_of d.copies;
  }

  pub record DeskOk (d : Desk) : Type 0 where
    pub recording-ok : Recording (past s) Samples d.recording
    pub copies-ok : AllRecordings s d.copies

  -- one call: the same answer, and the caller still keeps what is read from the desk
  pub record CallAgrees (d : Desk) (c : Call) : Type 0 where
    pub same_answer : logger_answer logger_calls (caller_of d) c ≡ answer s d c
    pub same_kept : caller_after logger_calls (caller_of d) c ≡ caller_of (desk_with s d c)
    pub ok : DeskOk (desk_with s d c)

  module _ (d : Desk) (ok : DeskOk d) where
    abbrev rec : List ℤ
    rec = d.recording

    abbrev copies : List (List ℤ)
    copies = d.copies

    -- of a block that is fed, or tried
    block-told : (block : List ℤ) (lent : List ℕ) → without_logger (fed_with (state_of s rec) block lent) ≡ fed_after s rec block lent
    unfolding fed_with
    block-told block lent = ap (λ (r : Run State). without_logger (outcome_of lent r))
        (fed_by-follows (past-grows s some) (steps_of s some) block rec (room lent) ok.recording-ok.within)

    trial-step : (block : List ℤ) (lent : List ℕ) → CallAgrees d (trial block lent)
    trial-step block lent = let B = block-told block lent in record { same_answer = λ i. tried (B i).told (B i).bytes; same_kept = refl; ok = ok }

    feed-step : (block : List ℤ) (lent : List ℕ) → Samples block → CallAgrees d (feed block lent)
    unfolding fed_with
    feed-step block lent are =
        let F = fed_by-follows (past-grows s some) (steps_of s some) block rec (room lent) ok.recording-ok.within in
        let B = block-told block lent in
        let n = taken s rec block (room lent) in
        let es = completed s rec block n in
        let grown : records_of rec ++ take (record_length * length es) (over (record_bytes es) lent) ≡ records_of (rec ++ take n block) =
        ap (λ (bytes : List ℕ). records_of rec ++ bytes) (take-over (record_length * length es) (record_bytes es) lent (length-record_bytes es))
        ∙ sym (ap record_bytes (records-completed (past-grows s some) rec block n) ∙ record_bytes-append (records s rec) es) in
        record {
          same_answer = λ i. fed (B i).told (B i).bytes;
          same_kept =
              (λ i. record {
                logger = (F i).after;
                images = map (image_of s) copies;
                written = records_of rec ++ take (record_length * length (F i).records) (over (record_bytes (F i).records) lent);
                written_at = map records_of copies;
              })
              ∙ (λ i. record { logger = state_of s (rec ++ take n block); images = map (image_of s) copies; written = grown i; written_at = map records_of copies });
          ok = record { recording-ok = recording-fed (past-grows s some) samples-append samples-take rec block (room lent) ok.recording-ok are; copies-ok = ok.copies-ok };
        }

    look-step : CallAgrees d look
    look-step = record { same_answer = ap looked (readings-of s rec); same_kept = refl; ok = ok }

    image-first : (lent : List ℕ) → take image_length (over (image_bytes (state_of s rec)) lent) ≡ image_of s rec
    image-first lent =
        let v = state_of-valid s rec valid ok.recording-ok in
        take-over image_length (image_bytes (state_of s rec)) lent (length-image_bytes (state_of s rec) v.window-valid.size v.marks-valid.size) ∙ image-of-state s rec

    save-step : (lent : List ℕ) → CallAgrees d (save lent)
    unfolding save_answer saved_bytes
    save-step lent = record { same_answer = answered short; same_kept = kept short; ok = kept-ok short }
      where
        short : Bool
        short = length lent <ᵇ image_length

        answered : (b : Bool) →
            saved (if b then 7 else 0) (if b then lent else over (image_bytes (state_of s rec)) lent) ≡ (if b then saved 7 lent else saved 0 (over (image_of s rec) lent))
        answered true = refl
        answered false = ap (λ (image : List ℕ). saved 0 (over image lent)) (image-of-state s rec)

        desk_with : Bool → Desk
        desk_with b = if b then d else record { recording = rec; copies = copies ++ (rec ∷ []) }

        images-with : map (image_of s) copies ++ (take image_length (over (image_bytes (state_of s rec)) lent) ∷ []) ≡ map (image_of s) (copies ++ (rec ∷ []))
        images-with = ap (λ (image : List ℕ). map (image_of s) copies ++ (image ∷ [])) (image-first lent) ∙ map_snoc (image_of s) copies rec

        kept : (b : Bool) →
            (if (if b then 7 else 0) ≡ᵇ 0
            then record {
              logger = state_of s rec;
              images = map (image_of s) copies ++ (take image_length (if b then lent else over (image_bytes (state_of s rec)) lent) ∷ []);
              written = records_of rec;
              written_at = map records_of copies ++ (records_of rec ∷ []);
            }
            else caller_of d)
            ≡ caller_of (if b then d else record { recording = rec; copies = copies ++ (rec ∷ []) })
        kept true = refl
        kept false = λ i. record { logger = state_of s rec; images = images-with i; written = records_of rec; written_at = map_snoc records_of copies rec i }

        kept-ok : (b : Bool) → DeskOk (if b then d else record { recording = rec; copies = copies ++ (rec ∷ []) })
        kept-ok true = ok
        kept-ok false = record { recording-ok = ok.recording-ok; copies-ok = recordings-snoc s copies rec ok.copies-ok ok.recording-ok }

    restore-step : (j : ℕ) → j < length copies → CallAgrees d (restore_save j)
    restore-step j h =
        let back = get_or copies j [] in
        let back-ok = recordings-at s copies j ok.copies-ok h in
        let P = ap (restored_by (state_of s rec)) (get_d_map (image_of s) copies j [] [] h ∙ sym (image-of-state s back))
        ∙ restored_by-saved (state_of s back) (state_of-valid s back valid back-ok) (state_of s rec) in
        record {
          same_answer = λ i. restored (refusal_in (P i).answer);
          same_kept =
              (λ i. record {
                logger = (P i).after;
                images = map (image_of s) copies;
                written = if refusal_in (P i).answer ≡ᵇ 0 then get_or (map records_of copies) j [] else records_of rec;
                written_at = map records_of copies;
              })
              ∙ (λ i. record { logger = state_of s back; images = map (image_of s) copies; written = get_d_map records_of copies j [] [] h i; written_at = map records_of copies });
          ok = record { recording-ok = back-ok; copies-ok = ok.copies-ok };
        }

    refuse-step : (bytes : List ℕ) → (restore_refusal bytes ≡ 0 → ⊥) → CallAgrees d (restore_refused bytes)
    refuse-step bytes h =
        let P = restored_by-refused (state_of s rec) bytes h in
        record {
          same_answer = λ i. restored (refusal_in (P i).answer);
          same_kept = λ i. record { logger = (P i).after; images = map (image_of s) copies; written = records_of rec; written_at = map records_of copies };
          ok = ok;
        }

  -- call by call
  pub record ListAgrees (d : Desk) (cs : List Call) : Type 0 where
    pub same-answers : logger_answers logger_calls (caller_of d) cs ≡ answers s d cs
    pub same_kept : caller_after_all logger_calls (caller_of d) cs ≡ caller_of (desk_after s d cs)

  step_run : (d : Desk) (c : Call) (cs : List Call) → CallAgrees d c → ListAgrees (desk_with s d c) cs → ListAgrees d (c ∷ cs)
  step_run d c cs step run = record {
    same-answers = λ i. step.same_answer i ∷ (ap (λ (w : Caller State). logger_answers logger_calls w cs) step.same_kept ∙ run.same-answers) i;
    same_kept = ap (λ (w : Caller State). caller_after_all logger_calls w cs) step.same_kept ∙ run.same_kept;
  }

  -- the copies after an accepted save are one more
  copies-more : (d : Desk) (b : Bool) (cs : List Call) → WellFormed (if b then length d.copies else suc (length d.copies)) cs
      → WellFormed (length (if b then d else record { recording = d.recording; copies = d.copies ++ (d.recording ∷ []) }).copies) cs
  copies-more d true cs w = w
  copies-more d false cs w =
      let l : suc (length d.copies) ≡ length (d.copies ++ (d.recording ∷ [])) = simp length-append (omega arith) in
      subst (λ (n : ℕ). WellFormed n cs) l w

  pub run : (cs : List Call) (d : Desk) → DeskOk d → WellFormed (length d.copies) cs → ListAgrees d cs
  run [] d ok w = record { same-answers = refl; same_kept = refl }
  run (feed block lent ∷ cs) d ok w = let p = feed-step d ok block lent w.0 in step_run d (feed block lent) cs p (run cs (desk_with s d (feed block lent)) p.ok w.2)
  run (trial block lent ∷ cs) d ok w = step_run d (trial block lent) cs (trial-step d ok block lent) (run cs d ok w.2)
  run (look ∷ cs) d ok w = step_run d look cs (look-step d ok) (run cs d ok w)
  run (save lent ∷ cs) d ok w =
      let p = save-step d ok lent in
      step_run d (save lent) cs p (run cs (desk_with s d (save lent)) p.ok (copies-more d (length lent <ᵇ image_length) cs w.1))
  run (restore_save j ∷ cs) d ok w = let p = restore-step d ok j w.0 in step_run d (restore_save j) cs p (run cs (desk_with s d (restore_save j)) p.ok w.1)
  run (restore_refused bytes ∷ cs) d ok w = step_run d (restore_refused bytes) cs (refuse-step d ok bytes w.1) (run cs d ok w.2)

  -- from the fresh logger
  fresh_kept : fresh_caller logger_calls (fresh s) ≡ caller_of empty_desk
  fresh_kept =
      let none : value_count s [] ≡ 0 = omega (arith, halves-none s) in
      λ i. record {
        logger = fresh-is s some i;
        images = [];
        written = record_bytes (due_after s [] 0 (sym none i));
        written_at = [];
      }

  pub agrees : (cs : List Call) → WellFormed 0 cs → Agree logger_calls s (fresh s) cs
  agrees cs w =
      let r = run cs empty_desk (record { recording-ok = recording-none s; copies-ok = tt }) w in
      let without = aside logger_calls cs (fresh_caller logger_calls (fresh s)) in
      record {
        same-answers = ap (λ (c : Caller State). logger_answers logger_calls c cs) fresh_kept ∙ r.same-answers;
        same-records = ap (λ (c : Caller State). (caller_after_all logger_calls c cs).written) fresh_kept ∙ ap (λ (c : Caller State). c.written) r.same_kept;
        others-without-trials = without.same-others;
        kept-without-trials = without.same_after;
      }

-- start: settings bytes in, a fresh logger or a refusal out
pub demand3-holds : Demand3 logger_calls
demand3-holds b are = go (settings_read b) refl
  where
    go : (r : Answered Settings) → settings_read b ≡ r → Kept logger_calls b (started_from r)
    go (accepted s) e =
        let a = read-accepted b s e in
        (a.none, λ cs w. subst (λ (z : Settings). Agree logger_calls z (fresh s) cs) a.settings-are (agrees s a.valid cs w))
    go (refused n) e = read-refused b n e
