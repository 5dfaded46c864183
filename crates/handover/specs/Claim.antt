-- Demand 3, the statement. The logger is fed in blocks, tried, saved, handed over and restored; the engineer reads the kept recording as a whole. Over every
-- list of calls from a fresh logger the two have the same answers, lent bytes included, and after it the same records.
use Rattle.std.specs.Prelude.{◌≡◌, ◌≢◌, Bool, true, false, List, [], ◌∷◌, ◌++◌, ℕ, ◌*◌, take, get_or, if◌then◌else◌}
use Rattle.octets.specs.Bytes.{Bytes}
use Rattle.settings.specs.declared.Settings.{Settings}
use Rattle.numbers.specs.Notation.{◌≡ᵇ◌}
use Rattle.numbers.specs.Answers.{Answered, refusal_in}
use Rattle.numbers.specs.Answers.Answered.{accepted, refused}
use Rattle.settings.specs.Settings.{settings_of, start_refusal}
use Rattle.reading.specs.Records.{record_bytes}
use Rattle.reading.specs.Feed.{records}
use Rattle.reading.specs.Calls.{Calls}
use Rattle.reading.specs.Engineer.{Call, Answer, empty_desk, answers, desk_after, WellFormed}
use Rattle.reading.specs.Engineer.Call.{feed, trial, look, save, restore_save, restore_refused}
use Rattle.reading.specs.Engineer.Answer.{fed, tried, looked, saved, restored}
use Rattle.reading.specs.Layout.{record_length, image_length}

-- whether a call is a trial
abbrev pub is_trial : Call → Bool
is_trial (feed block lent) = false
is_trial (trial block lent) = true
is_trial look = false
is_trial (save lent) = false
is_trial (restore_save j) = false
is_trial (restore_refused bytes) = false

-- what stands in a list at the places of the calls that are no trials
abbrev pub without_trials : {A : Type 0} → List Call → List A → List A
without_trials [] xs = []
without_trials (c ∷ cs) [] = []
without_trials (c ∷ cs) (x ∷ xs) = if is_trial c then without_trials cs xs else x ∷ without_trials cs xs

-- who calls it keeps the logger that the last call left or yielded, the image of each accepted save, and the records written so far, with those at each save
pub record Caller (L : Type 0) : Type 0 where
  pub logger : L
  pub images : List (List ℕ)
  pub written : List ℕ
  pub written_at : List (List ℕ)

module _ {L : Type 0} (C : Calls L) where
  abbrev pub logger_answer : Caller L → Call → Answer
  logger_answer w (feed block lent) = let r = C.feed w.logger block lent in fed r.told r.bytes
  logger_answer w (trial block lent) = let r = C.trial w.logger block lent in tried r.told r.bytes
  logger_answer w look = looked (C.look w.logger)
  logger_answer w (save lent) = let r = C.save w.logger lent in saved r.number r.bytes
  logger_answer w (restore_save j) = restored (refusal_in (C.restore w.logger (get_or w.images j [])).answer)
  logger_answer w (restore_refused bytes) = restored (refusal_in (C.restore w.logger bytes).answer)

  -- a feed's records are the first bytes of its buffer, record_length for each; of a trial nothing is kept, and the logger stays; an accepted save's image is
  -- the first image_length; an accepted restore of a save sets the records back to those at that save
  abbrev pub caller_after : Caller L → Call → Caller L
  caller_after w (feed block lent) =
      let r = C.feed w.logger block lent in
      record { logger = r.after; images = w.images; written = w.written ++ take (record_length * r.told.written) r.bytes; written_at = w.written_at }
  caller_after w (trial block lent) = w
  caller_after w look = w
  caller_after w (save lent) =
      let r = C.save w.logger lent in
      if r.number ≡ᵇ 0
      then record { logger = w.logger; images = w.images ++ (take image_length r.bytes ∷ []); written = w.written; written_at = w.written_at ++ (w.written ∷ []) }
      else w
  caller_after w (restore_save j) =
      let r = C.restore w.logger (get_or w.images j []) in
      record { logger = r.after; images = w.images; written = if refusal_in r.answer ≡ᵇ 0 then get_or w.written_at j [] else w.written; written_at = w.written_at }
  caller_after w (restore_refused bytes) =
      record { logger = (C.restore w.logger bytes).after; images = w.images; written = w.written; written_at = w.written_at }

  -- over a list of calls
  abbrev pub logger_answers : Caller L → List Call → List Answer
  logger_answers w [] = []
  logger_answers w (c ∷ cs) = logger_answer w c ∷ logger_answers (caller_after w c) cs

  abbrev pub caller_after_all : Caller L → List Call → Caller L
  caller_after_all w [] = w
  caller_after_all w (c ∷ cs) = caller_after_all (caller_after w c) cs

  abbrev pub fresh_caller : L → Caller L
  fresh_caller l = record { logger = l; images = []; written = []; written_at = [] }

  -- the logger and the engineer agree over a list of calls: each answer, a trial's too; and after the list the records written so far and those of the
  -- recording. Since a trial leaves no logger, the list without its trials has the same other answers, and the same is kept after it
  pub record Agree (s : Settings) (l : L) (cs : List Call) : Type 0 where
    pub same-answers : logger_answers (fresh_caller l) cs ≡ answers s empty_desk cs
    pub same-records : (caller_after_all (fresh_caller l) cs).written ≡ record_bytes (records s (desk_after s empty_desk cs).recording)
    pub others-without-trials : without_trials cs (logger_answers (fresh_caller l) cs) ≡ logger_answers (fresh_caller l) (without_trials cs cs)
    pub kept-without-trials : caller_after_all (fresh_caller l) cs ≡ caller_after_all (fresh_caller l) (without_trials cs cs)

  -- what start's answer to settings bytes promises
  abbrev pub Kept : List ℕ → Answered L → Type 0
  Kept b (accepted l) = (start_refusal b ≡ 0) × ((cs : List Call) → WellFormed 0 cs → Agree (settings_of b) l cs)
  Kept b (refused n) = (start_refusal b ≡ n) × (n ≢ 0)

  -- DEMAND 3: for every settings bytes that start accepts, and every well-formed list of calls from the fresh logger
  abbrev pub Demand3 : Type 0
  Demand3 = (b : List ℕ) → Bytes b → Kept b (C.start b)
