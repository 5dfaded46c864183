-- 02, N2, the claim. The three-phase logger is fed in blocks; the engineer reads the three recordings as a whole. Over every list of feeds and looks from a fresh
-- logger, refused feeds included, the two have the same answers, lent bytes included, and after it the same records.
use Rattle.std.specs.Prelude.{◌≡◌, ◌≢◌, List, [], ◌∷◌, ◌++◌, ℕ, ◌*◌, take}
use Rattle.octets.specs.Bytes.{Bytes}
use Rattle.settings.specs.declared.Settings.{Settings}
use Rattle.settings.specs.Settings.{settings_of, start_refusal}
use Rattle.numbers.specs.Answers.{Answered}
use Rattle.numbers.specs.Answers.Answered.{accepted, refused}
use Rattle.reading.specs.Told.{Told}
use Rattle.reading.specs.Layout.{record_length}
use Rattle.reading.specs.Records.{record_bytes}
use Rattle.three_reading.specs.ThreeFeed.{joint_records}
use Rattle.three_reading.specs.ThreeCalls.{ThreeCalls}
use Rattle.three_reading.specs.ThreeEngineer.{Call, Answer, answers, recording_after, WellFormed}
use Rattle.three_reading.specs.ThreeEngineer.Call.{feed, look}
use Rattle.three_reading.specs.ThreeEngineer.Answer.{fed, refused as fed_refused, looked}

-- who calls it keeps the logger that the last call left, and the records written so far
pub record Caller (L : Type 0) : Type 0 where
  pub logger : L
  pub written : List ℕ

-- feed's answer with the record buffer
abbrev pub fed_as : Answered Told → List ℕ → Answer
fed_as (accepted t) bytes = fed t bytes
fed_as (refused n) bytes = fed_refused n bytes

-- a feed's records are the first bytes of its buffer, record_length for each; a refused one has none
abbrev pub written_by : Answered Told → List ℕ → List ℕ
written_by (accepted t) bytes = take (record_length * t.written) bytes
written_by (refused n) bytes = []

module _ {L : Type 0} (C : ThreeCalls L) where
  abbrev pub logger_answer : Caller L → Call → Answer
  logger_answer w (feed block lent) = let r = C.feed w.logger block lent in fed_as r.answer r.bytes
  logger_answer w look = looked (C.look w.logger)

  abbrev pub caller_after : Caller L → Call → Caller L
  caller_after w (feed block lent) =
      let r = C.feed w.logger block lent in
      record { logger = r.after; written = w.written ++ written_by r.answer r.bytes }
  caller_after w look = w

  -- over a list of calls
  abbrev pub logger_answers : Caller L → List Call → List Answer
  logger_answers w [] = []
  logger_answers w (c ∷ cs) = logger_answer w c ∷ logger_answers (caller_after w c) cs

  abbrev pub caller_after_all : Caller L → List Call → Caller L
  caller_after_all w [] = w
  caller_after_all w (c ∷ cs) = caller_after_all (caller_after w c) cs

  abbrev pub fresh_caller : L → Caller L
  fresh_caller l = record { logger = l; written = [] }

  -- the logger and the engineer agree over a list of calls: each answer; and after the list the records written so far and those of the recordings
  pub record Agree (s : Settings) (l : L) (cs : List Call) : Type 0 where
    pub same-answers : logger_answers (fresh_caller l) cs ≡ answers s [] cs
    pub same-records : (caller_after_all (fresh_caller l) cs).written ≡ record_bytes (joint_records s (recording_after s [] cs))

  -- what start's answer to settings bytes promises
  abbrev pub Kept : List ℕ → Answered L → Type 0
  Kept b (accepted l) = (start_refusal b ≡ 0) × ((cs : List Call) → WellFormed cs → Agree (settings_of b) l cs)
  Kept b (refused n) = (start_refusal b ≡ n) × (n ≢ 0)

  -- THREE PHASES: for every settings bytes that start accepts, and every well-formed list of calls from the fresh logger
  abbrev pub ThreePhases : Type 0
  ThreePhases = (b : List ℕ) → Bytes b → Kept b (C.start b)
