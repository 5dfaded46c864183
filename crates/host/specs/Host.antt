-- What the calls of a host answer, and what they leave in each lent buffer.
use Rattle.std.specs.Prelude.{Bool, not, List, [], ◌∷◌, ℕ, zero, suc, ◌%◌, length, if◌then◌else◌}
use Rattle.octets.specs.Bytes.{row}
use Rattle.numbers.specs.Notation.{◌≤ᵇ◌, ◌≡ᵇ◌, flag, refuse◌unless◌then◌}
use Rattle.numbers.specs.Answers.{Answered}
use Rattle.numbers.specs.Answers.Answered.{accepted, refused}
use Rattle.reading.specs.Told.{Told}
use Rattle.reading.specs.Restore.{restore_refusal}
use Rattle.reading.specs.Calls.{Outcome, Trial}
use Rattle.reading.specs.Engineer.{over, too_short}
use Rattle.reading.specs.Layout.{reply_widths, reply_length, day_reply_widths, day_reply_length}
use Rattle.samples.specs.Samples.{samples_of}
use Rattle.state.specs.declared.State.{State}
use Rattle.image.specs.Image.{state_at}
use Rattle.logger.specs.Calls.{logger_calls}
use Rattle.day_count.specs.declared.DayCount.{DayCount}
use Rattle.day_count.specs.Days.{day_counted}

-- a call's answer, and the buffers that it may write as it leaves them
pub record Begun : Type 0 where
  pub number : ℕ
  pub image : List ℕ

abbrev pub begun_to : ℕ → List ℕ → Begun
begun_to number image = record { number = number; image = image }

pub record Advanced : Type 0 where
  pub number : ℕ
  pub next : List ℕ
  pub records : List ℕ
  pub reply : List ℕ

abbrev pub advanced_to : ℕ → List ℕ → List ℕ → List ℕ → Advanced
advanced_to number next records reply = record { number = number; next = next; records = records; reply = reply }

-- begin: start's refusals, then 7; else a fresh image
abbrev pub begun_by : Answered State → List ℕ → Begun
begun_by (accepted st) lent = let r = logger_calls.save st lent in begun_to r.number r.bytes
begun_by (refused n) lent = begun_to n lent

unfoldable pub begun : List ℕ → List ℕ → Begun
begun b lent = begun_by (logger_calls.start b) lent

-- what advance and try begin with: restore's refusals, 12 for an odd number of sample bytes; else the rest
abbrev pub block_refusal : List ℕ → List ℕ → ℕ → ℕ
block_refusal image samples rest =
    refuse restore_refusal image unless restore_refusal image ≡ᵇ 0 then
    refuse 12 unless length samples % 2 ≡ᵇ 0 then rest

-- and end with: 13 for a reply that is shorter; else 0
abbrev pub reply_refusal : List ℕ → ℕ
reply_refusal reply = refuse 13 unless reply_length ≤ᵇ length reply then 0

-- advance: between them 7 for the next image's buffer
abbrev pub advance_refusal : List ℕ → List ℕ → List ℕ → List ℕ → ℕ
advance_refusal image samples next reply = block_refusal image samples (refuse 7 unless not (too_short next) then reply_refusal reply)

-- taken, written and why, and the reply's further bytes as they were
unfoldable pub replied : Told → List ℕ → List ℕ
replied told reply = over (row reply_widths (told.taken ∷ told.written ∷ told.why ∷ [])) reply

-- where it refuses, all buffers are as they were; else those of feed, the reply and save
abbrev pub advanced_by : ℕ → Outcome State → List ℕ → List ℕ → List ℕ → Advanced
advanced_by zero f next records reply = advanced_to 0 (logger_calls.save f.after next).bytes f.bytes (replied f.told reply)
advanced_by (suc n) f next records reply = advanced_to (suc n) next records reply

unfoldable pub advanced : List ℕ → List ℕ → List ℕ → List ℕ → List ℕ → Advanced
advanced image samples next records reply =
    advanced_by (advance_refusal image samples next reply) (logger_calls.feed (state_at image) (samples_of samples) records) next records reply

-- try: its answer, and the scratch buffer and the reply as it leaves them
pub record BlockTried : Type 0 where
  pub number : ℕ
  pub scratch : List ℕ
  pub reply : List ℕ

abbrev pub block_tried_to : ℕ → List ℕ → List ℕ → BlockTried
block_tried_to number scratch reply = record { number = number; scratch = scratch; reply = reply }

-- try: no 7, for there is no next image
abbrev pub try_refusal : List ℕ → List ℕ → List ℕ → ℕ
try_refusal image samples reply = block_refusal image samples (reply_refusal reply)

-- where it refuses, both buffers are as they were; else those of the trial and the reply
abbrev pub block_tried_by : ℕ → Trial → List ℕ → List ℕ → BlockTried
block_tried_by zero t scratch reply = block_tried_to 0 t.bytes (replied t.told reply)
block_tried_by (suc n) t scratch reply = block_tried_to (suc n) scratch reply

unfoldable pub block_tried : List ℕ → List ℕ → List ℕ → List ℕ → BlockTried
block_tried image samples scratch reply =
    block_tried_by (try_refusal image samples reply) (logger_calls.trial (state_at image) (samples_of samples) scratch) scratch reply

-- the count of a day: its answer, and the reply as it leaves it
pub record CountedDay : Type 0 where
  pub number : ℕ
  pub reply : List ℕ

abbrev pub counted_to : ℕ → List ℕ → CountedDay
counted_to number reply = record { number = number; reply = reply }

-- both counts, then whether each is over, and the reply's further bytes as they were
unfoldable pub day_replied : DayCount → List ℕ → List ℕ
day_replied day reply =
    over (row day_reply_widths (day.second.count ∷ day.first.count ∷ flag day.second.over ∷ flag day.first.over ∷ [])) reply

-- 02's refusals, then 13 for a reply that is shorter; else 0
abbrev pub counted_by : Answered DayCount → List ℕ → CountedDay
counted_by (refused n) reply = counted_to n reply
counted_by (accepted day) reply = if day_reply_length ≤ᵇ length reply then counted_to 0 (day_replied day reply) else counted_to 13 reply

unfoldable pub counted : List ℕ → List ℕ → ℕ → Bool → ℕ → List ℕ → CountedDay
counted settings records z above day reply = counted_by (day_counted settings records z above day) reply
