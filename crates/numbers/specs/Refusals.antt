-- The code's refusals and answers as 01 gives them, in numbers.
use Rattle.std.specs.Prelude.{ℕ, Result, Ok, Err}
use Rattle.numbers.specs.Answers.{Answered}
use Rattle.numbers.specs.Answers.Answered.{accepted, refused}
use Rattle.numbers.specs.declared.Refusal.{Refusal}
use Rattle.numbers.specs.declared.Refusal.TheVariants.{SettingsLength, Samples, Frequency, Declared, Limit, Levels, Room, ImageLength, ImageTable, ImageSettings}
use Rattle.numbers.specs.declared.Refusal.TheVariants.{ImageBody, OddSamples, ReplyRoom, PartTriple, DayStart, PartRecord, RecordKind, CountTooGreat, NotConvertible}

abbrev pub number_of : Refusal → ℕ
number_of SettingsLength = 1
number_of Samples = 2
number_of Frequency = 3
number_of Declared = 4
number_of Limit = 5
number_of Levels = 6
number_of Room = 7
number_of ImageLength = 8
number_of ImageTable = 9
number_of ImageSettings = 10
number_of ImageBody = 11
number_of OddSamples = 12
number_of ReplyRoom = 13
number_of PartTriple = 14
number_of DayStart = 15
number_of PartRecord = 16
number_of RecordKind = 17
number_of CountTooGreat = 18
number_of NotConvertible = 19

-- an answer that gives nothing but itself: 0, or the refusal
abbrev pub number_in : Result (Unit {0}) Refusal → ℕ
number_in (Ok a) = 0
number_in (Err r) = number_of r

-- an answer, its value read by f; and as it is
abbrev pub answer_with : {A B : Type 0} → (A → B) → Result A Refusal → Answered B
answer_with f (Ok a) = accepted (f a)
answer_with f (Err r) = refused (number_of r)

abbrev pub answer_in : {A : Type 0} → Result A Refusal → Answered A
answer_in r = answer_with (λ a. a) r
