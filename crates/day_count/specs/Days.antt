-- 02, "Count per day": how many rapid voltage changes a day has, of those that network contracts cap, and whether a count is over its cap.
use Rattle.std.specs.Prelude.{Bool, ◌&&◌, List, [], ◌∷◌, map, ℕ, ◌+◌, ◌*◌, ◌/◌, ◌%◌, length, if◌then◌else◌}
use Rattle.numbers.specs.Notation.{◌≤ᵇ◌, ◌<ᵇ◌, ◌≡ᵇ◌, flag, all, refuse◌unless◌then◌}
use Rattle.numbers.specs.Answers.{Answered, answered}
use Rattle.numbers.specs.Answers.Answered.{accepted, refused}
use Rattle.settings.specs.declared.Settings.{Settings}
use Rattle.settings.specs.Settings.{window_length_of, settings_read}
use Rattle.reading.specs.declared.Event.{Event}
use Rattle.reading.specs.Layout.{record_length}
use Rattle.reading.specs.Records.{events_of}
use Rattle.day_count.specs.declared.Capped.{Capped}
use Rattle.day_count.specs.declared.DayCount.{DayCount}

-- a day, in half-cycles
abbrev pub day_length : Settings → ℕ
day_length s = 86400 * window_length_of s

-- the day of a value, counted from 0: value 0 lies z half-cycles after midnight
abbrev pub day_of : Settings → ℕ → ℕ → ℕ
day_of s z i = (z + i) / day_length s

-- a rapid voltage change, kind 4, of the day: a record belongs to the day of its start
abbrev pub change_on : Settings → ℕ → ℕ → Event → Bool
change_on s z day e = e.kind ≡ᵇ 4 && day_of s z e.start ≡ᵇ day

-- the second magnitude is at least 3 % of U, the first above 5 %: U is in sixteenths, magnitudes in N-ths of them
abbrev pub second_reaches : Settings → Event → Bool
second_reaches s e = 3 * window_length_of s * s.declared ≤ᵇ 100 * e.second

abbrev pub first_exceeds : Settings → Event → Bool
first_exceeds s e = 5 * window_length_of s * s.declared <ᵇ 100 * e.first

-- how many events of a list pass a test
abbrev pub how_many : (Event → Bool) → List Event → ℕ
how_many test [] = 0
how_many test (e ∷ es) = flag (test e) + how_many test es

-- the two counts are of these
abbrev pub second_counts : Settings → ℕ → ℕ → Event → Bool
second_counts s z day e = change_on s z day e && second_reaches s e

abbrev pub first_counts : Settings → ℕ → ℕ → Event → Bool
first_counts s z day e = change_on s z day e && first_exceeds s e

-- the cap on each: 24 up to 35 kV, 12 above; over is above the cap
abbrev pub cap : Bool → ℕ
cap above = if above then 12 else 24

abbrev pub capped : Bool → ℕ → Capped
capped above n = record { count = n; over = cap above <ᵇ n }

unfoldable pub day_count : Settings → List Event → ℕ → Bool → ℕ → DayCount
day_count s es z above day = record {
  second = capped above (how_many (second_counts s z day) es);
  first = capped above (how_many (first_counts s z day) es);
}

-- a kind of 1 to 4
abbrev pub known_kind : ℕ → Bool
known_kind k = 1 ≤ᵇ k && k ≤ᵇ 4

abbrev pub kinds : List Event → List ℕ
kinds es = map (λ e. e.kind) es

-- what refuses a list: 15, z is not below a day; 16, it is not whole records; 17, one of them has a kind outside 1 to 4
unfoldable pub list_refusal : Settings → List ℕ → ℕ → ℕ
list_refusal s records z =
    refuse 15 unless z <ᵇ day_length s then
    refuse 16 unless length records % record_length ≡ᵇ 0 then
    refuse 17 unless all known_kind (kinds (events_of records)) then
    0

-- under settings that start accepts: both counts and whether each is over, or the refusal
abbrev pub counted_under : Settings → List ℕ → ℕ → Bool → ℕ → Answered DayCount
counted_under s records z above day = answered (list_refusal s records z) (day_count s (events_of records) z above day)

-- start's own refusals come first
abbrev pub counted_after : Answered Settings → List ℕ → ℕ → Bool → ℕ → Answered DayCount
counted_after (accepted s) records z above day = counted_under s records z above day
counted_after (refused n) records z above day = refused n

-- the answer to settings bytes, records in bytes, z, whether above 35 kV, and the day
unfoldable pub day_counted : List ℕ → List ℕ → ℕ → Bool → ℕ → Answered DayCount
day_counted settings records z above day = counted_after (settings_read settings) records z above day
