-- Bench readings of the count per day, from settings bytes and records in bytes: its limits, midnights and caps, what it passes over, and its refusals.
use Rattle.std.specs.Prelude.{◌≡◌, Bool, true, false, List, [], ◌∷◌, ◌++◌, map, ℕ, ◌-◌, ◌^◌, take, replicate}
use Rattle.std.proofs.lemmas.List.Edits.{sets}
use Rattle.numbers.specs.Answers.{Answered, refusal_in}
use Rattle.numbers.specs.Answers.Answered.{accepted}
use Rattle.settings.specs.declared.Settings.{Settings}
use Rattle.settings.specs.Settings.{settings_bytes}
use Rattle.reading.specs.declared.Record.{Record}
use Rattle.reading.specs.Records.{record_bytes}
use Rattle.reading.specs.Bench.{q, q_of, q_loud}
use Rattle.day_count.specs.declared.DayCount.{DayCount}
use Rattle.day_count.specs.Days.{day_counted}

-- Q at 60 Hz, with a U: N is 120
abbrev pub q60 : ℕ → Settings
q60 u = q_of 8 60 u 300 150

-- a record of a kind, with a start and two magnitudes, that lasts two half-cycles
abbrev pub record_as : ℕ → ℕ → ℕ → ℕ → Record
record_as kind start first second = record { event = record { kind = kind; start = start; duration = 2; first = first; second = second }; clipped = false }

-- a rapid voltage change: with these magnitudes; large enough for both counts
abbrev pub change : ℕ → ℕ → Record
change first second = record_as 4 1 first second

abbrev pub large_at : ℕ → Record
large_at start = record_as 4 start 20000 20000

-- n of them in the first day
abbrev pub large : ℕ → List Record
large n = replicate n (large_at 1)

-- the answer of day 0 to records, with z 0, up to 35 kV; and above
abbrev pub up_to35 : Settings → List Record → Answered DayCount
up_to35 s rs = day_counted (settings_bytes s) (record_bytes rs) 0 false 0

abbrev pub above35 : List Record → Answered DayCount
above35 rs = day_counted (settings_bytes q) (record_bytes rs) 0 true 0

-- both counts, second and first, and whether each is over; with neither over
abbrev pub told : ℕ → ℕ → Bool → Bool → Answered DayCount
told second first second-over first-over =
    accepted (record { second = record { count = second; over = second-over }; first = record { count = first; over = first-over } })

abbrev pub not_over : ℕ → ℕ → Answered DayCount
not_over second first = told second first false false

-- a large change that starts at a value, looked for on days
abbrev pub on_days : Settings → ℕ → List ℕ → ℕ → List (Answered DayCount)
on_days s z days start = map (day_counted (settings_bytes s) (record_bytes (large_at start ∷ [])) z false) days

abbrev pub there : Answered DayCount
there = not_over 1 1

abbrev pub not_there : Answered DayCount
not_there = not_over 0 0

-- the number for settings bytes, records in bytes and z
abbrev pub number_for : List ℕ → List ℕ → ℕ → ℕ
number_for settings records z = refusal_in (day_counted settings records z false 0)

abbrev pub numbers_for : List (List ℕ) → List ℕ
numbers_for lists = map (λ b. number_for (settings_bytes q) b 0) lists

-- one record in bytes, of a kind, on the second day
abbrev pub kind_bytes : ℕ → List ℕ
kind_bytes kind = record_bytes (record_as kind 8640000 0 0 ∷ [])

pub record DayReadings : Type 0 where
  -- first 8000 and second 4800: the second counts, on its limit, and the first does not; 8001 and 4799: the other way round. At 60 Hz the limits are 9600 and 5760
  pub limits : up_to35 q (change 8000 4800 ∷ []) ∷ up_to35 q (change 8001 4799 ∷ []) ∷ [] ≡ not_over 1 0 ∷ not_over 0 1 ∷ []
  pub limits-60 : up_to35 (q60 1600) (change 9600 5760 ∷ []) ∷ up_to35 (q60 1600) (change 9601 5759 ∷ []) ∷ [] ≡ not_over 1 0 ∷ not_over 0 1 ∷ []
  -- U 1610: 3 % and 5 % are 48.3 and 80.5 sixteenths; U 1601 at 60 Hz: 3 % are 5763.6 N-ths, 5 % are 9606
  pub not-rounded : up_to35 (q_loud 1610) (change 8050 4830 ∷ change 8051 4829 ∷ []) ≡ not_over 1 1
  pub not-rounded-60 : up_to35 (q60 1601) (change 9606 5764 ∷ change 9607 5763 ∷ []) ≡ not_over 1 1
  -- the last half-cycle of day 0 and the first of day 1; and at 60 Hz
  pub midnight : map (on_days q 0 (0 ∷ 1 ∷ [])) (8639999 ∷ 8640000 ∷ []) ≡ (there ∷ not_there ∷ []) ∷ (not_there ∷ there ∷ []) ∷ []
  pub midnight-60 : map (on_days (q60 1600) 0 (0 ∷ 1 ∷ [])) (10367999 ∷ 10368000 ∷ []) ≡ (there ∷ not_there ∷ []) ∷ (not_there ∷ there ∷ []) ∷ []
  -- with z at a day's last half-cycle: value 1 is the first of day 1, value 8640000 its last, and the next one the first of day 2
  pub midnight-with-z :
      map (on_days q 8639999 (1 ∷ 2 ∷ [])) (1 ∷ 8640000 ∷ 8640001 ∷ []) ≡ (there ∷ not_there ∷ []) ∷ (there ∷ not_there ∷ []) ∷ (not_there ∷ there ∷ []) ∷ []
  pub midnight-with-z-60 : on_days (q60 1600) 10367999 (0 ∷ 1 ∷ []) 1 ≡ not_there ∷ there ∷ []
  -- the last start that a record can have
  pub last-start : on_days q 8639999 (2135039823346 ∷ 2135039823347 ∷ []) (2 ^ 64 - 1) ≡ not_there ∷ there ∷ []
  -- a day that 4 bytes would take for day 0, one that times a day's length is 0 in 8 bytes, and the last number of 8 bytes
  pub far-days : on_days q 0 (0 ∷ 2 ^ 32 ∷ 2 ^ 55 ∷ (2 ^ 64 - 1) ∷ []) 1 ≡ there ∷ not_there ∷ not_there ∷ not_there ∷ []
  -- 24 are not over and 25 are; above 35 kV 12 and 13; each count by itself
  pub caps : up_to35 q (large 24) ∷ up_to35 q (large 25) ∷ above35 (large 12) ∷ above35 (large 13) ∷ [] ≡ not_over 24 24 ∷ told 25 25 true true ∷ not_over 12 12 ∷ told 13 13 true true ∷ []
  pub one-over : above35 (change 0 4800 ∷ large 12) ∷ above35 (change 8001 0 ∷ large 12) ∷ [] ≡ told 13 12 true false ∷ told 12 13 false true ∷ []
  -- no record; dips, swells and interruptions are passed over, however large; a mark and bytes that are not 0 change nothing
  pub passed_over : up_to35 q [] ∷ up_to35 q (map (λ k. record_as k 1 20000 20000) (1 ∷ 2 ∷ 3 ∷ [])) ∷ [] ≡ not_over 0 0 ∷ not_over 0 0 ∷ []
  pub not_tested : day_counted (settings_bytes q) (sets (record_bytes (large 1)) 1 (1 ∷ 2 ∷ 3 ∷ [])) 0 false 0 ≡ not_over 1 1
  -- z below a day and a day, at 50 and 60 Hz
  pub z-refused :
      map (number_for (settings_bytes q) []) (8639999 ∷ 8640000 ∷ []) ++ map (number_for (settings_bytes (q60 1600)) []) (10367999 ∷ 10368000 ∷ [])
      ≡ 0 ∷ 15 ∷ 0 ∷ 15 ∷ []
  -- a byte less than a record, a byte more; kinds outside 1 to 4, of another day, and those four
  pub bytes-refused : numbers_for (take 27 (kind_bytes 4) ∷ (kind_bytes 4 ++ (4 ∷ [])) ∷ []) ≡ 16 ∷ 16 ∷ []
  pub kinds-refused : numbers_for (kind_bytes 0 ∷ kind_bytes 5 ∷ (kind_bytes 4 ++ kind_bytes 255) ∷ []) ≡ 17 ∷ 17 ∷ 17 ∷ []
  pub kinds-accepted : numbers_for (map kind_bytes (1 ∷ 2 ∷ 3 ∷ 4 ∷ [])) ≡ 0 ∷ 0 ∷ 0 ∷ 0 ∷ []
  -- where several apply: the settings' own, z, the list's length, a kind
  pub in_order :
      number_for [] (5 ∷ []) (2 ^ 64 - 1) ∷ number_for (settings_bytes (q_loud 15)) (5 ∷ []) 8640000 ∷ number_for (settings_bytes q) (5 ∷ []) 8640000
      ∷ number_for (settings_bytes q) (kind_bytes 5 ++ (5 ∷ [])) 0 ∷ []
      ≡ 1 ∷ 4 ∷ 15 ∷ 16 ∷ []
