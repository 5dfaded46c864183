-- 01, "Feed", of a recording: how many samples of a block are taken, which records are written, and why no more.
use Rattle.std.specs.Prelude.{Bool, true, false, ◌&&◌, List, [], ◌++◌, ℕ, zero, suc, ◌+◌, ◌-◌, length, take, ℤ, if◌then◌else◌}
use Rattle.settings.specs.declared.Settings.{Settings}
use Rattle.numbers.specs.Notation.{◌≤ᵇ◌, ◌≡ᵇ◌}
use Rattle.reading.specs.declared.Record.{Record}
use Rattle.reading.specs.Values.{value_count}
use Rattle.reading.specs.Records.{records_at}

-- V's end, 2^63 − 1 (02, N7)
abbrev pub last_value : ℕ
last_value = 9223372036854775807

-- the records due at the c values after value v
abbrev pub due_after : Settings → List ℤ → ℕ → ℕ → List Record
due_after s rec v zero = []
due_after s rec v (suc c) = due_after s rec v c ++ records_at s rec (v + suc c)

-- all records of a recording, by the value at which they are due
abbrev pub records : Settings → List ℤ → List Record
records s rec = due_after s rec 0 (value_count s rec)

-- the records due at the values that the first n samples of a block complete
abbrev pub completed : Settings → List ℤ → List ℤ → ℕ → List Record
completed s rec block n = let longer = rec ++ take n block in due_after s longer (value_count s rec) (value_count s longer - value_count s rec)

-- the first n samples of a block keep V within its end
abbrev pub within_end : Settings → List ℤ → List ℤ → ℕ → Bool
within_end s rec block n = value_count s (rec ++ take n block) ≤ᵇ last_value

-- and their records fit the room
abbrev pub allowed : Settings → List ℤ → List ℤ → ℕ → ℕ → Bool
allowed s rec block room n = within_end s rec block n && length (completed s rec block n) ≤ᵇ room

-- the greatest number up to n that passes a test, 0 where none does
abbrev pub greatest_to : (ℕ → Bool) → ℕ → ℕ
greatest_to test zero = zero
greatest_to test (suc n) = elim (test (suc n)) [ true ↦ suc n | false ↦ greatest_to test n ]

-- samples taken: the greatest number that is allowed (`taken-fits` and `taken-most` of reading_laws)
abbrev pub taken : Settings → List ℤ → List ℤ → ℕ → ℕ
taken s rec block room = greatest_to (allowed s rec block room) (length block)

-- why: 0 all taken, 2 the next sample would pass V's end, 1 its records would not fit
abbrev pub why : Settings → List ℤ → List ℤ → ℕ → ℕ
why s rec block n = if n ≡ᵇ length block then 0 else if within_end s rec block (n + 1) then 1 else 2
