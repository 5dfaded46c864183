-- 02, N2, feed: how many triples of a block are taken, which records are written, and why no more.
use Rattle.std.specs.Prelude.{Bool, ◌&&◌, List, [], ◌++◌, ℕ, zero, suc, ◌+◌, ◌-◌, length, take, ℤ, if◌then◌else◌}
use Rattle.settings.specs.declared.Settings.{Settings}
use Rattle.numbers.specs.Notation.{◌≤ᵇ◌, ◌≡ᵇ◌}
use Rattle.reading.specs.declared.Record.{Record}
use Rattle.reading.specs.Feed.{last_value, greatest_to}
use Rattle.three_reading.specs.declared.Three.{Three}
use Rattle.three_reading.specs.Three.{joint_count}
use Rattle.three_reading.specs.JointRecords.{joint_records_at}

-- the records due at the c values after value v
abbrev pub joint_due_after : Settings → List (Three ℤ) → ℕ → ℕ → List Record
joint_due_after s rec v zero = []
joint_due_after s rec v (suc c) = joint_due_after s rec v c ++ joint_records_at s rec (v + suc c)

-- all records of a recording, by the value at which they are due
abbrev pub joint_records : Settings → List (Three ℤ) → List Record
joint_records s rec = joint_due_after s rec 0 (joint_count s rec)

-- the records due at the values that the first n triples of a block complete
abbrev pub joint_completed : Settings → List (Three ℤ) → List (Three ℤ) → ℕ → List Record
joint_completed s rec block n = let longer = rec ++ take n block in joint_due_after s longer (joint_count s rec) (joint_count s longer - joint_count s rec)

-- the first n triples of a block keep V within its end
abbrev pub joint_within_end : Settings → List (Three ℤ) → List (Three ℤ) → ℕ → Bool
joint_within_end s rec block n = joint_count s (rec ++ take n block) ≤ᵇ last_value

-- and their records fit the room
abbrev pub joint_allowed : Settings → List (Three ℤ) → List (Three ℤ) → ℕ → ℕ → Bool
joint_allowed s rec block room n = joint_within_end s rec block n && length (joint_completed s rec block n) ≤ᵇ room

-- triples taken: the greatest number that is allowed
abbrev pub joint_taken : Settings → List (Three ℤ) → List (Three ℤ) → ℕ → ℕ
joint_taken s rec block room = greatest_to (joint_allowed s rec block room) (length block)

-- why: 0 all taken, 2 the next triple would pass V's end, 1 its records would not fit
abbrev pub joint_why : Settings → List (Three ℤ) → List (Three ℤ) → ℕ → ℕ
joint_why s rec block n = if n ≡ᵇ length block then 0 else if joint_within_end s rec block (n + 1) then 1 else 2
