-- A past of samples of any kind, by its count of values and the records due at them, and 01's rule of feed over it. For the recording of one channel this is
-- the rule in `reading/specs/Feed`, word for word.
use Rattle.std.specs.Prelude.{◌≡◌, Bool, ◌&&◌, List, [], ◌++◌, ℕ, ◌+◌, ◌-◌, ◌≤◌, length, take, ℤ, if◌then◌else◌}
use Rattle.settings.specs.declared.Settings.{Settings}
use Rattle.numbers.specs.Notation.{◌≤ᵇ◌, ◌≡ᵇ◌}
use Rattle.reading.specs.declared.Record.{Record}
use Rattle.reading.specs.Values.{value_count}
use Rattle.reading.specs.Feed.{last_value, due_after, greatest_to}

-- V of a past, and the records due at the c values after value v
pub record Past (X : Type 0) : Type 0 where
  pub count : List X → ℕ
  pub after : List X → ℕ → ℕ → List Record

-- the recording of one channel
abbrev pub past : Settings → Past ℤ
past s = record { count = value_count s; after = due_after s }

module _ {X : Type 0} (P : Past X) where
  -- all records of a past; those that the first n samples of a block complete
  abbrev pub records_in : List X → List Record
  records_in rec = P.after rec 0 (P.count rec)

  abbrev pub completed_in : List X → List X → ℕ → List Record
  completed_in rec block n = let longer = rec ++ take n block in P.after longer (P.count rec) (P.count longer - P.count rec)

  -- they keep V within its end; and their records fit the room
  abbrev pub within_end_in : List X → List X → ℕ → Bool
  within_end_in rec block n = P.count (rec ++ take n block) ≤ᵇ last_value

  abbrev pub allowed_in : List X → List X → ℕ → ℕ → Bool
  allowed_in rec block room n = within_end_in rec block n && length (completed_in rec block n) ≤ᵇ room

  -- samples taken, and why no more
  abbrev pub taken_in : List X → List X → ℕ → ℕ
  taken_in rec block room = greatest_to (allowed_in rec block room) (length block)

  abbrev pub why_in : List X → List X → ℕ → ℕ
  why_in rec block n = if n ≡ᵇ length block then 0 else if within_end_in rec block (n + 1) then 1 else 2

  -- a longer past has as many values or more, and the records of those that were there do not change; records go value by value
  pub record Grows : Type 0 where
    pub count-grow : (rec xs : List X) → P.count rec ≤ P.count (rec ++ xs)
    pub after_none : (rec : List X) (v : ℕ) → P.after rec v 0 ≡ []
    pub after-add : (rec : List X) (v c d : ℕ) → P.after rec v (c + d) ≡ P.after rec v c ++ P.after rec (v + c) d
    pub after-grow : (rec xs : List X) (v c : ℕ) → v + c ≤ P.count rec → P.after (rec ++ xs) v c ≡ P.after rec v c
