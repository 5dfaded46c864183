-- 02, N1: which samples, half-cycles and values are clipped, and the mark of a record. Nothing that decides values, events or changes knows of marks.
use Rattle.std.specs.Prelude.{Bool, false, ◌||◌, List, [], ◌∷◌, ℕ, zero, suc, ◌+◌, ◌-◌, length, ℤ, pos, negsuc, if◌then◌else◌}
use Rattle.settings.specs.declared.Settings.{Settings}
use Rattle.settings.specs.Settings.{window_length_of}
use Rattle.numbers.specs.Notation.{◌≡ᵇ◌, flag}
use Rattle.reading.specs.declared.Event.{Event}
use Rattle.reading.specs.declared.Record.{Record}
use Rattle.reading.specs.Values.{half, value_count, since, up_to}

-- a sample of 32767 or −32768 (`negsuc 32767`) is clipped
abbrev pub clipped : ℤ → Bool
clipped (pos n) = n ≡ᵇ 32767
clipped (negsuc n) = n ≡ᵇ 32767

-- one of samples is
abbrev pub any_clipped : List ℤ → Bool
any_clipped [] = false
any_clipped (x ∷ xs) = clipped x || any_clipped xs

-- half-cycle h is clipped if one of its samples is
abbrev pub half_clipped : Settings → List ℤ → ℕ → Bool
half_clipped s rec h = any_clipped (half s rec h)

-- and so is r(i), of half-cycles i and i + 1
abbrev pub value_clipped : Settings → List ℤ → ℕ → Bool
value_clipped s rec i = half_clipped s rec i || half_clipped s rec (i + 1)

-- the marks of r(i) back to r(1), and of all values: 1 where the value is clipped
abbrev pub marks : Settings → List ℤ → ℕ → List ℕ
marks s rec zero = []
marks s rec (suc i) = flag (value_clipped s rec (suc i)) ∷ marks s rec i

abbrev pub marks_of : Settings → List ℤ → List ℕ
marks_of s rec = marks s rec (value_count s rec)

-- one of marks is 1
abbrev pub any_marked : List ℕ → Bool
any_marked [] = false
any_marked (m ∷ ms) = m ≡ᵇ 1 || any_marked ms

-- a value from a on is clipped; none where a is 0
abbrev pub clipped_since : ℕ → List ℕ → Bool
clipped_since zero ms = false
clipped_since (suc a) ms = any_marked (since (suc a) ms)

-- a value from k to V − N is
abbrev pub clipped_from : Settings → ℕ → List ℕ → Bool
clipped_from s k ms = any_marked (since k (up_to (length ms - window_length_of s) ms))

-- the last value in an event's first magnitude: b − 1 of a dip, a swell or an interruption, m − N of a change
abbrev pub last_measured : Event → ℕ
last_measured e = if e.kind ≡ᵇ 4 then e.start + e.duration else e.start + e.duration - 1

-- a value from its start to that one is clipped
abbrev pub event_clipped : List ℕ → Event → Bool
event_clipped ms e = any_marked (since e.start (up_to (last_measured e) ms))

-- an event's record, with its mark
abbrev pub record_of : List ℕ → Event → Record
record_of ms e = record { event = e; clipped = event_clipped ms e }
