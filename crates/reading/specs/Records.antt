-- 01, "The record", with 02's mark.
use Rattle.std.specs.Prelude.{List, [], ◌∷◌, ◌++◌, map, ℕ, zero, suc, ◌/◌, length, take, drop, get_or, ℤ}
use Rattle.octets.specs.Bytes.{row, numbers_in}
use Rattle.numbers.specs.Notation.{flag}
use Rattle.settings.specs.declared.Settings.{Settings}
use Rattle.reading.specs.declared.Kind.TheVariants.{Dip, Swell, Interruption}
use Rattle.reading.specs.declared.Event.{Event}
use Rattle.reading.specs.declared.Record.{Record}
use Rattle.reading.specs.Values.{history}
use Rattle.reading.specs.Clipping.{marks, record_of}
use Rattle.reading.specs.Layout.{count_width, record_widths_with, record_widths, record_length}
use Rattle.reading.specs.Thresholds.{threshold_due}
use Rattle.reading.specs.Changes.{change_due}

-- of a record: the event's kind, the mark, two zero bytes, then start, duration, first and second magnitude
abbrev pub record_numbers : Record → List ℕ
record_numbers r = let e = r.event in e.kind ∷ flag r.clipped ∷ 0 ∷ e.start ∷ e.duration ∷ e.first ∷ e.second ∷ []

-- records in bytes, one behind the other; of any edition, by the width of its counts
abbrev pub record_bytes_with : ℕ → List Record → List ℕ
record_bytes_with c [] = []
record_bytes_with c (r ∷ rs) = row (record_widths_with c) (record_numbers r) ++ record_bytes_with c rs

abbrev pub record_bytes : List Record → List ℕ
record_bytes rs = record_bytes_with count_width rs

-- the event that a record's bytes tell
abbrev pub event_from : List ℕ → Event
event_from ns = record { kind = get_or ns 0 0; start = get_or ns 3 0; duration = get_or ns 4 0; first = get_or ns 5 0; second = get_or ns 6 0 }

abbrev pub event_of : List ℕ → Event
event_of b = event_from (numbers_in record_widths b)

-- the events of the first n records in bytes, and of all whole ones
abbrev pub first_events : ℕ → List ℕ → List Event
first_events zero b = []
first_events (suc n) b = event_of (take record_length b) ∷ first_events n (drop record_length b)

abbrev pub events_of : List ℕ → List Event
events_of b = first_events (length b / record_length) b

-- the events due at the newest value, by kind
abbrev pub due : Settings → List ℕ → List Event
due s hist = threshold_due s Dip hist ++ (threshold_due s Swell hist ++ (threshold_due s Interruption hist ++ change_due s hist))

-- all events of a history, by the value at which they are due
abbrev pub events : Settings → List ℕ → List Event
events s [] = []
events s (r ∷ older) = events s older ++ due s (r ∷ older)

-- the records due at value i of a recording
abbrev pub records_at : Settings → List ℤ → ℕ → List Record
records_at s rec i = map (record_of (marks s rec i)) (due s (history s rec i))
