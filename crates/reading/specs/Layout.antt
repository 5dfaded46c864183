-- 01, "The record", "The image" and the replies to a host: how wide each number is. Lengths and places follow as sums; the papers' figures, and the 32 bytes of
-- a day's reply, are `lengths` and `sections` of Bench. 02's N7: editions differ in the width of a count of values.
use Rattle.std.specs.Prelude.{List, [], ◌∷◌, ◌++◌, ℕ, ◌+◌, ◌*◌, replicate}
use Rattle.octets.specs.Bytes.{total}
use Rattle.settings.specs.Settings.{settings_length}

-- how wide a count of values is, in this edition and in the earlier one: V, k, the fourth number of a change, and every start and duration
abbrev pub count_width : ℕ
count_width = 8

abbrev pub earlier_width : ℕ
earlier_width = 4

-- a record: kind, mark, zero bytes, start, duration, first and second magnitude; of any edition, by the width c of its counts
abbrev pub record_widths_with : ℕ → List ℕ
record_widths_with c = 1 ∷ 1 ∷ 2 ∷ c ∷ c ∷ 4 ∷ 4 ∷ []

abbrev pub record_widths : List ℕ
record_widths = record_widths_with count_width

abbrev pub record_length_with : ℕ → ℕ
record_length_with c = total (record_widths_with c)

abbrev pub record_length : ℕ
record_length = record_length_with count_width

-- an entry of the table of contents, one for each body: code, offset, length
abbrev pub entry_widths : List ℕ
entry_widths = 4 ∷ 2 ∷ 2 ∷ []

abbrev pub table_length : ℕ
table_length = 4 * total entry_widths

-- body 2: count, sum, last sum, whether there is a last half-cycle; the marks of the half-cycle in progress and of the last one
abbrev pub gatherer_widths : List ℕ
gatherer_widths = 4 ∷ 8 ∷ 8 ∷ 4 ∷ 4 ∷ 4 ∷ []

abbrev pub gatherer_length : ℕ
gatherer_length = total gatherer_widths

-- body 3: V, then 120 places for values and as many for their marks
abbrev pub places : ℕ
places = 120

abbrev pub values_widths_with : ℕ → List ℕ
values_widths_with c = c ∷ (replicate places 4 ++ replicate places 1)

abbrev pub values_widths : List ℕ
values_widths = values_widths_with count_width

abbrev pub values_length : ℕ
values_length = total values_widths

-- body 4: the phase and a change's four numbers; start and magnitude of dip, swell and interruption; the marks of dip, swell, interruption and change
abbrev pub events_widths_with : ℕ → List ℕ
events_widths_with c = 4 ∷ c ∷ 4 ∷ 4 ∷ c ∷ (c ∷ 4 ∷ c ∷ 4 ∷ c ∷ 4 ∷ []) ++ replicate 4 4

abbrev pub events_widths : List ℕ
events_widths = events_widths_with count_width

abbrev pub events_length : ℕ
events_length = total events_widths

-- the table and the bodies stand one behind the other
abbrev pub settings_offset : ℕ
settings_offset = table_length

abbrev pub gatherer_offset : ℕ
gatherer_offset = settings_offset + settings_length

abbrev pub values_offset : ℕ
values_offset = gatherer_offset + gatherer_length

abbrev pub events_offset_with : ℕ → ℕ
events_offset_with c = values_offset + total (values_widths_with c)

abbrev pub events_offset : ℕ
events_offset = events_offset_with count_width

abbrev pub image_length_with : ℕ → ℕ
image_length_with c = events_offset_with c + total (events_widths_with c)

abbrev pub image_length : ℕ
image_length = image_length_with count_width

-- the reply of advance and of try: taken, written, why
abbrev pub reply_widths : List ℕ
reply_widths = 8 ∷ 8 ∷ 8 ∷ []

abbrev pub reply_length : ℕ
reply_length = total reply_widths

-- and the reply of a day's count: both counts, then whether each is over
abbrev pub day_reply_widths : List ℕ
day_reply_widths = 8 ∷ 8 ∷ 8 ∷ 8 ∷ []

abbrev pub day_reply_length : ℕ
day_reply_length = total day_reply_widths
