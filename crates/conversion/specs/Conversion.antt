-- 02, N7: the converter. It carries records and images from one edition to the other: the same numbers in the same order, written with the other's widths. An
-- edition is known by the width of its counts, 4 bytes in the earlier one and 8 in this one; `from` and `to` are such widths.
use Rattle.std.specs.Prelude.{Bool, true, ◌&&◌, List, [], ◌∷◌, ◌++◌, ℕ, zero, suc, ◌/◌, ◌%◌, ◌^◌, length, take, drop, get_or}
use Rattle.octets.specs.Bytes.{row, numbers_in}
use Rattle.numbers.specs.Notation.{◌≤ᵇ◌, ◌<ᵇ◌, ◌≡ᵇ◌, refuse◌unless◌then◌}
use Rattle.reading.specs.Layout.{record_widths_with, record_length_with, gatherer_offset, gatherer_length, values_widths_with, events_widths_with, image_length_with}
use Rattle.reading.specs.Image.{table_with}
use Rattle.reading.specs.Restore.{part, settings_part, values_in_with, events_in_with, restore_refusal_with}
use Rattle.reading.specs.Engineer.{over}

-- a conversion: its number, and the output as it leaves it
pub record Converted : Type 0 where
  pub number : ℕ
  pub output : List ℕ

abbrev pub converted_to : ℕ → List ℕ → Converted
converted_to number output = record { number = number; output = output }

-- where it refuses, the output is as it was; else what is converted stands at its front, and its further bytes are as they were
abbrev pub converted_by : ℕ → List ℕ → List ℕ → Converted
converted_by zero bytes lent = converted_to 0 (over bytes lent)
converted_by (suc n) bytes lent = converted_to (suc n) lent

-- 7, which is tested last: an output that is shorter than the n bytes that are converted
abbrev pub room_refusal : ℕ → List ℕ → ℕ
room_refusal n lent = refuse 7 unless n ≤ᵇ length lent then 0

-- whether the widths of an edition hold these numbers, each below 256 to the power of its width: 4 bytes hold none above 4,294,967,295
abbrev pub fits : List ℕ → List ℕ → Bool
fits [] ns = true
fits (w ∷ ws) [] = true
fits (w ∷ ws) (n ∷ ns) = n <ᵇ 256 ^ w && fits ws ns

-- the numbers of the first n records of a list, and of all whole ones
abbrev pub first_rows : ℕ → ℕ → List ℕ → List (List ℕ)
first_rows c zero b = []
first_rows c (suc n) b = numbers_in (record_widths_with c) (take (record_length_with c) b) ∷ first_rows c n (drop (record_length_with c) b)

abbrev pub rows_in : ℕ → List ℕ → List (List ℕ)
rows_in c b = first_rows c (length b / record_length_with c) b

-- numbers as records of an edition
abbrev pub rows_bytes : ℕ → List (List ℕ) → List ℕ
rows_bytes c [] = []
rows_bytes c (ns ∷ rest) = row (record_widths_with c) ns ++ rows_bytes c rest

-- every record of a list passes a test
abbrev pub all_rows : (List ℕ → Bool) → List (List ℕ) → Bool
all_rows test [] = true
all_rows test (ns ∷ rest) = test ns && all_rows test rest

-- kind 1 to 4, mark 0 or 1, and two zero bytes
abbrev pub good_row : List ℕ → Bool
good_row ns = 1 ≤ᵇ get_or ns 0 0 && (get_or ns 0 0 ≤ᵇ 4 && (get_or ns 1 0 ≤ᵇ 1 && get_or ns 2 0 ≡ᵇ 0))

-- a list of records in another edition: the same numbers, where they fit
abbrev pub records_as : ℕ → ℕ → List ℕ → List ℕ
records_as from to b = rows_bytes to (rows_in from b)

-- 19: a list that isn't whole records of its edition, each a good one; 18: a number that the other edition's widths don't hold, which is a start or a duration,
-- for all others are as wide; then 7
abbrev pub records_refusal : ℕ → ℕ → List ℕ → List ℕ → ℕ
records_refusal from to b lent =
    refuse 19 unless length b % record_length_with from ≡ᵇ 0 then
    refuse 19 unless all_rows good_row (rows_in from b) then
    refuse 18 unless all_rows (fits (record_widths_with to)) (rows_in from b) then
    room_refusal (length (records_as from to b)) lent

unfoldable pub records_converted : ℕ → ℕ → List ℕ → List ℕ → Converted
records_converted from to b lent = converted_by (records_refusal from to b lent) (records_as from to b) lent

-- an image in another edition, with the same numbers where they fit: its own table; settings and gatherer, whose widths are the same in both; the values and
-- the events
abbrev pub image_as : ℕ → ℕ → List ℕ → List ℕ
image_as from to b =
    table_with to
    ++ (settings_part b
    ++ (part gatherer_offset gatherer_length b
    ++ (row (values_widths_with to) (values_in_with from b) ++ row (events_widths_with to) (events_in_with from b))))

-- whether the other edition's widths hold its numbers: exactly where they hold V, of an image that restore accepts (`only-V` of Promises)
abbrev pub image_fits : ℕ → ℕ → List ℕ → Bool
image_fits from to b = fits (values_widths_with to) (values_in_with from b) && fits (events_widths_with to) (events_in_with from b)

-- 19: an image that its edition's restore would refuse; 18; then 7
abbrev pub image_refusal : ℕ → ℕ → List ℕ → List ℕ → ℕ
image_refusal from to b lent =
    refuse 19 unless restore_refusal_with from b ≡ᵇ 0 then
    refuse 18 unless image_fits from to b then
    room_refusal (image_length_with to) lent

unfoldable pub image_converted : ℕ → ℕ → List ℕ → List ℕ → Converted
image_converted from to b lent = converted_by (image_refusal from to b lent) (image_as from to b) lent
