-- Bench readings of the converter, under Q: both editions of a recording, and its refusals and their order; and a logger that an image puts at V's end.
use Rattle.std.specs.Prelude.{◌≡◌, Bool, true, false, List, [], ◌∷◌, ◌++◌, map, ℕ, ◌-◌, ◌^◌, take, replicate}
use Rattle.std.proofs.lemmas.List.Edits.{sets}
use Rattle.reading.specs.declared.Record.{Record}
use Rattle.reading.specs.Layout.{count_width, earlier_width, image_length_with, record_length_with}
use Rattle.reading.specs.Records.{record_bytes_with, records_at}
use Rattle.reading.specs.Image.{image_with}
use Rattle.reading.specs.Bench.{q, change, changing, changing_image, changed, repeated, times}
use Rattle.state.specs.Calls.{fed_with}
use Rattle.image.specs.Image.{state_at}
use Rattle.conversion.specs.Conversion.{converted_to, records_refusal, records_converted, image_as, image_refusal}

-- the earlier edition's image in a change with a dip standing, byte by byte; this edition's is `changing_image` of Bench
abbrev pub earlier_image : List ℕ
earlier_image =
    1 ∷ 0 ∷ 0 ∷ 0 ∷ 32 ∷ 0 ∷ 36 ∷ 0 ∷ 2 ∷ 0 ∷ 0 ∷ 0 ∷ 68 ∷ 0 ∷ 32 ∷ 0 ∷ 3 ∷ 0 ∷ 0 ∷ 0 ∷ 100 ∷ 0 ∷ 92 ∷ 2 ∷ 4 ∷ 0 ∷ 0 ∷ 0 ∷ 192 ∷ 2 ∷ 60 ∷ 0
    ∷ 8 ∷ 0 ∷ 0 ∷ 0 ∷ 50 ∷ 0 ∷ 0 ∷ 0 ∷ 64 ∷ 6 ∷ 0 ∷ 0 ∷ 44 ∷ 1 ∷ 0 ∷ 0 ∷ 150 ∷ 0 ∷ 0 ∷ 0 ∷ 244 ∷ 1 ∷ 0 ∷ 0 ∷ 40 ∷ 35 ∷ 0 ∷ 0 ∷ 248 ∷ 42 ∷ 0 ∷ 0 ∷ 200 ∷ 0 ∷ 0 ∷ 0
    ∷ 3 ∷ 0 ∷ 0 ∷ 0 ∷ 0 ∷ 75 ∷ 0 ∷ 0 ∷ 0 ∷ 0 ∷ 0 ∷ 0 ∷ 0 ∷ 200 ∷ 0 ∷ 0 ∷ 0 ∷ 0 ∷ 0 ∷ 0 ∷ 1 ∷ 0 ∷ 0 ∷ 0 ∷ 0 ∷ 0 ∷ 0 ∷ 0 ∷ 0 ∷ 0 ∷ 0 ∷ 0
    ∷ 151 ∷ 0 ∷ 0 ∷ 0 ∷ (times 98 (64 ∷ 6 ∷ 0 ∷ 0 ∷ []) ++ (168 ∷ 5 ∷ 0 ∷ 0 ∷ 0 ∷ 5 ∷ 0 ∷ 0 ∷ (replicate 200 0
    ++ (3 ∷ 0 ∷ 0 ∷ 0 ∷ 150 ∷ 0 ∷ 0 ∷ 0 ∷ 0 ∷ 113 ∷ 2 ∷ 0 ∷ 0 ∷ 0 ∷ 0 ∷ 0 ∷ 151 ∷ 0 ∷ 0 ∷ 0
    ∷ 151 ∷ 0 ∷ 0 ∷ 0 ∷ 0 ∷ 5 ∷ 0 ∷ 0 ∷ replicate 32 0))))

-- a record of a kind, with a start, a duration and a mark
abbrev pub marked : Bool → ℕ → ℕ → ℕ → Record
marked mark kind start duration = record { event = record { kind = kind; start = start; duration = duration; first = 6368; second = 6368 }; clipped = mark }

abbrev pub record_as : ℕ → ℕ → ℕ → Record
record_as kind start duration = marked false kind start duration

-- records of all kinds, marked, with the greatest start and duration of 4 bytes
abbrev pub greatest : List Record
greatest = map (λ k. marked true k (2 ^ 32 - 1) (2 ^ 32 - 1)) (1 ∷ 2 ∷ 3 ∷ 4 ∷ [])

-- the number for records going forth and back, with room for all
abbrev pub forth : List ℕ → ℕ
forth b = records_refusal earlier_width count_width b (replicate 100 7)

abbrev pub back : List ℕ → ℕ
back b = records_refusal count_width earlier_width b (replicate 100 7)

-- and for an image
abbrev pub image_forth : List ℕ → ℕ
image_forth b = image_refusal earlier_width count_width b (replicate 788 7)

abbrev pub image_back : List ℕ → ℕ
image_back b = image_refusal count_width earlier_width b (replicate 764 7)

-- a good record of an edition, and one of this edition with a start and a duration
abbrev pub good : ℕ → List ℕ
good c = record_bytes_with c (record_as 4 151 1 ∷ [])

abbrev pub wide : ℕ → ℕ → List ℕ
wide start duration = record_bytes_with count_width (record_as 4 start duration ∷ [])

-- a good record of an edition with bytes at an offset
abbrev pub with_bytes : ℕ → ℕ → List ℕ → List ℕ
with_bytes c offset bytes = sets (good c) offset bytes

-- kinds 0 and 5, mark 2, bytes 2 and 3 not 0, a byte less than a record, a byte more
abbrev pub bad_lists : ℕ → List (List ℕ)
bad_lists c =
    with_bytes c 0 (0 ∷ []) ∷ with_bytes c 0 (5 ∷ []) ∷ with_bytes c 1 (2 ∷ []) ∷ with_bytes c 2 (1 ∷ []) ∷ with_bytes c 3 (1 ∷ [])
    ∷ take (record_length_with c - 1) (good c) ∷ (good c ++ (4 ∷ [])) ∷ []

pub record ConversionReadings : Type 0 where
  -- 150 half-cycles of 100, then 103 of 96: the earlier edition's record, and this one's; there and back, into an output that is longer
  pub earlier-record :
      record_bytes_with earlier_width (records_at q change 252) ≡ 4 ∷ 0 ∷ 0 ∷ 0 ∷ 151 ∷ 0 ∷ 0 ∷ 0 ∷ 1 ∷ 0 ∷ 0 ∷ 0 ∷ 224 ∷ 24 ∷ 0 ∷ 0 ∷ 224 ∷ 24 ∷ 0 ∷ 0 ∷ []
  pub record-forth :
      records_converted earlier_width count_width (record_bytes_with earlier_width (records_at q change 252)) (replicate 30 7)
      ≡ converted_to 0 (record_bytes_with count_width (records_at q change 252) ++ (7 ∷ 7 ∷ []))
  pub record-back :
      records_converted count_width earlier_width (record_bytes_with count_width (records_at q change 252)) (replicate 21 7)
      ≡ converted_to 0 (record_bytes_with earlier_width (records_at q change 252) ++ (7 ∷ []))
  -- records of all kinds, marked, with the greatest numbers of 4 bytes, into outputs of just their length; the first one's bytes in this edition
  pub greatest-forth :
      records_converted earlier_width count_width (record_bytes_with earlier_width greatest) (replicate 112 7) ≡ converted_to 0 (record_bytes_with count_width greatest)
  pub greatest-back :
      records_converted count_width earlier_width (record_bytes_with count_width greatest) (replicate 80 7) ≡ converted_to 0 (record_bytes_with earlier_width greatest)
  pub greatest-bytes :
      take 28 (record_bytes_with count_width greatest)
      ≡ 1 ∷ 1 ∷ 0 ∷ 0 ∷ 255 ∷ 255 ∷ 255 ∷ 255 ∷ 0 ∷ 0 ∷ 0 ∷ 0 ∷ 255 ∷ 255 ∷ 255 ∷ 255 ∷ 0 ∷ 0 ∷ 0 ∷ 0 ∷ 224 ∷ 24 ∷ 0 ∷ 0 ∷ 224 ∷ 24 ∷ 0 ∷ 0 ∷ []
  -- the lengths of the earlier edition; an image of it in a change, and that one converted, there and back, byte by byte
  pub earlier-lengths : record_length_with earlier_width ∷ image_length_with earlier_width ∷ [] ≡ 20 ∷ 764 ∷ []
  pub earlier-image : image_with earlier_width q changing ≡ earlier_image
  pub changing-forth : image_as earlier_width count_width earlier_image ≡ changing_image
  pub changing-back : image_as count_width earlier_width changing_image ≡ earlier_image
  -- the images of the first recording
  pub image-forth : image_as earlier_width count_width (image_with earlier_width q change) ≡ image_with count_width q change
  pub image-back : image_as count_width earlier_width (image_with count_width q change) ≡ image_with earlier_width q change
  -- V at 2^63 − 1: of eight samples, with three in the half-cycle, four are taken, and the next one would pass V's end
  pub at-the-end : (fed_with (state_at (changed 100 8 (2 ^ 63 - 1))) (repeated 8 100) []).told ≡ record { taken = 4; written = 0; why = 2 }
  -- an image with V 2^32 − 1 goes back, one with V 2^32 does not; one of the other edition is refused, and one that restore refuses
  pub images-refused :
      image_back (changed 100 8 (2 ^ 32 - 1)) ∷ image_back (changed 100 8 (2 ^ 32)) ∷ image_forth changing_image ∷ image_back earlier_image
      ∷ image_back (changed 100 8 (2 ^ 63)) ∷ image_forth (sets earlier_image 704 (4 ∷ [])) ∷ image_forth earlier_image ∷ []
      ≡ 0 ∷ 18 ∷ 19 ∷ 19 ∷ 19 ∷ 19 ∷ 0 ∷ []
  -- lists that are not whole good records; no record; the greatest start and duration of 4 bytes, and those above
  pub lists-refused : map forth (bad_lists earlier_width) ++ map back (bad_lists count_width) ≡ replicate 14 19
  pub lists-accepted : forth [] ∷ back [] ∷ map back (wide (2 ^ 32 - 1) 1 ∷ wide 1 (2 ^ 32 - 1) ∷ []) ≡ 0 ∷ 0 ∷ 0 ∷ 0 ∷ []
  pub too_wide : map back (wide (2 ^ 32) 1 ∷ wide 1 (2 ^ 32) ∷ (good count_width ++ wide (2 ^ 64 - 1) 1) ∷ []) ≡ 18 ∷ 18 ∷ 18 ∷ []
  -- 19 for a later record before 18 for an earlier one; 18 before 7; 7 for an output that is a byte short; each leaves it as it was
  pub in_order :
      records_converted count_width earlier_width (wide (2 ^ 32) 1 ++ with_bytes count_width 0 (5 ∷ [])) (7 ∷ [])
      ∷ records_converted count_width earlier_width (wide (2 ^ 32) 1) (7 ∷ [])
      ∷ records_converted count_width earlier_width (good count_width) (replicate 19 7) ∷ []
      ≡ converted_to 19 (7 ∷ []) ∷ converted_to 18 (7 ∷ []) ∷ converted_to 7 (replicate 19 7) ∷ []
  pub image-in-order :
      image_refusal count_width earlier_width (changed 100 8 (2 ^ 63)) [] ∷ image_refusal count_width earlier_width (changed 100 8 (2 ^ 32)) []
      ∷ image_refusal count_width earlier_width changing_image (replicate 763 7)
      ∷ image_refusal earlier_width count_width changing_image []
      ∷ image_refusal earlier_width count_width earlier_image (replicate 787 7) ∷ []
      ≡ 19 ∷ 18 ∷ 7 ∷ 19 ∷ 7 ∷ []
