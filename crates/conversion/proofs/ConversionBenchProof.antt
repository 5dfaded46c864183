-- The converter's bench readings, computed.
use Rattle.std.specs.Prelude.{◌≡◌, refl, [], ◌∷◌, ◌++◌, ◌-◌, ◌^◌, replicate}
use Rattle.std.proofs.lemmas.List.Edits.{sets}
use Rattle.settings.specs.Settings.{start_refusal, settings_refusal}
use Rattle.reading.specs.Layout.{count_width, earlier_width}
use Rattle.reading.specs.Values.{root}
use Rattle.reading.specs.Records.{record_bytes_with, records_at}
use Rattle.reading.specs.Image.{image_with}
use Rattle.reading.specs.Restore.{restore_refusal_with}
use Rattle.reading.specs.Bench.{q, change, changing, changing_image, changed, repeated}
use Rattle.rms.specs.Gather.{cut, value_from}
use Rattle.greedy.specs.Greedy.{fed_by}
use Rattle.state.specs.Step.{passes_end}
use Rattle.state.specs.Calls.{fed_with}
use Rattle.image.specs.Image.{state_at_with, state_at}
use Rattle.conversion.specs.Conversion.{converted_to, records_converted, image_as, image_refusal}
use Rattle.conversion.specs.ConversionBench.{ConversionReadings, earlier_image, greatest, image_forth, image_back, good, wide, with_bytes}

earlier-record-is :
    record_bytes_with earlier_width (records_at q change 252) ≡ 4 ∷ 0 ∷ 0 ∷ 0 ∷ 151 ∷ 0 ∷ 0 ∷ 0 ∷ 1 ∷ 0 ∷ 0 ∷ 0 ∷ 224 ∷ 24 ∷ 0 ∷ 0 ∷ 224 ∷ 24 ∷ 0 ∷ 0 ∷ []
unfolding root
earlier-record-is = refl

record-forth-is :
    records_converted earlier_width count_width (record_bytes_with earlier_width (records_at q change 252)) (replicate 30 7)
    ≡ converted_to 0 (record_bytes_with count_width (records_at q change 252) ++ (7 ∷ 7 ∷ []))
unfolding root records_converted
record-forth-is = refl

record-back-is :
    records_converted count_width earlier_width (record_bytes_with count_width (records_at q change 252)) (replicate 21 7)
    ≡ converted_to 0 (record_bytes_with earlier_width (records_at q change 252) ++ (7 ∷ []))
unfolding root records_converted
record-back-is = refl

greatest-forth-is :
    records_converted earlier_width count_width (record_bytes_with earlier_width greatest) (replicate 112 7) ≡ converted_to 0 (record_bytes_with count_width greatest)
unfolding records_converted
greatest-forth-is = refl

greatest-back-is :
    records_converted count_width earlier_width (record_bytes_with count_width greatest) (replicate 80 7) ≡ converted_to 0 (record_bytes_with earlier_width greatest)
unfolding records_converted
greatest-back-is = refl

earlier-image-is : image_with earlier_width q changing ≡ earlier_image
unfolding root
earlier-image-is = refl

image-forth-is : image_as earlier_width count_width (image_with earlier_width q change) ≡ image_with count_width q change
unfolding root
image-forth-is = refl

image-back-is : image_as count_width earlier_width (image_with count_width q change) ≡ image_with earlier_width q change
unfolding root
image-back-is = refl

at-the-end-is : (fed_with (state_at (changed 100 8 (2 ^ 63 - 1))) (repeated 8 100) []).told ≡ record { taken = 4; written = 0; why = 2 }
unfolding state_at_with fed_with fed_by cut passes_end value_from
at-the-end-is = refl

images-refused-is :
    image_back (changed 100 8 (2 ^ 32 - 1)) ∷ image_back (changed 100 8 (2 ^ 32)) ∷ image_forth changing_image ∷ image_back earlier_image
    ∷ image_back (changed 100 8 (2 ^ 63)) ∷ image_forth (sets earlier_image 704 (4 ∷ [])) ∷ image_forth earlier_image ∷ []
    ≡ 0 ∷ 18 ∷ 19 ∷ 19 ∷ 19 ∷ 19 ∷ 0 ∷ []
unfolding restore_refusal_with start_refusal settings_refusal
images-refused-is = refl

in-order-is :
    records_converted count_width earlier_width (wide (2 ^ 32) 1 ++ with_bytes count_width 0 (5 ∷ [])) (7 ∷ [])
    ∷ records_converted count_width earlier_width (wide (2 ^ 32) 1) (7 ∷ [])
    ∷ records_converted count_width earlier_width (good count_width) (replicate 19 7) ∷ []
    ≡ converted_to 19 (7 ∷ []) ∷ converted_to 18 (7 ∷ []) ∷ converted_to 7 (replicate 19 7) ∷ []
unfolding records_converted
in-order-is = refl

image-in-order-is :
    image_refusal count_width earlier_width (changed 100 8 (2 ^ 63)) [] ∷ image_refusal count_width earlier_width (changed 100 8 (2 ^ 32)) []
    ∷ image_refusal count_width earlier_width changing_image (replicate 763 7)
    ∷ image_refusal earlier_width count_width changing_image []
    ∷ image_refusal earlier_width count_width earlier_image (replicate 787 7) ∷ []
    ≡ 19 ∷ 18 ∷ 7 ∷ 19 ∷ 7 ∷ []
unfolding restore_refusal_with start_refusal settings_refusal
image-in-order-is = refl

pub bench-holds : ConversionReadings
bench-holds = record {
  earlier-record = earlier-record-is;
  record-forth = record-forth-is;
  record-back = record-back-is;
  greatest-forth = greatest-forth-is;
  greatest-back = greatest-back-is;
  greatest-bytes = refl;
  earlier-lengths = refl;
  earlier-image = earlier-image-is;
  changing-forth = refl;
  changing-back = refl;
  image-forth = image-forth-is;
  image-back = image-back-is;
  at-the-end = at-the-end-is;
  images-refused = images-refused-is;
  lists-refused = refl;
  lists-accepted = refl;
  too_wide = refl;
  in_order = in-order-is;
  image-in-order = image-in-order-is;
}
