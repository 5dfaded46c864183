-- The bench readings, computed.
use Rattle.std.specs.Prelude.{◌≡◌, refl, true, false, [], ◌∷◌, ◌++◌, ◌*◌, length, take, replicate}
use Rattle.std.proofs.lemmas.List.Edits.{sets}
use Rattle.octets.specs.Bytes.{bytes_of}
use Rattle.settings.specs.Settings.{start_refusal, settings_refusal}
use Rattle.reading.specs.Values.{root, values}
use Rattle.reading.specs.Records.{record_bytes, records_at}
use Rattle.reading.specs.Image.{image_of}
use Rattle.reading.specs.Restore.{events_in, restore_refusal_with, restore_refusal}
use Rattle.reading.specs.Engineer.{readings}
use Rattle.reading.specs.Bench.{BenchReadings, q, q_with, repeated, change, restless, unsettled, records_of, long_dip, brief_dip, q_outage}
use Rattle.reading.specs.Bench.{changing, changing_image, changed, refusals, settings_out, settings_in, bodies_out, bodies_in, marks_out, marks_in}
use Rattle.reading.specs.Bench.{change_marks, change_mark_after}

q-is-accepted : settings_refusal q ≡ 0
unfolding settings_refusal
q-is-accepted = refl

-- the long recordings, each in a declaration of its own
change-has-252 : length (values q change) ≡ 252
unfolding root
change-has-252 = refl

change-is-due : records_of q change ≡ record { kind = 4; start = 151; duration = 1; first = 6368; second = 6368 } ∷ []
unfolding root
change-is-due = refl

change-bytes-are :
    record_bytes (records_at q change 252) ≡ 4 ∷ 0 ∷ 0 ∷ 0 ∷ 151 ∷ 0 ∷ 0 ∷ 0 ∷ 0 ∷ 0 ∷ 0 ∷ 0 ∷ 1 ∷ 0 ∷ 0 ∷ 0 ∷ 0 ∷ 0 ∷ 0 ∷ 0 ∷ 224 ∷ 24 ∷ 0 ∷ 0 ∷ 224 ∷ 24 ∷ 0 ∷ 0 ∷ []
unfolding root
change-bytes-are = refl

change-is-not-due-before : records_of q (repeated (150 * 8) 100 ++ repeated (102 * 8) 96) ≡ []
unfolding root
change-is-not-due-before = refl

change-is-at-393 : records_of (q_with 8 393 150) change ≡ record { kind = 4; start = 151; duration = 1; first = 6368; second = 6368 } ∷ []
unfolding root
change-is-at-393 = refl

restless-has-none : records_of q restless ≡ []
unfolding root
restless-has-none = refl

restless-has-one : records_of (q_with 8 300 0) restless ≡ record { kind = 4; start = 151; duration = 1; first = 9552; second = 6256 } ∷ []
unfolding root
restless-has-one = refl

unsettled-is-steady : (readings q (values q unsettled)).phase ≡ 2
unfolding root
unsettled-is-steady = refl

none-is-at-394 : records_of (q_with 8 394 150) change ≡ []
unfolding root
none-is-at-394 = refl

dip-is-before-change : records_of q (long_dip 103) ≡ record { kind = 1; start = 1; duration = 129; first = 1408; second = 0 } ∷ []
unfolding root
dip-is-before-change = refl

dip-is-up-to-change : records_of q brief_dip ≡ record { kind = 1; start = 121; duration = 1; first = 1424; second = 0 } ∷ []
unfolding root
dip-is-up-to-change = refl

outage-is-refused : settings_refusal q_outage ≡ 6
unfolding settings_refusal
outage-is-refused = refl

stand-is-kept : take 5 (events_in (image_of q (long_dip 2))) ≡ 3 ∷ 130 ∷ 140800 ∷ 0 ∷ 130 ∷ []
unfolding root
stand-is-kept = refl

clipped-before-change-is : change_marks 150 ≡ false ∷ []
unfolding root
clipped-before-change-is = refl

clipped-first-in-change-is : change_marks 151 ≡ true ∷ []
unfolding root
clipped-first-in-change-is = refl

clipped-last-in-change-is : change_marks 153 ≡ true ∷ []
unfolding root
clipped-last-in-change-is = refl

clipped-after-change-is : change_marks 154 ≡ false ∷ []
unfolding root
clipped-after-change-is = refl

change-is-unmarked : change_mark_after 251 ≡ 0
unfolding root
change-is-unmarked = refl

change-is-marked : change_mark_after 252 ≡ 1
unfolding root
change-is-marked = refl

changing-image-is : image_of q changing ≡ changing_image
unfolding root
changing-image-is = refl

-- the refusals, with every test opened
changing-is-accepted : restore_refusal changing_image ≡ 0
unfolding restore_refusal_with start_refusal settings_refusal
changing-is-accepted = refl

no-stand-is-accepted : restore_refusal (sets (image_of q (long_dip 2)) 728 (bytes_of 8 0)) ≡ 0
unfolding root restore_refusal_with start_refusal settings_refusal
no-stand-is-accepted = refl

lengths-are-refused : refusals ([] ∷ take 787 changing_image ∷ (changing_image ++ (0 ∷ [])) ∷ []) ≡ 8 ∷ 8 ∷ 8 ∷ []
unfolding restore_refusal_with start_refusal settings_refusal
lengths-are-refused = refl

table-is-refused : refusals (changed 0 4 2 ∷ changed 4 2 33 ∷ changed 30 2 81 ∷ []) ≡ 9 ∷ 9 ∷ 9 ∷ []
unfolding restore_refusal_with start_refusal settings_refusal
table-is-refused = refl

settings-are-refused : refusals settings_out ≡ replicate 12 10
unfolding restore_refusal_with start_refusal settings_refusal
settings-are-refused = refl

settings-are-accepted : refusals settings_in ≡ replicate 12 0
unfolding restore_refusal_with start_refusal settings_refusal
settings-are-accepted = refl

bodies-are-refused : refusals bodies_out ≡ replicate 25 11
unfolding restore_refusal_with start_refusal settings_refusal
bodies-are-refused = refl

bodies-are-accepted : refusals bodies_in ≡ replicate 18 0
unfolding restore_refusal_with start_refusal settings_refusal
bodies-are-accepted = refl

marks-are-refused : refusals marks_out ≡ replicate 15 11
unfolding restore_refusal_with start_refusal settings_refusal
marks-are-refused = refl

marks-are-accepted : refusals marks_in ≡ replicate 15 0
unfolding restore_refusal_with start_refusal settings_refusal
marks-are-accepted = refl

pub bench-holds : BenchReadings
unfolding root
bench-holds = record {
  q-accepted = q-is-accepted;
  all-lowest = refl;
  all-zero = refl;
  one-of-sixteen = refl;
  one-of-512 = refl;
  hundreds-and-fifties = refl;
  all-90 = refl;
  no-dip-at-90 = refl;
  all-89 = refl;
  dip-at-89 = refl;
  then-92 = refl;
  ended-at-92 = refl;
  then-91 = refl;
  stands-at-91 = refl;
  dip-at-91 = refl;
  no-swell-at-110 = refl;
  swell-at-111 = refl;
  swell-ended-at-108 = refl;
  swell-at-109 = refl;
  no-interruption-at-5 = refl;
  interruption-at-4 = refl;
  interruption-ended-at-7 = refl;
  interruption-at-6 = refl;
  change-count = change-has-252;
  change-due = change-is-due;
  change-bytes = change-bytes-are;
  change-not-before = change-is-not-due-before;
  change-at-393 = change-is-at-393;
  none-at-394 = none-is-at-394;
  restless-goes-on = restless-has-none;
  restless-without-H = restless-has-one;
  unsettled-then-steady = unsettled-is-steady;
  dip-before-change = dip-is-before-change;
  dip-up-to-change = dip-is-up-to-change;
  swell-before-change = refl;
  dip-goes-on = refl;
  swell-goes-on = refl;
  dip-between-levels = refl;
  dip-ended-before-change = refl;
  outage-refused = outage-is-refused;
  interruption-before-change = refl;
  stand-kept = stand-is-kept;
  no-stand-accepted = no-stand-is-accepted;
  stands-kept = refl;
  program-record = refl;
  program-bytes = refl;
  program-count = refl;
  program-without-room = refl;
  tried-then-fed = refl;
  tried-between = refl;
  tried-not-kept = refl;
  clipped-dip = refl;
  clipped-bytes = refl;
  not-clipped = refl;
  clipped-below = refl;
  clipped-before-dip = refl;
  clipped-first-in-dip = refl;
  clipped-last-in-dip = refl;
  clipped-at-b = refl;
  clipped-before-change = clipped-before-change-is;
  clipped-first-in-change = clipped-first-in-change-is;
  clipped-last-in-change = clipped-last-in-change-is;
  clipped-after-change = clipped-after-change-is;
  clipped-swell = refl;
  clipped-at-b-of-swell = refl;
  clipped-at-b-of-interruption = refl;
  clipped-values = refl;
  clipped-marks = refl;
  clipped-halves = refl;
  clipped-standing = refl;
  swell-standing = refl;
  change-unmarked = change-is-unmarked;
  change-marked = change-is-marked;
  lengths = refl;
  sections = refl;
  changing-image = changing-image-is;
  changing-accepted = changing-is-accepted;
  lengths-refused = lengths-are-refused;
  table-refused = table-is-refused;
  settings-refused = settings-are-refused;
  settings-accepted = settings-are-accepted;
  bodies-refused = bodies-are-refused;
  bodies-accepted = bodies-are-accepted;
  marks-refused = marks-are-refused;
  marks-accepted = marks-are-accepted;
}
