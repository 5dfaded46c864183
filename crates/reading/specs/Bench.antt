-- 01, "Bench readings", the example of "The event program", and more readings of the same kind: what stands before a change, marks, lengths, a whole image, and what
-- restore refuses and accepts.
use Rattle.std.specs.Prelude.{◌≡◌, Bool, true, false, List, [], ◌∷◌, ◌++◌, map, ℕ, zero, suc, ◌+◌, ◌-◌, ◌*◌, ◌^◌, length, take, drop, get_or, replicate, ℤ, pos, negsuc}
use Rattle.std.proofs.lemmas.List.Edits.{sets}
use Rattle.octets.specs.Bytes.{bytes_of}
use Rattle.settings.specs.declared.Settings.{Settings}
use Rattle.settings.specs.Settings.{settings_length, settings_refusal}
use Rattle.reading.specs.declared.Event.{Event}
use Rattle.reading.specs.declared.Record.{Record}
use Rattle.reading.specs.Values.{values}
use Rattle.reading.specs.Layout.{record_length, gatherer_length, values_length, events_length, image_length, reply_length, day_reply_length}
use Rattle.reading.specs.Layout.{settings_offset, gatherer_offset, values_offset, events_offset}
use Rattle.reading.specs.Records.{events, record_bytes, records_at}
use Rattle.reading.specs.Clipping.{marks}
use Rattle.reading.specs.Changes.{signal}
use Rattle.reading.specs.Image.{change_numbers, change_mark, image_of}
use Rattle.reading.specs.Restore.{gatherer_in, values_in, events_in, restore_refusal}
use Rattle.reading.specs.Feed.{records}
use Rattle.reading.specs.Engineer.{readings, empty_desk, answer, answers, desk_after}
use Rattle.reading.specs.Engineer.Call.{feed, trial, look, save}
use Rattle.reading.specs.Engineer.Answer.{fed, tried, looked}

-- 01's settings Q, with an M, an F, a U, a T and an H
abbrev pub q_of : ℕ → ℕ → ℕ → ℕ → ℕ → Settings
q_of m f u t h = record {
  samples = m;
  frequency = f;
  declared = u;
  limit = t;
  reduction = h;
  interruption = 500;
  dip = 9000;
  swell = 11000;
  hysteresis = 200;
}

abbrev pub q_with : ℕ → ℕ → ℕ → Settings
q_with m t h = q_of m 50 1600 t h

abbrev pub q : Settings
q = q_with 8 300 150

-- with another U
abbrev pub q_loud : ℕ → Settings
q_loud u = q_of 8 50 u 300 150

-- n samples x
abbrev pub repeated : ℕ → ℕ → List ℤ
repeated n x = replicate n (pos x)

-- bytes, n times
abbrev pub times : ℕ → List ℕ → List ℕ
times zero bytes = []
times (suc n) bytes = bytes ++ times n bytes

-- the program's samples; 150 half-cycles of 100, then 103 of 96
abbrev pub program : List ℤ
program = repeated 24 100 ++ (repeated 16 50 ++ repeated 24 100)

abbrev pub change : List ℤ
change = repeated (150 * 8) 100 ++ repeated (103 * 8) 96

-- 150 half-cycles of 100, then 51 of 94 and 52 of 98: at value 252 within T of the mean, but not within T − H
abbrev pub restless : List ℤ
restless = repeated (150 * 8) 100 ++ (repeated (51 * 8) 94 ++ repeated (52 * 8) 98)

-- 130 half-cycles of 88, then h of 100; 120 of 91, two of 89 and 103 of 100
abbrev pub long_dip : ℕ → List ℤ
long_dip h = repeated (130 * 8) 88 ++ repeated (h * 8) 100

abbrev pub brief_dip : List ℤ
brief_dip = repeated (120 * 8) 91 ++ (repeated 16 89 ++ repeated (103 * 8) 100)

-- n values of x counts; histories, the newest values first: 129 values of x, then n of y, which begin a change; 120 of 91, one of 89, one of x, and 102 of 100, which
-- begin one
abbrev pub values_of : ℕ → ℕ → List ℕ
values_of n x = replicate n (16 * x)

abbrev pub step_to : ℕ → ℕ → ℕ → List ℕ
step_to n x y = values_of n y ++ values_of 129 x

abbrev pub step_after : ℕ → List ℕ
step_after x = values_of 102 100 ++ (values_of 1 x ++ (values_of 1 89 ++ values_of 120 91))

-- the four numbers of a change in progress
abbrev pub numbers_after : List ℕ → List ℕ
numbers_after hist = change_numbers q hist (signal q hist)

-- Q with I above D, which start refuses: only so does an interruption stand without a dip
abbrev pub q_outage : Settings
q_outage = record {
  samples = 8;
  frequency = 50;
  declared = 1600;
  limit = 300;
  reduction = 150;
  interruption = 9500;
  dip = 9000;
  swell = 11000;
  hysteresis = 200;
}

-- two half-cycles of x, then two of y
abbrev pub pair_then : ℕ → ℕ → List ℤ
pair_then x y = repeated 16 x ++ repeated 16 y

-- never steady: 30 half-cycles of 80, then 51 of 94 and 52 of 98, which in the end are within T of their mean, but not within T − H
abbrev pub unsettled : List ℤ
unsettled = repeated (30 * 8) 80 ++ (repeated (51 * 8) 94 ++ repeated (52 * 8) 98)

-- a recording with another first sample in half-cycle h
abbrev pub with_first : ℕ → ℤ → List ℤ → List ℤ
with_first h x rec = sets rec ((h - 1) * 8) (x ∷ [])

-- three half-cycles of 25000, two of 15000, three of 25000, and another sample in the first of 15000
abbrev pub loud_dip : List ℤ
loud_dip = repeated 24 25000 ++ (repeated 16 15000 ++ repeated 24 25000)

abbrev pub flat_top : ℤ → List ℤ
flat_top x = with_first 4 x loud_dip

-- three half-cycles of 22000, two of 29000, three of 22000: a swell between two dips
abbrev pub loud_swell : List ℤ
loud_swell = repeated 24 22000 ++ (repeated 16 29000 ++ repeated 24 22000)

-- three half-cycles of 25000, three of 0, three of 25000: an interruption in a dip
abbrev pub loud_outage : List ℤ
loud_outage = repeated 24 25000 ++ (repeated 24 0 ++ repeated 24 25000)

-- the first five half-cycles of that swell, the fifth one clipped
abbrev pub swell_so_far : List ℤ
swell_so_far = take 40 (with_first 5 (pos 32767) loud_swell)

-- the first six half-cycles of the clipped dip, then three samples of 25000 and one that is clipped
abbrev pub flat_so_far : List ℤ
flat_so_far = take 48 (flat_top (pos 32767)) ++ (repeated 3 25000 ++ (pos 32767 ∷ []))

-- 150 half-cycles of 32766, then 103 of 31455, and half-cycle h clipped: a change due at value 252, with values 151 and 152 in its first magnitude
abbrev pub loud_change : ℕ → List ℤ
loud_change h = with_first h (pos 32767) (repeated (150 * 8) 32766 ++ repeated (103 * 8) 31455)

-- 150 half-cycles of 100, two of 80 and three samples more: a change in progress since value 150, and a dip since 151
abbrev pub changing : List ℤ
changing = repeated (150 * 8) 100 ++ repeated 19 80

-- its image, byte by byte: the table; the settings; the gatherer; V, the window and its marks; the phase, the change, the three events and the marks
abbrev pub changing_image : List ℕ
changing_image =
    1 ∷ 0 ∷ 0 ∷ 0 ∷ 32 ∷ 0 ∷ 36 ∷ 0 ∷ 2 ∷ 0 ∷ 0 ∷ 0 ∷ 68 ∷ 0 ∷ 32 ∷ 0 ∷ 3 ∷ 0 ∷ 0 ∷ 0 ∷ 100 ∷ 0 ∷ 96 ∷ 2 ∷ 4 ∷ 0 ∷ 0 ∷ 0 ∷ 196 ∷ 2 ∷ 80 ∷ 0
    ∷ 8 ∷ 0 ∷ 0 ∷ 0 ∷ 50 ∷ 0 ∷ 0 ∷ 0 ∷ 64 ∷ 6 ∷ 0 ∷ 0 ∷ 44 ∷ 1 ∷ 0 ∷ 0 ∷ 150 ∷ 0 ∷ 0 ∷ 0 ∷ 244 ∷ 1 ∷ 0 ∷ 0 ∷ 40 ∷ 35 ∷ 0 ∷ 0 ∷ 248 ∷ 42 ∷ 0 ∷ 0 ∷ 200 ∷ 0 ∷ 0 ∷ 0
    ∷ 3 ∷ 0 ∷ 0 ∷ 0 ∷ 0 ∷ 75 ∷ 0 ∷ 0 ∷ 0 ∷ 0 ∷ 0 ∷ 0 ∷ 0 ∷ 200 ∷ 0 ∷ 0 ∷ 0 ∷ 0 ∷ 0 ∷ 0 ∷ 1 ∷ 0 ∷ 0 ∷ 0 ∷ 0 ∷ 0 ∷ 0 ∷ 0 ∷ 0 ∷ 0 ∷ 0 ∷ 0
    ∷ 151 ∷ 0 ∷ 0 ∷ 0 ∷ 0 ∷ 0 ∷ 0 ∷ 0 ∷ (times 98 (64 ∷ 6 ∷ 0 ∷ 0 ∷ []) ++ (168 ∷ 5 ∷ 0 ∷ 0 ∷ 0 ∷ 5 ∷ 0 ∷ 0 ∷ (replicate 200 0
    ++ (3 ∷ 0 ∷ 0 ∷ 0 ∷ 150 ∷ 0 ∷ 0 ∷ 0 ∷ 0 ∷ 0 ∷ 0 ∷ 0 ∷ 0 ∷ 113 ∷ 2 ∷ 0 ∷ 0 ∷ 0 ∷ 0 ∷ 0 ∷ 151 ∷ 0 ∷ 0 ∷ 0 ∷ 0 ∷ 0 ∷ 0 ∷ 0
    ∷ 151 ∷ 0 ∷ 0 ∷ 0 ∷ 0 ∷ 0 ∷ 0 ∷ 0 ∷ 0 ∷ 5 ∷ 0 ∷ 0 ∷ replicate 40 0))))

-- that image with a number of w bytes at an offset
abbrev pub changed : ℕ → ℕ → ℕ → List ℕ
changed offset w x = sets changing_image offset (bytes_of w x)

-- that image with another T, and H 0
abbrev pub without_h : ℕ → List ℕ
without_h t = sets (changed 44 4 t) 48 (bytes_of 4 0)

abbrev pub refusals : List (List ℕ) → List ℕ
refusals images = map restore_refusal images

-- the settings: M 7 and 257, F 51, U 15 and 524,289, T 49 and 601, H 300, I 0, W 20,001, I + G above D, D + 2 × G at W; and the nearest that are accepted
abbrev pub settings_out : List (List ℕ)
settings_out =
    changed 32 4 7 ∷ changed 32 4 257 ∷ changed 36 4 51 ∷ changed 40 4 15 ∷ changed 40 4 524289 ∷ without_h 49 ∷ changed 44 4 601 ∷ changed 48 4 300
    ∷ changed 52 4 0 ∷ changed 60 4 20001 ∷ changed 52 4 8801 ∷ changed 60 4 9400 ∷ []

abbrev pub settings_in : List (List ℕ)
settings_in =
    changed 32 4 8 ∷ changed 32 4 256 ∷ changed 36 4 60 ∷ changed 40 4 16 ∷ changed 40 4 524288 ∷ without_h 50 ∷ changed 44 4 600 ∷ changed 48 4 299
    ∷ changed 52 4 1 ∷ changed 60 4 20000 ∷ changed 52 4 8800 ∷ changed 60 4 9401 ∷ []

-- that image with V, k and the stand, and a difference
abbrev pub far : ℕ → ℕ → ℕ → List ℕ
far v k difference = sets (sets (sets (changed 100 8 v) 712 (bytes_of 8 k)) 728 (bytes_of 8 k)) 724 (bytes_of 4 difference)

-- the bodies: count, sum, last sum; 2 for whether there is a whole half-cycle, none with a last sum, none with V; V above its end; a value, an unused place; phase 4, phase 0 with V ≥ N, a change
-- outside phase 3; k at N, k above V, A(k − 1), a difference with V < k + N, a stand before k, one after V; a start above V, a magnitude, a magnitude of none; k and a start
-- above V by their high bytes; a difference where k + N is beyond V's end
abbrev pub bodies_out : List (List ℕ)
bodies_out =
    changed 68 4 8 ∷ changed 72 8 (3 * 2 ^ 30 + 1) ∷ changed 80 8 (8 * 2 ^ 30 + 1) ∷ changed 88 4 2 ∷ changed 88 4 0 ∷ sets (changed 80 8 0) 88 (bytes_of 4 0)
    ∷ changed 100 8 (2 ^ 63) ∷ changed 100 8 (2 ^ 64 - 1) ∷ changed 108 4 524289 ∷ changed 508 4 1
    ∷ changed 708 4 4 ∷ changed 708 4 0 ∷ changed 708 4 2 ∷ changed 712 8 100 ∷ changed 712 8 152 ∷ changed 720 4 52428801 ∷ changed 724 4 1 ∷ changed 728 8 149 ∷ changed 728 8 152
    ∷ changed 736 8 152 ∷ changed 744 4 524289 ∷ changed 756 4 1
    ∷ changed 712 8 (2 ^ 32 + 150) ∷ changed 736 8 (2 ^ 32 + 151) ∷ far (2 ^ 63 - 1) (2 ^ 63 - 1) 1 ∷ []

abbrev pub bodies_in : List (List ℕ)
bodies_in =
    changed 68 4 7 ∷ changed 72 8 (3 * 2 ^ 30) ∷ changed 80 8 (8 * 2 ^ 30) ∷ changed 88 4 1
    ∷ changed 100 8 (2 ^ 63 - 1) ∷ changed 108 4 524288 ∷ changed 504 4 0
    ∷ changed 712 8 101 ∷ changed 712 8 151 ∷ changed 720 4 52428800 ∷ changed 724 4 0 ∷ changed 728 8 150 ∷ changed 728 8 0
    ∷ changed 736 8 150 ∷ changed 744 4 524288 ∷ changed 744 4 0
    ∷ far (2 ^ 32 + 151) (2 ^ 32 + 150) 0 ∷ far (2 ^ 63 - 1) (2 ^ 63 - 1) 0 ∷ []

-- several numbers, each by its first 4 bytes at its offset
abbrev pub edited : List ℕ → List (ℕ × ℕ) → List ℕ
edited b [] = b
edited b ((offset, x) ∷ more) = sets (edited b more) offset (bytes_of 4 x)

-- that image with no sample in progress; with V and k, and a mark of the change; steady
abbrev pub without_count : ℕ → List ℕ
without_count mark = edited (changed 72 8 0) ((68, 0) ∷ (92, mark) ∷ [])

abbrev pub changed_at : ℕ → ℕ → ℕ → List ℕ
changed_at v k mark = edited changing_image ((100, v) ∷ (712, k) ∷ (784, mark) ∷ [])

abbrev pub settled : ℕ → List ℕ
settled mark = edited changing_image ((708, 2) ∷ (712, 0) ∷ (720, 0) ∷ (728, 0) ∷ (784, mark) ∷ [])

-- with start and mark of a dip, a swell, an interruption; the magnitude is 0
abbrev pub dip_at : ℕ → ℕ → List ℕ
dip_at start mark = edited changing_image ((736, start) ∷ (744, 0) ∷ (772, mark) ∷ [])

abbrev pub swell_at : ℕ → ℕ → List ℕ
swell_at start mark = edited changing_image ((748, start) ∷ (776, mark) ∷ [])

abbrev pub interruption_at : ℕ → ℕ → List ℕ
interruption_at start mark = edited changing_image ((760, start) ∷ (780, mark) ∷ [])

-- the marks: 2 in each; 1 for a half-cycle in progress without a sample, a last half-cycle that is not there, a place that is not used, a dip, a swell and an interruption that
-- do not stand, a change with V < k + N, none
abbrev pub marks_out : List (List ℕ)
marks_out =
    changed 92 4 2 ∷ changed 96 4 2 ∷ changed 588 1 2 ∷ dip_at 151 2 ∷ swell_at 151 2 ∷ interruption_at 151 2 ∷ changed_at 201 101 2
    ∷ without_count 1 ∷ sets (image_of q []) 96 (1 ∷ []) ∷ changed 688 1 1 ∷ dip_at 0 1 ∷ swell_at 0 1 ∷ interruption_at 0 1 ∷ changed_at 200 101 1 ∷ settled 1 ∷ []

abbrev pub marks_in : List (List ℕ)
marks_in =
    changed 92 4 1 ∷ changed 96 4 1 ∷ changed 588 1 1 ∷ dip_at 151 1 ∷ swell_at 151 1 ∷ interruption_at 151 1 ∷ changed_at 201 101 1
    ∷ without_count 0 ∷ image_of q [] ∷ changed 687 1 1 ∷ dip_at 0 0 ∷ swell_at 0 0 ∷ interruption_at 0 0 ∷ changed_at 200 101 0 ∷ settled 0 ∷ []

abbrev pub records_of : Settings → List ℤ → List Event
records_of s rec = events s (values s rec)

-- the records of a loud recording that is clipped in half-cycle h
abbrev pub clipped_in : ℕ → List ℤ → List Record
clipped_in h rec = records (q_loud 400000) (with_first h (pos 32767) rec)

abbrev pub clipped_of : List Record → List Bool
clipped_of rs = map (λ r. r.clipped) rs

-- the mark of the dip's record
abbrev pub dip_marks : ℕ → List Bool
dip_marks h = clipped_of (clipped_in h loud_dip)

-- the change's mark after h half-cycles, where half-cycle 152 is clipped
abbrev pub change_mark_after : ℕ → ℕ
change_mark_after h = let rec = take (h * 8) (loud_change 152) in change_mark (q_loud 524256) (marks (q_loud 524256) rec (h - 1)) (signal (q_loud 524256) (values (q_loud 524256) rec))

-- and of its record, where half-cycle h is
abbrev pub change_marks : ℕ → List Bool
change_marks h = clipped_of (records_at (q_loud 524256) (loud_change h) 252)

pub record BenchReadings : Type 0 where
  pub q-accepted : settings_refusal q ≡ 0
  -- all samples −32768: 524,288; all 0: 0
  pub all-lowest : values q (replicate 24 (negsuc 32767)) ≡ 524288 ∷ 524288 ∷ []
  pub all-zero : values q (repeated 24 0) ≡ 0 ∷ 0 ∷ []
  -- one 1 among sixteen: 4; with M 256, one among 512: 0
  pub one-of-sixteen : values q (pos 1 ∷ repeated 15 0) ≡ 4 ∷ []
  pub one-of-512 : values (q_with 256 300 150) (pos 1 ∷ repeated 511 0) ≡ 0 ∷ []
  -- eight 100s, eight 50s: 1264
  pub hundreds-and-fifties : values q (repeated 8 100 ++ repeated 8 50) ≡ 1264 ∷ []
  -- all 90, r = 1440: no dip; all 89, 1424: dip
  pub all-90 : values q (repeated 16 90) ≡ 1440 ∷ []
  pub no-dip-at-90 : (readings q (values q (repeated 16 90))).dip ≡ false
  pub all-89 : values q (repeated 16 89) ≡ 1424 ∷ []
  pub dip-at-89 : (readings q (values q (repeated 16 89))).dip ≡ true
  -- in a dip, 1472 ends it, 1456 doesn't
  pub then-92 : values q (pair_then 89 92) ≡ 1472 ∷ 1448 ∷ 1424 ∷ []
  pub ended-at-92 : records_of q (pair_then 89 92) ≡ record { kind = 1; start = 1; duration = 2; first = 1424; second = 0 } ∷ []
  pub then-91 : values q (pair_then 89 91) ≡ 1456 ∷ 1440 ∷ 1424 ∷ []
  pub stands-at-91 : records_of q (pair_then 89 91) ≡ []
  pub dip-at-91 : (readings q (values q (pair_then 89 91))).dip ≡ true
  -- all 110, r = 1760: no swell; 111: swell; 1728 ends it, 1744 doesn't
  pub no-swell-at-110 : (readings q (values q (repeated 16 110))).swell ≡ false
  pub swell-at-111 : (readings q (values q (repeated 16 111))).swell ≡ true
  pub swell-ended-at-108 : records_of q (pair_then 111 108) ≡ record { kind = 2; start = 1; duration = 2; first = 1776; second = 0 } ∷ []
  pub swell-at-109 : (readings q (values q (pair_then 111 109))).swell ≡ true
  -- all 5, r = 80: no interruption; 4: interruption; 112 ends it, 96 doesn't
  pub no-interruption-at-5 : (readings q (values q (repeated 16 5))).interruption ≡ false
  pub interruption-at-4 : (readings q (values q (repeated 16 4))).interruption ≡ true
  pub interruption-ended-at-7 : records_of q (pair_then 4 7) ≡ record { kind = 3; start = 1; duration = 2; first = 64; second = 0 } ∷ []
  pub interruption-at-6 : (readings q (values q (pair_then 4 6))).interruption ≡ true
  -- 150 half-cycles of 100, then 103 of 96: due at value 252, RVC 151, 1, 6368, 6368; with T 393 still an event at 151; with T 394 none
  pub change-count : length (values q change) ≡ 252
  pub change-due : records_of q change ≡ record { kind = 4; start = 151; duration = 1; first = 6368; second = 6368 } ∷ []
  pub change-bytes :
      record_bytes (records_at q change 252) ≡ 4 ∷ 0 ∷ 0 ∷ 0 ∷ 151 ∷ 0 ∷ 0 ∷ 0 ∷ 0 ∷ 0 ∷ 0 ∷ 0 ∷ 1 ∷ 0 ∷ 0 ∷ 0 ∷ 0 ∷ 0 ∷ 0 ∷ 0 ∷ 224 ∷ 24 ∷ 0 ∷ 0 ∷ 224 ∷ 24 ∷ 0 ∷ 0 ∷ []
  pub change-not-before : records_of q (repeated (150 * 8) 100 ++ repeated (102 * 8) 96) ≡ []
  pub change-at-393 : records_of (q_with 8 393 150) change ≡ record { kind = 4; start = 151; duration = 1; first = 6368; second = 6368 } ∷ []
  pub none-at-394 : records_of (q_with 8 394 150) change ≡ []
  -- in a change T − H is in force: a voltage that is calm under T only does not end it, unless H is 0
  pub restless-goes-on : records_of q restless ≡ []
  pub restless-without-H : records_of (q_with 8 300 0) restless ≡ record { kind = 4; start = 151; duration = 1; first = 9552; second = 6256 } ∷ []
  -- a voltage that was never steady is steady once it is calm under T
  pub unsettled-then-steady : (readings q (values q unsettled)).phase ≡ 2
  -- a dip that stands at k − 1 drops the change: 130 half-cycles of 88, then 103 of 100. So does one that stands at no other value
  pub dip-before-change : records_of q (long_dip 103) ≡ record { kind = 1; start = 1; duration = 129; first = 1408; second = 0 } ∷ []
  pub dip-up-to-change : records_of q brief_dip ≡ record { kind = 1; start = 121; duration = 1; first = 1424; second = 0 } ∷ []
  -- so do a swell, a dip and a swell that go on, and a dip whose value k − 1 is between its two levels
  pub swell-before-change : events q (step_to 102 112 100) ≡ record { kind = 2; start = 1; duration = 129; first = 1792; second = 0 } ∷ []
  pub dip-goes-on : events q (step_to 102 88 84) ≡ []
  pub swell-goes-on : events q (step_to 102 112 116) ≡ []
  pub dip-between-levels : events q (step_after 91) ≡ record { kind = 1; start = 121; duration = 2; first = 1424; second = 0 } ∷ []
  -- a dip that ended at k − 1 drops nothing
  pub dip-ended-before-change :
      events q (step_after 92)
      ≡ record { kind = 1; start = 121; duration = 1; first = 1424; second = 0 } ∷ record { kind = 4; start = 123; duration = 1; first = 14416; second = 14416 } ∷ []
  -- nor does an interruption alone
  pub outage-refused : settings_refusal q_outage ≡ 6
  pub interruption-before-change :
      events q_outage (step_to 102 93 100)
      ≡ record { kind = 3; start = 1; duration = 129; first = 1488; second = 0 } ∷ record { kind = 4; start = 130; duration = 1; first = 11200; second = 11200 } ∷ []
  -- after 130 half-cycles of 88 and two of 100 body 4 begins 3, 130, 140800, 0, 130; restore takes 0 in the place of the last, too, as loggers without the rule of a stand at k − 1 wrote it
  pub stand-kept : take 5 (events_in (image_of q (long_dip 2))) ≡ 3 ∷ 130 ∷ 140800 ∷ 0 ∷ 130 ∷ []
  pub no-stand-accepted : restore_refusal (sets (image_of q (long_dip 2)) 728 (bytes_of 8 0)) ≡ 0
  -- the four numbers after a swell, and after a dip that goes on; where a swell first stands later, at 132; and where none stood
  pub stands-kept :
      numbers_after (step_to 2 112 100) ∷ numbers_after (step_to 2 88 84) ∷ numbers_after (values_of 1 120 ++ step_to 2 88 100) ∷ numbers_after (step_to 2 100 96) ∷ []
      ≡ (130 ∷ 179200 ∷ 0 ∷ 130 ∷ []) ∷ (130 ∷ 140800 ∷ 0 ∷ 130 ∷ []) ∷ (130 ∷ 140800 ∷ 0 ∷ 130 ∷ []) ∷ (130 ∷ 160000 ∷ 0 ∷ 0 ∷ []) ∷ []
  -- the program's samples: dip 3, 3, 800, 0 and V 7, and the record's bytes; fed with no record room: 55 taken, why 1
  pub program-record : records_of q program ≡ record { kind = 1; start = 3; duration = 3; first = 800; second = 0 } ∷ []
  pub program-bytes :
      record_bytes (records q program) ≡ 1 ∷ 0 ∷ 0 ∷ 0 ∷ 3 ∷ 0 ∷ 0 ∷ 0 ∷ 0 ∷ 0 ∷ 0 ∷ 0 ∷ 3 ∷ 0 ∷ 0 ∷ 0 ∷ 0 ∷ 0 ∷ 0 ∷ 0 ∷ 32 ∷ 3 ∷ 0 ∷ 0 ∷ 0 ∷ 0 ∷ 0 ∷ 0 ∷ []
  pub program-count : length (values q program) ≡ 7
  pub program-without-room : answer q empty_desk (feed program []) ≡ fed (record { taken = 55; written = 0; why = 1 }) []
  -- 02's trial: of the program's samples, with no room it tells 55, 0, 1, with 27 bytes, too; then feed with room 64, 1, 0
  pub tried-then-fed :
      answers q empty_desk (trial program [] ∷ trial program (replicate 27 7) ∷ feed program (replicate record_length 7) ∷ [])
      ≡ tried (record { taken = 55; written = 0; why = 1 }) []
      ∷ tried (record { taken = 55; written = 0; why = 1 }) (replicate 27 7)
      ∷ fed (record { taken = 64; written = 1; why = 0 }) (record_bytes (records q program)) ∷ []
  -- between two feeds, with five bytes more than a record: it tells what the second one tells, and V stays; of an empty block it tells 0, 0, 0
  pub tried-between :
      answers q empty_desk
      (feed (take 30 program) []
      ∷ trial (drop 30 program) (replicate (record_length + 5) 7)
      ∷ trial [] []
      ∷ look
      ∷ feed (drop 30 program) (replicate (record_length + 5) 7) ∷ [])
      ≡ fed (record { taken = 30; written = 0; why = 0 }) []
      ∷ tried (record { taken = 34; written = 1; why = 0 }) (record_bytes (records q program) ++ replicate 5 7)
      ∷ tried (record { taken = 0; written = 0; why = 0 }) []
      ∷ looked (record { count = 2; value = 1600; sum = 0; phase = 0; dip = false; swell = false; interruption = false })
      ∷ fed (record { taken = 34; written = 1; why = 0 }) (record_bytes (records q program) ++ replicate 5 7) ∷ []
  -- nothing of it is kept, neither in the recording nor in a save's copy
  pub tried-not-kept :
      desk_after q empty_desk (trial program (replicate record_length 7) ∷ save (replicate image_length 0) ∷ trial program [] ∷ [])
      ≡ record { recording = []; copies = [] ∷ [] }
  -- a clipped sample in a dip marks its record; −32767 is not clipped, −32768 is
  pub clipped-dip : records (q_loud 400000) (flat_top (pos 32767)) ≡ record { event = record { kind = 1; start = 3; duration = 3; first = 266793; second = 0 }; clipped = true } ∷ []
  pub clipped-bytes :
      record_bytes (records (q_loud 400000) (flat_top (pos 32767))) ≡ 1 ∷ 1 ∷ 0 ∷ 0 ∷ 3 ∷ 0 ∷ 0 ∷ 0 ∷ 0 ∷ 0 ∷ 0 ∷ 0 ∷ 3 ∷ 0 ∷ 0 ∷ 0 ∷ 0 ∷ 0 ∷ 0 ∷ 0 ∷ 41 ∷ 18 ∷ 4 ∷ 0 ∷ 0 ∷ 0 ∷ 0 ∷ 0 ∷ []
  pub not-clipped : records (q_loud 400000) (flat_top (negsuc 32766)) ≡ record { event = record { kind = 1; start = 3; duration = 3; first = 266793; second = 0 }; clipped = false } ∷ []
  pub clipped-below : records (q_loud 400000) (flat_top (negsuc 32767)) ≡ record { event = record { kind = 1; start = 3; duration = 3; first = 266795; second = 0 }; clipped = true } ∷ []
  -- clipped values before its start or at b leave the dip's mark 0, one at its start or at b − 1 does not; so do those before k and after m − N of a change, and one at k or at
  -- m − N does not
  pub clipped-before-dip : dip_marks 2 ≡ false ∷ []
  pub clipped-first-in-dip : dip_marks 3 ≡ true ∷ []
  pub clipped-last-in-dip : dip_marks 6 ≡ true ∷ []
  pub clipped-at-b : dip_marks 7 ≡ false ∷ []
  pub clipped-before-change : change_marks 150 ≡ false ∷ []
  pub clipped-first-in-change : change_marks 151 ≡ true ∷ []
  pub clipped-last-in-change : change_marks 153 ≡ true ∷ []
  pub clipped-after-change : change_marks 154 ≡ false ∷ []
  -- so with swells and interruptions: a swell, behind a dip that is not clipped, with its value 4 clipped, and with value 5 = b; an interruption with value 6 = b clipped, in a dip
  -- that goes on to 6
  pub clipped-swell :
      clipped_in 4 loud_swell
      ≡ record { event = record { kind = 1; start = 1; duration = 2; first = 352000; second = 0 }; clipped = false }
      ∷ record { event = record { kind = 2; start = 4; duration = 1; first = 467994; second = 0 }; clipped = true } ∷ []
  pub clipped-at-b-of-swell :
      clipped_in 6 loud_swell
      ≡ record { event = record { kind = 1; start = 1; duration = 2; first = 352000; second = 0 }; clipped = false }
      ∷ record { event = record { kind = 2; start = 4; duration = 1; first = 464000; second = 0 }; clipped = false } ∷ []
  pub clipped-at-b-of-interruption :
      clipped_in 7 loud_outage
      ≡ record { event = record { kind = 3; start = 4; duration = 2; first = 0; second = 0 }; clipped = false }
      ∷ record { event = record { kind = 1; start = 3; duration = 4; first = 0; second = 0 }; clipped = true } ∷ []
  -- after a clipped dip that still stands: V and the values, their marks; count and marks of the half-cycle in progress and the last one; start and mark of the dip
  pub clipped-values : take 6 (values_in (image_of (q_loud 400000) flat_so_far)) ≡ 5 ∷ 400000 ∷ 400000 ∷ 349826 ∷ 266793 ∷ 329848 ∷ []
  pub clipped-marks : take 5 (drop 121 (values_in (image_of (q_loud 400000) flat_so_far))) ≡ 0 ∷ 0 ∷ 1 ∷ 1 ∷ 0 ∷ []
  pub clipped-halves : let ns = gatherer_in (image_of (q_loud 400000) flat_so_far) in get_or ns 0 0 ∷ drop 4 ns ≡ 4 ∷ 1 ∷ 0 ∷ []
  pub clipped-standing : let ns = events_in (image_of (q_loud 400000) flat_so_far) in get_or ns 5 0 ∷ get_or ns 11 0 ∷ [] ≡ 3 ∷ 1 ∷ []
  -- after a clipped swell that still stands: starts and magnitudes of dip, swell and interruption; their marks and the change's
  pub swell-standing : drop 5 (events_in (image_of (q_loud 400000) swell_so_far)) ≡ 0 ∷ 0 ∷ 4 ∷ 467994 ∷ 0 ∷ 0 ∷ 0 ∷ 1 ∷ 0 ∷ 0 ∷ []
  -- in a change a clipped value counts once it has left the window: value 151 at V = 251
  pub change-unmarked : change_mark_after 251 ≡ 0
  pub change-marked : change_mark_after 252 ≡ 1
  -- a record, the settings, the image and the two replies: 28, 36, 788, 24 and 32 bytes; offset and length of each body
  pub lengths : record_length ∷ settings_length ∷ image_length ∷ reply_length ∷ day_reply_length ∷ [] ≡ 28 ∷ 36 ∷ 788 ∷ 24 ∷ 32 ∷ []
  pub sections :
      settings_offset ∷ settings_length ∷ gatherer_offset ∷ gatherer_length ∷ values_offset ∷ values_length ∷ events_offset ∷ events_length ∷ []
      ≡ 32 ∷ 36 ∷ 68 ∷ 32 ∷ 100 ∷ 608 ∷ 708 ∷ 80 ∷ []
  -- a whole image in a change with a dip standing, byte by byte; what restore refuses one rule away from it, and what it accepts beside that
  pub changing-image : image_of q changing ≡ changing_image
  pub changing-accepted : restore_refusal changing_image ≡ 0
  pub lengths-refused : refusals ([] ∷ take 787 changing_image ∷ (changing_image ++ (0 ∷ [])) ∷ []) ≡ 8 ∷ 8 ∷ 8 ∷ []
  pub table-refused : refusals (changed 0 4 2 ∷ changed 4 2 33 ∷ changed 30 2 81 ∷ []) ≡ 9 ∷ 9 ∷ 9 ∷ []
  pub settings-refused : refusals settings_out ≡ replicate 12 10
  pub settings-accepted : refusals settings_in ≡ replicate 12 0
  pub bodies-refused : refusals bodies_out ≡ replicate 25 11
  pub bodies-accepted : refusals bodies_in ≡ replicate 18 0
  pub marks-refused : refusals marks_out ≡ replicate 15 11
  pub marks-accepted : refusals marks_in ≡ replicate 15 0
