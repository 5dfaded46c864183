-- 01, "The image" of a recording, with 02's marks and its recovery from a long dip; of any edition, by the width c of its counts (02, N7).
use Rattle.std.specs.Prelude.{Bool, false, List, [], ◌∷◌, ◌++◌, reverse, ℕ, zero, suc, ◌-◌, ◌%◌, length, take, replicate, ℤ, if◌then◌else◌}
use Rattle.octets.specs.Bytes.{row, total}
use Rattle.settings.specs.declared.Settings.{Settings}
use Rattle.numbers.specs.Notation.{◌<ᵇ◌, ◌≡ᵇ◌, flag}
use Rattle.settings.specs.Settings.{window_length_of, settings_length, settings_bytes}
use Rattle.reading.specs.declared.Kind.{Kind}
use Rattle.reading.specs.declared.Kind.TheVariants.{Dip, Swell, Interruption}
use Rattle.reading.specs.Values.{squares, energy, halves, in_progress, values, since}
use Rattle.reading.specs.Clipping.{any_clipped, half_clipped, marks_of, clipped_since, clipped_from}
use Rattle.reading.specs.Thresholds.{stands_since, magnitude}
use Rattle.reading.specs.Changes.{Signal, signal, first_stand, stood_before, sum_before, greatest_difference}
use Rattle.reading.specs.Changes.Signal.{filling, unsettled, steady, changing}
use Rattle.reading.specs.Layout.{count_width, entry_widths, places, gatherer_widths, gatherer_length, values_widths_with, events_widths_with}
use Rattle.reading.specs.Layout.{settings_offset, gatherer_offset, values_offset, events_offset_with}

-- the table of contents: code, offset and length of each body
abbrev pub entry : ℕ → ℕ → ℕ → List ℕ
entry code offset size = row entry_widths (code ∷ offset ∷ size ∷ [])

abbrev pub table_with : ℕ → List ℕ
table_with c =
    entry 1 settings_offset settings_length
    ++ (entry 2 gatherer_offset gatherer_length
    ++ (entry 3 values_offset (total (values_widths_with c)) ++ entry 4 (events_offset_with c) (total (events_widths_with c))))

abbrev pub table : List ℕ
table = table_with count_width

-- the sum of the last of h whole half-cycles, 0 without one
abbrev pub last_sum : Settings → List ℤ → ℕ → ℕ
last_sum s rec zero = 0
last_sum s rec (suc h) = energy s rec (suc h)

-- and its mark
abbrev pub last_clipped : Settings → List ℤ → ℕ → Bool
last_clipped s rec zero = false
last_clipped s rec (suc h) = half_clipped s rec (suc h)

-- body 2: count and sum of the half-cycle in progress, the last whole one's sum, whether there is one; the marks of both
abbrev pub gatherer_bytes : Settings → List ℤ → List ℕ
gatherer_bytes s rec =
    let whole = halves s rec in
    let now = in_progress s rec in
    row gatherer_widths
    (length rec % s.samples ∷ squares now ∷ last_sum s rec whole ∷ flag (0 <ᵇ whole) ∷ flag (any_clipped now) ∷ flag (last_clipped s rec whole) ∷ [])

-- 120 places with the last n numbers of a history at most, oldest first, the rest 0
abbrev pub places_of : ℕ → List ℕ → List ℕ
places_of n hist = let kept = reverse (take n hist) in kept ++ replicate (places - length kept) 0

-- body 3: V, the places of the values, and those of their marks
abbrev pub values_numbers : Settings → List ℕ → List ℕ → List ℕ
values_numbers s hist ms = let n = window_length_of s in length hist ∷ (places_of n hist ++ places_of n ms)

-- the phase's number: 0 fewer than N values, 1 never yet steady, 2 steady, 3 in a change
abbrev pub phase_number : Signal → ℕ
phase_number filling = 0
phase_number unsettled = 1
phase_number steady = 2
phase_number (changing k) = 3

-- the fourth number of a change since k: the first value from k on at which a dip or swell first stands, 0 if there is none; k where one stands at k − 1 (02, N5)
abbrev pub stand_number : Settings → ℕ → List ℕ → ℕ
stand_number s k hist = if stood_before s k hist then k else first_stand s k hist

-- of a change k, A(k − 1), the greatest difference and the fourth number; 0 outside a change
abbrev pub change_numbers : Settings → List ℕ → Signal → List ℕ
change_numbers s hist filling = 0 ∷ 0 ∷ 0 ∷ 0 ∷ []
change_numbers s hist unsettled = 0 ∷ 0 ∷ 0 ∷ 0 ∷ []
change_numbers s hist steady = 0 ∷ 0 ∷ 0 ∷ 0 ∷ []
change_numbers s hist (changing k) = k ∷ sum_before s k hist ∷ greatest_difference s k hist ∷ stand_number s k hist ∷ []

-- start and magnitude so far of an event, 0 and 0 where none stands
abbrev pub standing_numbers : Settings → Kind → List ℕ → List ℕ
standing_numbers s kind hist =
    let a = stands_since s kind hist in
    let so_far = magnitude kind (since a hist) in
    if a ≡ᵇ 0 then 0 ∷ 0 ∷ [] else a ∷ so_far ∷ []

-- an event's mark so far, over its start to V; 0 where none stands
abbrev pub standing_mark : Settings → Kind → List ℕ → List ℕ → ℕ
standing_mark s kind hist ms = flag (clipped_since (stands_since s kind hist) ms)

-- a change's, over k to V − N; 0 outside a change
abbrev pub change_mark : Settings → List ℕ → Signal → ℕ
change_mark s ms filling = 0
change_mark s ms unsettled = 0
change_mark s ms steady = 0
change_mark s ms (changing k) = flag (clipped_from s k ms)

-- body 4: the phase, what a change carries, the dip, the swell and the interruption; and the marks of the three and of the change
abbrev pub events_numbers : Settings → List ℕ → List ℕ → List ℕ
events_numbers s hist ms =
    let now = signal s hist in
    phase_number now ∷ (change_numbers s hist now ++ (standing_numbers s Dip hist ++ (standing_numbers s Swell hist ++ (standing_numbers s Interruption hist
    ++ (standing_mark s Dip hist ms ∷ standing_mark s Swell hist ms ∷ standing_mark s Interruption hist ms ∷ change_mark s ms now ∷ [])))))

-- the image: the table, the settings and the three other bodies
abbrev pub image_with : ℕ → Settings → List ℤ → List ℕ
image_with c s rec =
    let hist = values s rec in
    let ms = marks_of s rec in
    table_with c
    ++ (settings_bytes s
    ++ (gatherer_bytes s rec ++ (row (values_widths_with c) (values_numbers s hist ms) ++ row (events_widths_with c) (events_numbers s hist ms))))

abbrev pub image_of : Settings → List ℤ → List ℕ
image_of s rec = image_with count_width s rec
