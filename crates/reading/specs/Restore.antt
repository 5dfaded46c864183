-- 01, "Restore": which bytes are refused. Each section is judged by itself and by what was read from those before it. Refusal 11's rules are said over the
-- numbers of a body, in their order there, and hold in every edition (02, N7), whose counts have c bytes.
use Rattle.std.specs.Prelude.{Bool, true, false, ◌&&◌, List, [], ◌∷◌, ℕ, ◌+◌, ◌*◌, ◌^◌, min, length, take, drop, get_or}
use Rattle.octets.specs.Bytes.{numbers_in, total}
use Rattle.numbers.specs.Notation.{◌≡ᵇ◌, refuse◌unless◌then◌}
use Rattle.numbers.specs.Rules.{Rule, passes}
use Rattle.numbers.specs.Rules.Rule.{◌≤ʳ◌, ◌<ʳ◌, ◌≡ʳ◌, all_up_to, all_zero, ◌and◌, ◌implies◌, ◌exactly-when◌}
use Rattle.settings.specs.Settings.{window_length_of, settings_length, settings_of, start_refusal}
use Rattle.reading.specs.Layout.{count_width, places, gatherer_widths, gatherer_length, values_widths_with, events_widths_with, table_length, image_length_with}
use Rattle.reading.specs.Layout.{settings_offset, gatherer_offset, values_offset, events_offset_with}
use Rattle.reading.specs.Image.{table_with}
use Rattle.reading.specs.Feed.{last_value}

-- the bytes of a section
abbrev pub part : ℕ → ℕ → List ℕ → List ℕ
part offset size bytes = take size (drop offset bytes)

-- whether two lists of bytes are the same
abbrev pub same_bytes : List ℕ → List ℕ → Bool
same_bytes [] [] = true
same_bytes [] (y ∷ ys) = false
same_bytes (x ∷ xs) [] = false
same_bytes (x ∷ xs) (y ∷ ys) = x ≡ᵇ y && same_bytes xs ys

-- the greatest value
abbrev pub value_most : ℕ
value_most = 524288

-- a clipping mark is 0 or 1, and 0 where what it marks is not there
abbrev pub mark_rule : Rule → ℕ → Rule
mark_rule absent mark = mark ≤ʳ 1 and (absent implies mark ≡ʳ 0)

-- body 2, count, sum, last sum, 01's mark of a whole half-cycle, and the clipping marks of the half-cycle in progress and of the last one: count < M; sum ≤ count ×
-- 2^30; last sum ≤ M × 2^30; 01's mark 0 or 1, and 0 means last sum is 0
abbrev pub gatherer_rule : ℕ → List ℕ → Rule
gatherer_rule m ns =
    let count = get_or ns 0 0 in
    let last = get_or ns 2 0 in
    let whole = get_or ns 3 0 in
    count <ʳ m
    and get_or ns 1 0 ≤ʳ count * 2 ^ 30
    and last ≤ʳ m * 2 ^ 30
    and whole ≤ʳ 1
    and (whole ≡ʳ 0 implies last ≡ʳ 0)
    and mark_rule (count ≡ʳ 0) (get_or ns 4 0)
    and mark_rule (whole ≡ʳ 0) (get_or ns 5 0)

-- 01's mark 0 means V is 0
abbrev pub whole_rule : ℕ → ℕ → Rule
whole_rule whole v = whole ≡ʳ 0 implies v ≡ʳ 0

-- numbers up to a bound, and 0 in the unused places, those after the first min(V, N)
abbrev pub places_rule : ℕ → ℕ → ℕ → List ℕ → Rule
places_rule most n v numbers = all_up_to most numbers and all_zero (drop (min v n) numbers)

-- body 3, V, the values and their marks, behind a body 2 that tells whether there is a whole half-cycle: V within its end (02, N7), which 4 bytes never pass;
-- values ≤ 524,288, marks 0 or 1
abbrev pub values_rule : ℕ → ℕ → List ℕ → Rule
values_rule n whole ns =
    let v = get_or ns 0 0 in
    v ≤ʳ last_value
    and whole_rule whole v
    and places_rule value_most n v (take places (drop 1 ns))
    and places_rule 1 n v (drop (1 + places) ns)

-- the greatest difference is 0 when V < k + N
abbrev pub early_rule : ℕ → ℕ → ℕ → ℕ → Rule
early_rule n v k difference = v <ʳ k + n implies difference ≡ʳ 0

-- the fourth number is 0, or else from k to V
abbrev pub stand_rule : ℕ → ℕ → ℕ → Rule
stand_rule v k stand = 0 <ʳ stand implies (k ≤ʳ stand and stand ≤ʳ v)

-- a change, k, A(k − 1), greatest difference and fourth number, and its mark: N < k ≤ V; the two in the middle at most N × 524,288; the difference 0 when V < k + N, and
-- so is the mark; the fourth number 0, or else from k to V
abbrev pub change_rule : ℕ → ℕ → List ℕ → ℕ → Rule
change_rule n v ns mark =
    let k = get_or ns 0 0 in
    let difference = get_or ns 2 0 in
    let stand = get_or ns 3 0 in
    n <ʳ k
    and k ≤ʳ v
    and get_or ns 1 0 ≤ʳ n * value_most
    and difference ≤ʳ n * value_most
    and early_rule n v k difference
    and stand_rule v k stand
    and mark_rule (v <ʳ k + n) mark

-- the phase and a change's numbers and mark: phase 0 to 3, and 0 exactly when V < N; a change's numbers in phase 3, outside it zeros
abbrev pub phase_rule : ℕ → ℕ → List ℕ → ℕ → Rule
phase_rule n v ns mark =
    let phase = get_or ns 0 0 in
    let change = take 4 (drop 1 ns) in
    phase ≤ʳ 3
    and (phase ≡ʳ 0 exactly-when v <ʳ n)
    and (phase ≡ʳ 3 implies change_rule n v change mark)
    and (phase <ʳ 3 implies (all_zero change and mark ≡ʳ 0))

-- an event: its start 0 to V, its magnitude ≤ 524,288, and 0 where the start is 0; its mark
abbrev pub standing_rule : ℕ → ℕ → ℕ → ℕ → Rule
standing_rule v start so_far mark = start ≤ʳ v and so_far ≤ʳ value_most and (start ≡ʳ 0 implies so_far ≡ʳ 0) and mark_rule (start ≡ʳ 0) mark

-- body 4: the phase; the dip, the swell and the interruption; the marks of the three and of the change stand behind them
abbrev pub events_rule : ℕ → ℕ → List ℕ → Rule
events_rule n v ns =
    phase_rule n v ns (get_or ns 14 0)
    and standing_rule v (get_or ns 5 0) (get_or ns 6 0) (get_or ns 11 0)
    and standing_rule v (get_or ns 7 0) (get_or ns 8 0) (get_or ns 12 0)
    and standing_rule v (get_or ns 9 0) (get_or ns 10 0) (get_or ns 13 0)

-- the sections of an image, and the numbers of its bodies
abbrev pub settings_part : List ℕ → List ℕ
settings_part b = part settings_offset settings_length b

abbrev pub gatherer_in : List ℕ → List ℕ
gatherer_in b = numbers_in gatherer_widths (part gatherer_offset gatherer_length b)

abbrev pub values_in_with : ℕ → List ℕ → List ℕ
values_in_with c b = numbers_in (values_widths_with c) (part values_offset (total (values_widths_with c)) b)

abbrev pub values_in : List ℕ → List ℕ
values_in b = values_in_with count_width b

abbrev pub events_in_with : ℕ → List ℕ → List ℕ
events_in_with c b = numbers_in (events_widths_with c) (part (events_offset_with c) (total (events_widths_with c)) b)

abbrev pub events_in : List ℕ → List ℕ
events_in b = events_in_with count_width b

-- each section is taken only if the one before it was good; 0 where the bytes are accepted
unfoldable pub restore_refusal_with : ℕ → List ℕ → ℕ
restore_refusal_with c b =
    let s = settings_of (settings_part b) in
    let n = window_length_of s in
    refuse 8 unless length b ≡ᵇ image_length_with c then
    refuse 9 unless same_bytes (part 0 table_length b) (table_with c) then
    refuse 10 unless start_refusal (settings_part b) ≡ᵇ 0 then
    refuse 11 unless passes (gatherer_rule s.samples (gatherer_in b)) then
    refuse 11 unless passes (values_rule n (get_or (gatherer_in b) 3 0) (values_in_with c b)) then
    refuse 11 unless passes (events_rule n (get_or (values_in_with c b) 0 0) (events_in_with c b)) then
    0

abbrev pub restore_refusal : List ℕ → ℕ
restore_refusal b = restore_refusal_with count_width b
