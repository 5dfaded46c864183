-- The converter's promises, from the laws of records and of images in another edition.
use Rattle.std.specs.Prelude.{◌≡◌, refl, Bool, true, false, List, ◌++◌, ℕ, ◌+◌, ◌%◌, ◌^◌, ◌≤◌, ◌<◌, length, take, drop, get_or, ℤ}
use Rattle.std.proofs.Common.{sym, ◌∙◌, ap, subst, arith, eqb-true}
use Rattle.std.proofs.Math.Decide.{dec_lt}
use Rattle.octets.specs.Bytes.{Bytes, row, numbers_in, total}
use Rattle.octets.specs.RowLaws.{Fit, length-row, length-numbers_in, numbers_in-row}
use Rattle.numbers.specs.Notation.{◌≤ᵇ◌, ◌≡ᵇ◌, refuse◌unless◌then◌}
use Rattle.numbers.specs.NotationLaws.{and_left, and_right, refuse-none, refuse-passes, refuse-fails}
use Rattle.numbers.specs.Answers.Answered.{accepted}
use Rattle.settings.specs.declared.Settings.{Settings}
use Rattle.settings.specs.Settings.{window_length_of, settings_bytes, settings_of, ValidSettings}
use Rattle.settings.specs.SettingsLaws.{window_length_of-most}
use Rattle.reading.specs.Layout.{count_width, earlier_width, places, values_offset, values_widths_with, events_offset_with, events_widths_with, image_length_with, record_length_with}
use Rattle.reading.specs.Values.{Samples, value_count, values}
use Rattle.reading.specs.Clipping.{marks_of}
use Rattle.reading.specs.Feed.{last_value}
use Rattle.reading.specs.Image.{table_with, gatherer_bytes, values_numbers, events_numbers, image_with}
use Rattle.reading.specs.Restore.{part, values_in, values_in_with, events_in_with, restore_refusal, restore_refusal_with}
use Rattle.reading.specs.Engineer.{over}
use Rattle.state.specs.declared.State.{State}
use Rattle.reading_laws.specs.RecordingsLaws.{length-history}
use Rattle.state.specs.State.{state_with, state_of, ValidState}
use Rattle.state.proofs.StepValid.{state_of-valid}
use Rattle.bodies.specs.Bodies.{gatherer_from, detector_from}
use Rattle.bodies.specs.BodiesLaws.{values-fit, detector-fits}
use Rattle.image.specs.Image.{state_at_with, restored_from, restored_by}
use Rattle.image.specs.ImageLaws.{image_bytes-accepted}
use Rattle.image.specs.ImageFollows.{events-of-state, image-of-state}
use Rattle.image.specs.SectionsLaws.{Sections, sections-are}
use Rattle.image.specs.PassedLaws.{Passed, passes-all, accepts-passed}
use Rattle.conversion.specs.Conversion.{converted_to, fits, good_row, all_rows, rows_in, records_as, image_as, image_fits}
use Rattle.conversion.specs.Conversion.{records_refusal, image_refusal, image_converted}
use Rattle.conversion.specs.WidthsLaws.{fit_length, fit-by-test}
use Rattle.conversion.proofs.RecordsLaws.{records-there-and-back, forth-fits, records-accepted}
use Rattle.conversion.specs.ImageAsLaws.{sections-as, same-gatherer, same-values, same-events, other-passed, image_as-again}
use Rattle.conversion.proofs.ImageConvertedLaws.{all-good, body-fit, image-fits, values-hold, values-wider, events-wider, events-hold, count-outside}
use Rattle.conversion.specs.Promises.{Promises}

-- an image that converts: its edition's restore accepts it, and the other's widths hold its numbers
module _ (from to : ℕ) (b lent : List ℕ) (none : image_refusal from to b lent ≡ 0) where
  tests : (restore_refusal_with from b ≡ 0) × (image_fits from to b ≡ true)
  tests =
      let good = restore_refusal_with from b ≡ᵇ 0 in
      let room = refuse 7 unless image_length_with to ≤ᵇ length lent then 0 in
      let g = refuse-none 19 good (refuse 18 unless image_fits from to b then room) (omega arith) none in
      let f = refuse-none 18 (image_fits from to b) room (omega arith) g.1 in
      (eqb-true (restore_refusal_with from b) 0 g.0, f.0)

  ok : Passed from b
  ok = passes-all from b tests.0

  values-ok : Fit (values_widths_with to) (values_in_with from b)
  values-ok =
      fit-by-test (values_widths_with to) (values_in_with from b) (length-numbers_in (values_widths_with from) (part values_offset (total (values_widths_with from)) b))
      (and_left (fits (values_widths_with to) (values_in_with from b)) (fits (events_widths_with to) (events_in_with from b)) tests.1)

  events-ok : Fit (events_widths_with to) (events_in_with from b)
  events-ok =
      fit-by-test (events_widths_with to) (events_in_with from b)
      (length-numbers_in (events_widths_with from) (part (events_offset_with from) (total (events_widths_with from)) b))
      (and_right (fits (values_widths_with to) (values_in_with from b)) (fits (events_widths_with to) (events_in_with from b)) tests.1)

  abbrev other : List ℕ
  other = image_as from to b

  other-accepted : restore_refusal_with to other ≡ 0
  other-accepted = accepts-passed to other (other-passed from to b ok.size values-ok events-ok ok)

  -- the state of the same numbers
  same-state : state_at_with to other ≡ state_at_with from b
  unfolding state_at_with
  same-state =
      let values = same-values from to b ok.size values-ok events-ok in
      let events = same-events from to b ok.size values-ok events-ok in
      let gatherer = same-gatherer from to b ok.size values-ok events-ok in
      λ i. state_with (settings_of ((sections-as from to b ok.size).settings-part i)) (gatherer_from (gatherer i)) (detector_from (get_or (values i) 0 0) (events i))
      (take places (drop 1 (values i))) (drop (1 + places) (values i))

  image-back : (out : List ℕ) → Bytes b → length b ≤ length out → image_converted to from other out ≡ converted_to 0 (over b out)
  image-back out are room =
      let values = same-values from to b ok.size values-ok events-ok in
      let events = same-events from to b ok.size values-ok events-ok in
      let values-again = subst (Fit (values_widths_with from)) (sym values) (body-fit (values_widths_with from) b values_offset are) in
      let events-again = subst (Fit (events_widths_with from)) (sym events) (body-fit (events_widths_with from) b (events_offset_with from) are) in
      all-good to from other out other-accepted (image-fits to from other values-again events-again) (omega (arith, ok.size))
      ∙ ap (λ (l : List ℕ). converted_to 0 (over l out)) (image_as-again from to b ok.size values-ok events-ok are ok.contents)

-- restored into any logger
restores : (b lent : List ℕ) (old : State) → image_refusal earlier_width count_width b lent ≡ 0
    → restored_by old (image_as earlier_width count_width b) ≡ record { after = state_at_with earlier_width b; answer = accepted tt }
unfolding restored_by
restores b lent old none =
    λ i. restored_from (other-accepted earlier_width count_width b lent none i) old (same-state earlier_width count_width b lent none i)

-- a refusal whose test of 18 passes is not 18
not-18 : (good room : Bool) → (refuse 19 unless good then refuse 18 unless true then refuse 7 unless room then 0) ≡ 18 → ⊥
not-18 true true e = omega (arith, e)
not-18 true false e = omega (arith, e)
not-18 false room e = omega (arith, e)

not-18-twice : (whole good room : Bool) → (refuse 19 unless whole then refuse 19 unless good then refuse 18 unless true then refuse 7 unless room then 0) ≡ 18 → ⊥
not-18-twice true good room e = not-18 good room e
not-18-twice false good room e = omega (arith, e)

module _ (b lent : List ℕ) (are : Bytes b) where
  records-not-18 : records_refusal earlier_width count_width b lent ≡ 18 → ⊥
  records-not-18 e =
      let whole = length b % record_length_with earlier_width ≡ᵇ 0 in
      let good = all_rows good_row (rows_in earlier_width b) in
      let room = length (records_as earlier_width count_width b) ≤ᵇ length lent in
      let fit = forth-fits earlier_width count_width b are (omega arith) in
      not-18-twice whole good room
      (ap (λ (t : Bool). refuse 19 unless whole then refuse 19 unless good then refuse 18 unless t then refuse 7 unless room then 0) (sym fit) ∙ e)

  image-not-18 : image_refusal earlier_width count_width b lent ≡ 18 → ⊥
  image-not-18 e =
      let good = restore_refusal_with earlier_width b ≡ᵇ 0 in
      let room = image_length_with count_width ≤ᵇ length lent in
      let fit = image-fits earlier_width count_width b (values-wider earlier_width count_width b are (omega arith)) (events-wider earlier_width count_width b are (omega arith)) in
      not-18 good room (ap (λ (t : Bool). refuse 19 unless good then refuse 18 unless t then refuse 7 unless room then 0) (sym fit) ∙ e)

  -- going back V decides
  module _ (good : restore_refusal b ≡ 0) where
    abbrev v : ℕ
    v = get_or (values_in b) 0 0

    is-good : (restore_refusal b ≡ᵇ 0) ≡ true
    is-good = ap (λ (n : ℕ). n ≡ᵇ 0) good

    above-18 : 4294967295 < v → image_refusal count_width earlier_width b lent ≡ 18
    above-18 h = refuse-passes 19 _ is-good ∙ refuse-fails 18 _ (count-outside count_width earlier_width b (omega arith))

    18-above : image_refusal count_width earlier_width b lent ≡ 18 → 4294967295 < v
    18-above e = go (dec_lt 4294967295 v)
      where
        go : Dec (4294967295 < v) → 4294967295 < v
        go (yes h) = h
        go (no h) =
            let within : v < 256 ^ earlier_width = omega (arith, h) in
            let room = image_length_with earlier_width ≤ᵇ length lent in
            let fit =
            image-fits count_width earlier_width b (values-hold count_width earlier_width b are within) (events-hold earlier_width b (passes-all count_width b good) within) in
            absurd (not-18 (restore_refusal b ≡ᵇ 0) room
            (ap (λ (t : Bool). refuse 19 unless restore_refusal b ≡ᵇ 0 then refuse 18 unless t then refuse 7 unless room then 0) (sym fit) ∙ e))

-- the image of a recording, in any edition whose width holds V: its sections are those of the reading, and their numbers fit
module _ (s : Settings) (rec : List ℤ) (valid : ValidSettings s) (samples : Samples rec) (within : value_count s rec ≤ last_value) where
  abbrev st : State
  st = state_of s rec

  abbrev hist : List ℕ
  hist = values s rec

  abbrev ms : List ℕ
  ms = marks_of s rec

  state-valid : ValidState st
  state-valid = state_of-valid s rec valid (record { samples = samples; within = within })

  module _ (c : ℕ) (holds : value_count s rec < 256 ^ c) where
    abbrev image : List ℕ
    image = image_with c s rec

    count-holds : length hist < 256 ^ c
    count-holds = rw (length-history s rec (value_count s rec)) holds

    values-fit-in : Fit (values_widths_with c) (values_numbers s hist ms)
    values-fit-in = values-fit c (window_length_of s) (length hist) st.window st.marks count-holds state-valid.window-valid state-valid.marks-valid

    events-fit-in : Fit (events_widths_with c) (events_numbers s hist ms)
    events-fit-in =
        subst (Fit (events_widths_with c)) (events-of-state s rec)
        (detector-fits st.detector (window_length_of s) state-valid.detector-valid c (window_length_of-most s) count-holds)

    recorded : Sections c image (table_with c) (settings_bytes s) (gatherer_bytes s rec) (row (values_widths_with c) (values_numbers s hist ms))
        (row (events_widths_with c) (events_numbers s hist ms))
    recorded =
        sections-are c image (table_with c) (settings_bytes s) (gatherer_bytes s rec) _ _ refl refl refl refl
        (length-row (values_widths_with c) (values_numbers s hist ms) (fit_length (values_widths_with c) (values_numbers s hist ms) values-fit-in))
        (length-row (events_widths_with c) (events_numbers s hist ms) (fit_length (events_widths_with c) (events_numbers s hist ms) events-fit-in))

    values-recorded : values_in_with c image ≡ values_numbers s hist ms
    values-recorded = ap (numbers_in (values_widths_with c)) recorded.values-part ∙ numbers_in-row (values_widths_with c) (values_numbers s hist ms) values-fit-in

    events-recorded : events_in_with c image ≡ events_numbers s hist ms
    events-recorded = ap (numbers_in (events_widths_with c)) recorded.events-part ∙ numbers_in-row (events_widths_with c) (events_numbers s hist ms) events-fit-in

    recording-as : (to : ℕ) → image_as c to image ≡ image_with to s rec
    recording-as to =
        λ i. table_with to
        ++ (recorded.settings-part i
        ++ (recorded.gatherer-part i ++ (row (values_widths_with to) (values-recorded i) ++ row (events_widths_with to) (events-recorded i))))

  -- this edition's is accepted, being the image of the recording's state; and so is any other's
  this-holds : value_count s rec < 256 ^ count_width
  this-holds = omega arith

  this-passed : Passed count_width (image_with count_width s rec)
  this-passed =
      passes-all count_width (image_with count_width s rec) (ap restore_refusal (sym (image-of-state s rec)) ∙ image_bytes-accepted st state-valid)

  recorded-passed : (c : ℕ) → value_count s rec < 256 ^ c → Passed c (image_with c s rec)
  recorded-passed c holds =
      subst (Passed c) (recording-as count_width this-holds c)
      (other-passed count_width c (image_with count_width s rec) this-passed.size
      (subst (Fit (values_widths_with c)) (sym (values-recorded count_width this-holds)) (values-fit-in c holds))
      (subst (Fit (events_widths_with c)) (sym (events-recorded count_width this-holds)) (events-fit-in c holds)) this-passed)

  recording-converted : (from to : ℕ) (lent : List ℕ) → value_count s rec < 256 ^ from → value_count s rec < 256 ^ to → image_length_with to ≤ length lent
      → image_converted from to (image_with from s rec) lent ≡ converted_to 0 (over (image_with to s rec) lent)
  recording-converted from to lent holds holds-to room =
      let b = image_with from s rec in
      let values-ok = subst (Fit (values_widths_with to)) (sym (values-recorded from holds)) (values-fit-in to holds-to) in
      let events-ok = subst (Fit (events_widths_with to)) (sym (events-recorded from holds)) (events-fit-in to holds-to) in
      all-good from to b lent (accepts-passed from b (recorded-passed from holds)) (image-fits from to b values-ok events-ok) room
      ∙ ap (λ (l : List ℕ). converted_to 0 (over l lent)) (recording-as from holds to)

pub promises-hold : Promises
promises-hold = record {
  records-there-and-back = records-there-and-back;
  image-there-and-back = λ from to b lent out are none room. image-back from to b lent none out are room;
  same-logger = λ b lent old are none. restores b lent old none;
  same-logger-back = λ b lent are none. (other-accepted count_width earlier_width b lent none, same-state count_width earlier_width b lent none);
  forth-not-18 = λ b lent are. (records-not-18 b lent are, image-not-18 b lent are);
  only-V = λ b lent are good. (18-above b lent are good, above-18 b lent are good);
  of-recording = λ from to s rec lent valid samples within holds holds-to room. recording-converted s rec valid samples within from to lent holds holds-to room;
  of-records = records-accepted;
}
