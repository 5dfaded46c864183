-- Both round trips: an allowed state's image is accepted and read back as that state; accepted bytes are the image of what is read from them, which is allowed.
use Rattle.std.specs.Prelude.{◌≡◌, ℕ, zero, suc, ◌+◌, ◌≤◌, length, take, drop, get_or}
use Rattle.std.proofs.Math.Path.{refl, sym, ap, subst}
use Rattle.std.proofs.Common.{◌∙◌, arith, length-take, length-drop, take_at, drop_at}
use mathlib.Core.List.{List, ◌∷◌, ◌++◌}
use Rattle.std.proofs.Math.ListN.{length-append}
use Rattle.octets.specs.Bytes.{Bytes, row, numbers_in, total}
use Rattle.octets.specs.BytesLaws.{bytes_take, bytes_drop}
use Rattle.octets.specs.RowLaws.{length-row, numbers_in-row, row-numbers_in}
use Rattle.numbers.specs.Notation.{flag}
use Rattle.numbers.specs.Answers.{answered}
use Rattle.numbers.specs.Answers.Answered.{accepted}
use Rattle.numbers.specs.Rules.{Holds}
use Rattle.settings.specs.declared.Settings.{Settings}
use Rattle.settings.specs.Settings.{window_length_of, settings_length, settings_bytes, settings_of, start_refusal, settings_read}
use Rattle.settings.specs.SettingsLaws.{window_length_of-most, settings_of-settings_bytes, settings_read-settings_bytes, read-accepted, settings_bytes-settings_read}
use Rattle.reading.specs.Layout.{count_width, places, gatherer_widths, values_widths, values_length, events_widths, events_length, image_length}
use Rattle.reading.specs.Layout.{settings_offset, gatherer_offset, values_offset, events_offset}
use Rattle.reading.specs.Image.{table}
use Rattle.reading.specs.Restore.{part, gatherer_rule, whole_rule, values_rule, settings_part, gatherer_in, values_in, events_in, restore_refusal}
use Rattle.rms.specs.Gather.{gatherer_row}
use Rattle.state.specs.declared.State.{State}
use Rattle.state.specs.State.{state_with, ValidState}
use Rattle.bodies.specs.Bodies.{detector_row, gatherer_from, detector_from}
use Rattle.bodies.specs.BodiesLaws.{gatherer-fits, gatherer-back, gatherer-again, values-fit}
use Rattle.bodies.specs.BodiesLaws.{Again, length-detector_row, detector-fits, detector-back, detector-allowed, detector-again}
use Rattle.image.specs.Image.{gatherer_body, values_body, events_body, image_bytes, state_at_with, state_at, refused_by, restored_from, restored_by}
use Rattle.image.specs.SectionsLaws.{Sections, sections-are, sections-join}
use Rattle.image.specs.PassedLaws.{allowed-as, Passed, passes-all, accepts-passed}

-- bytes with the sections of a state
abbrev SectionsOf : State → List ℕ → Type 0
SectionsOf st b = Sections count_width b table (settings_bytes st.settings) (gatherer_body st) (values_body st) (events_body st)

-- the sections of an image, and their lengths
module _ (st : State) (size : length st.window ≡ 120) (marks-size : length st.marks ≡ 120) where
  pub values-long : length (values_body st) ≡ values_length
  values-long = length-row values_widths (st.detector.count ∷ (st.window ++ st.marks)) (ap suc (length-append st.window st.marks ∙ omega arith))

  events-long : length (events_body st) ≡ events_length
  events-long = length-row events_widths (detector_row st.detector) (length-detector_row st.detector)

  pub length-image_bytes : length (image_bytes st) ≡ image_length
  unfolding image_bytes
  length-image_bytes = omega (arith, length-append (values_body st) (events_body st), values-long, events-long)

  image-sections : SectionsOf st (image_bytes st)
  unfolding image_bytes
  image-sections = sections-are count_width (image_bytes st) table (settings_bytes st.settings) (gatherer_body st) _ _ refl refl refl refl values-long events-long

-- bytes that are refused
pub restored_by-refused : (old : State) (b : List ℕ) → (restore_refusal b ≡ 0 → ⊥) → restored_by old b ≡ refused_by (restore_refusal b) old
unfolding restored_by
restored_by-refused old b refused = go (restore_refusal b) refused
  where
    go : (n : ℕ) → (n ≡ 0 → ⊥) → restored_from n old (state_at b) ≡ refused_by n old
    go zero h = absurd (h refl)
    go (suc n) h = refl

-- state → bytes → state
module _ (st : State) (valid : ValidState st) where
  abbrev saved : List ℕ
  saved = image_bytes st

  abbrev n : ℕ
  n = window_length_of st.settings

  abbrev v : ℕ
  v = st.detector.count

  sections : SectionsOf st saved
  sections = image-sections st valid.window-valid.size valid.marks-valid.size

  settings-are : settings_of (settings_part saved) ≡ st.settings
  settings-are = ap settings_of sections.settings-part ∙ settings_of-settings_bytes st.settings valid.settings-valid

  gatherer-is : gatherer_in saved ≡ gatherer_row st.gatherer
  gatherer-is =
      ap (numbers_in gatherer_widths) sections.gatherer-part
      ∙ numbers_in-row gatherer_widths (gatherer_row st.gatherer)
      (gatherer-fits st.settings.samples st.gatherer valid.settings-valid.samples-valid.1 valid.gatherer-valid)

  values_are : values_in saved ≡ v ∷ (st.window ++ st.marks)
  values_are =
      ap (numbers_in values_widths) sections.values-part
      ∙ numbers_in-row values_widths (v ∷ (st.window ++ st.marks))
      (values-fit count_width n v st.window st.marks (omega (arith, valid.count-le)) valid.window-valid valid.marks-valid)

  window-is : take places (st.window ++ st.marks) ≡ st.window
  window-is = take_at st.window st.marks places valid.window-valid.size

  marks_are : drop places (st.window ++ st.marks) ≡ st.marks
  marks_are = drop_at st.window st.marks places valid.window-valid.size

  values-allowed : Holds (values_rule n (flag st.gatherer.whole) (v ∷ (st.window ++ st.marks)))
  values-allowed = rw (window-is, marks_are) (valid.count-le, (valid.none-whole, (valid.window-valid.allowed, valid.marks-valid.allowed)))

  events-are : events_in saved ≡ detector_row st.detector
  events-are =
      ap (numbers_in events_widths) sections.events-part
      ∙ numbers_in-row events_widths (detector_row st.detector) (detector-fits st.detector n valid.detector-valid count_width (window_length_of-most st.settings) (omega (arith, valid.count-le)))

  start_none : start_refusal (settings_part saved) ≡ 0
  start_none =
      ap start_refusal sections.settings-part
      ∙ (read-accepted (settings_bytes st.settings) st.settings (settings_read-settings_bytes st.settings valid.settings-valid)).none

  pub image_bytes-accepted : restore_refusal (image_bytes st) ≡ 0
  image_bytes-accepted = accepts-passed count_width saved (record {
    size = length-image_bytes st valid.window-valid.size valid.marks-valid.size;
    contents = sections.contents-part;
    start = start_none;
    allowed = allowed-as (sym settings-are) (sym gatherer-is) (sym values_are) (sym events-are) (record {
      gatherer-allowed = valid.gatherer-valid;
      values-allowed = values-allowed;
      events-allowed = detector-allowed st.detector n valid.detector-valid;
    });
  })

  pub state_at-image_bytes : state_at (image_bytes st) ≡ st
  unfolding state_at_with
  state_at-image_bytes =
      (λ i. state_with (settings-are i) (gatherer_from (gatherer-is i)) (detector_from (get_or (values_are i) 0 0) (events-are i))
      (take places (drop 1 (values_are i))) (drop (1 + places) (values_are i)))
      ∙ (λ i. state_with st.settings (gatherer-back st.gatherer i) (detector-back st.detector i) (window-is i) (marks_are i))

  pub restored_by-saved : (old : State) → restored_by old (image_bytes st) ≡ record { after = st; answer = accepted tt }
  unfolding restored_by
  restored_by-saved old = λ i. restored_from (image_bytes-accepted i) old (state_at-image_bytes i)

-- bytes → state → bytes
module _ (b : List ℕ) (are : Bytes b) (accepted-b : restore_refusal b ≡ 0) where
  abbrev s : Settings
  s = settings_of (settings_part b)

  ok : Passed count_width b
  ok = passes-all count_width b accepted-b

  part_bytes : (offset n : ℕ) → Bytes (part offset n b)
  part_bytes offset n = bytes_take n (drop offset b) (bytes_drop offset b are)

  part-size : (offset n : ℕ) → offset + n ≤ image_length → length (part offset n b) ≡ n
  part-size offset n h = simp (length-take, length-drop) (omega (arith, ok.size))

  settings-read : settings_read (settings_part b) ≡ accepted s
  unfolding settings_read
  settings-read = ap (λ (n : ℕ). answered n s) ok.start

  -- each mark is 0 or 1
  gatherer-row : gatherer_row (gatherer_from (gatherer_in b)) ≡ gatherer_in b
  gatherer-row = let rest = ok.allowed.gatherer-allowed.1.1.1 in gatherer-again _ _ _ _ _ _ rest.0 rest.1.1.0.0 rest.1.1.1.0

  detector-row : Again (window_length_of s) (get_or (values_in b) 0 0) (events_in b)
  detector-row = detector-again (window_length_of s) _ (part events_offset events_length b) ok.allowed.events-allowed

  pub state_at-valid : ValidState (state_at b)
  unfolding state_at_with
  state_at-valid = record {
    settings-valid = (read-accepted (settings_part b) s settings-read).valid;
    gatherer-valid = subst (λ (ns : List ℕ). Holds (gatherer_rule s.samples ns)) (sym gatherer-row) ok.allowed.gatherer-allowed;
    detector-valid = detector-row.valid;
    window-valid = record { size = refl; allowed = ok.allowed.values-allowed.1.1.0 };
    marks-valid = record { size = refl; allowed = ok.allowed.values-allowed.1.1.1 };
    count-le = ok.allowed.values-allowed.0;
    none-whole = subst (λ (ns : List ℕ). Holds (whole_rule (get_or ns 3 0) (get_or (values_in b) 0 0))) (sym gatherer-row) ok.allowed.values-allowed.1.0;
  }

  pub image_bytes-state_at : image_bytes (state_at b) ≡ b
  unfolding image_bytes state_at_with
  image_bytes-state_at =
      sections-join count_width b table (settings_bytes s) _ _ _ ok.size
      (record {
        contents-part = ok.contents;
        settings-part = sym (settings_bytes-settings_read (settings_part b) (part_bytes settings_offset settings_length) s settings-read);
        gatherer-part = sym (ap (row gatherer_widths) gatherer-row ∙ again gatherer_offset gatherer_widths (omega arith));
        values-part = sym (again values_offset values_widths (omega arith));
        events-part = sym (ap (row events_widths) detector-row.written ∙ again events_offset events_widths (omega arith));
      })
    where
      again : (o : ℕ) (ws : List ℕ) → o + total ws ≤ image_length → row ws (numbers_in ws (part o (total ws) b)) ≡ part o (total ws) b
      again o ws h = row-numbers_in ws (part o (total ws) b) (part_bytes o (total ws)) (part-size o (total ws) h)

-- a restore leaves a valid state valid
pub restored_by-valid : (old : State) (b : List ℕ) → Bytes b → ValidState old → ValidState (restored_by old b).after
unfolding restored_by
restored_by-valid old b are valid = by_number (restore_refusal b) refl
  where
    by_number : (n : ℕ) → restore_refusal b ≡ n → ValidState (restored_from n old (state_at b)).after
    by_number zero e = state_at-valid b are e
    by_number (suc n) e = valid
