-- The ways out of an image's conversion: what refuses it, and what it leaves where nothing does. Going forth every number fits; going back, of an image that
-- restore accepts, exactly where V does.
use Rattle.std.specs.Prelude.{◌≡◌, Bool, true, false, List, ◌++◌, ℕ, ◌^◌, ◌≤◌, ◌<◌, drop, get_or}
use Rattle.std.proofs.Common.{sym, ◌∙◌, ap₂, subst, arith, eq-eqb, ne_eqb, le-ltb, le-leb}
use Rattle.std.proofs.Math.Path.{ap}
use Rattle.std.proofs.Math.Nat.{pow-le-pow_right}
use Rattle.std.proofs.Math.ListN.{length}
use Rattle.std.proofs.lemmas.Bool.{lt-leb}
use Rattle.octets.specs.Bytes.{Bytes, numbers_in, total}
use Rattle.octets.specs.BytesLaws.{bytes_take, bytes_drop}
use Rattle.octets.specs.RowLaws.{Fit, numbers_in-fit}
use Rattle.numbers.specs.Notation.{◌≡ᵇ◌, ◌≤ᵇ◌, refuse◌unless◌then◌}
use Rattle.numbers.specs.NotationLaws.{and-true, and-fails}
use Rattle.settings.specs.Settings.{window_length_of, settings_of}
use Rattle.settings.specs.SettingsLaws.{window_length_of-most}
use Rattle.reading.specs.Layout.{count_width, table_length, values_offset, values_widths_with, events_offset_with, events_widths_with, image_length_with}
use Rattle.reading.specs.Image.{table_with}
use Rattle.reading.specs.Restore.{part, settings_part, values_in_with, events_in_with, restore_refusal_with}
use Rattle.reading.specs.Engineer.{over}
use Rattle.bodies.specs.Bodies.{detector_from}
use Rattle.bodies.specs.BodiesLaws.{detector-fits, detector-again}
use Rattle.image.specs.PassedLaws.{Passed, passes-all, accepts-passed}
use Rattle.conversion.specs.Conversion.{Converted, converted_to, converted_by, image_as, image_fits, image_converted}
use Rattle.conversion.specs.WidthsLaws.{fit-passes, wider-events, fit-wider}
use Rattle.conversion.specs.ImageAsLaws.{length-image_as, other-passed, from-other}

module _ (from to : ℕ) (b lent : List ℕ) where
  -- the refusal by its three tests
  abbrev by : Bool → Bool → Bool → Converted
  by good fit room = converted_by (refuse 19 unless good then refuse 18 unless fit then refuse 7 unless room then 0) (image_as from to b) lent

  pub not_good : (restore_refusal_with from b ≡ 0 → ⊥) → image_converted from to b lent ≡ converted_to 19 lent
  unfolding image_converted
  not_good h = ap (λ (t : Bool). by t (image_fits from to b) (image_length_with to ≤ᵇ length lent)) (ne_eqb (restore_refusal_with from b) 0 h)

  module _ (good : restore_refusal_with from b ≡ 0) where
    is-good : (restore_refusal_with from b ≡ᵇ 0) ≡ true
    is-good = eq-eqb (restore_refusal_with from b) 0 good

    pub not-fit : image_fits from to b ≡ false → image_converted from to b lent ≡ converted_to 18 lent
    unfolding image_converted
    not-fit h = λ i. by (is-good i) (h i) (image_length_with to ≤ᵇ length lent)

    module _ (fit : image_fits from to b ≡ true) where
      pub no_room : length lent < image_length_with to → image_converted from to b lent ≡ converted_to 7 lent
      unfolding image_converted
      no_room h = λ i. by (is-good i) (fit i) (lt-leb (image_length_with to) (length lent) h i)

      pub all-good : image_length_with to ≤ length lent → image_converted from to b lent ≡ converted_to 0 (over (image_as from to b) lent)
      unfolding image_converted
      all-good h = λ i. by (is-good i) (fit i) (le-leb (image_length_with to) (length lent) h i)

-- the numbers of a body fit their own widths
pub body-fit : (ws b : List ℕ) (offset : ℕ) → Bytes b → Fit ws (numbers_in ws (part offset (total ws) b))
body-fit ws b offset are = numbers_in-fit ws (part offset (total ws) b) (bytes_take (total ws) (drop offset b) (bytes_drop offset b are))

module _ (from to : ℕ) (b : List ℕ) (are : Bytes b) where
  abbrev v : ℕ
  v = get_or (values_in_with from b) 0 0

  -- V, and the places behind it, whose widths are the same in every edition
  pub values-hold : v < 256 ^ to → Fit (values_widths_with to) (values_in_with from b)
  values-hold h = (h, (body-fit (values_widths_with from) b values_offset are).1)

  -- a wider edition holds all numbers
  pub values-wider : from ≤ to → Fit (values_widths_with to) (values_in_with from b)
  values-wider h = values-hold (let more : 256 ^ from ≤ 256 ^ to = pow-le-pow_right (omega arith) h in omega (arith, (body-fit (values_widths_with from) b values_offset are).0))

  pub events-wider : from ≤ to → Fit (events_widths_with to) (events_in_with from b)
  events-wider h =
      fit-wider (events_widths_with from) (events_widths_with to) (events_in_with from b) (wider-events from to h)
      (body-fit (events_widths_with from) b (events_offset_with from) are)

-- both bodies fit: the test
pub image-fits : (from to : ℕ) (b : List ℕ) → Fit (values_widths_with to) (values_in_with from b) → Fit (events_widths_with to) (events_in_with from b) → image_fits from to b ≡ true
image-fits from to b values events =
    and-true (fit-passes (values_widths_with to) (values_in_with from b) values) (fit-passes (events_widths_with to) (events_in_with from b) events)

-- of an image that this edition's restore accepts: a width that holds V holds every count
module _ (to : ℕ) (b : List ℕ) (good : Passed count_width b) where
  pub events-hold : get_or (values_in_with count_width b) 0 0 < 256 ^ to → Fit (events_widths_with to) (events_in_with count_width b)
  events-hold h =
      let s = settings_of (settings_part b) in
      let count = get_or (values_in_with count_width b) 0 0 in
      let again = detector-again (window_length_of s) count (part (events_offset_with count_width) (total (events_widths_with count_width)) b) good.allowed.events-allowed in
      subst (Fit (events_widths_with to)) again.written
      (detector-fits (detector_from count (events_in_with count_width b)) (window_length_of s) again.valid to (window_length_of-most s) h)

-- and one that does not hold V holds not all
pub count-outside : (from to : ℕ) (b : List ℕ) → 256 ^ to ≤ get_or (values_in_with from b) 0 0 → image_fits from to b ≡ false
count-outside from to b h = and-fails _ (and-fails _ (le-ltb (get_or (values_in_with from b) 0 0) (256 ^ to) h))

-- as code goes forth: the length, the table, then what this edition's restore says of the image that is made
module _ (from to : ℕ) (b lent : List ℕ) (are : Bytes b) (wider : from ≤ to) where
  pub other_length : (length b ≡ image_length_with from → ⊥) → image_converted from to b lent ≡ converted_to 19 lent
  other_length h = not_good from to b lent (λ e. h (passes-all from b e).size)

  pub other-table : (part 0 table_length b ≡ table_with from → ⊥) → image_converted from to b lent ≡ converted_to 19 lent
  other-table h = not_good from to b lent (λ e. h (passes-all from b e).contents)

  module _ (size : length b ≡ image_length_with from) (contents : part 0 table_length b ≡ table_with from) where
    abbrev made : List ℕ
    made = image_as from to b

    forth-fit : image_fits from to b ≡ true
    forth-fit = image-fits from to b (values-wider from to b are wider) (events-wider from to b are wider)

    pub made-refused : (restore_refusal_with to made ≡ 0 → ⊥) → image_converted from to b lent ≡ converted_to 19 lent
    made-refused h =
        not_good from to b lent
        (λ e. h (accepts-passed to made (other-passed from to b size (values-wider from to b are wider) (events-wider from to b are wider) (passes-all from b e))))

    module _ (accepted-made : restore_refusal_with to made ≡ 0) where
      good : restore_refusal_with from b ≡ 0
      good =
          accepts-passed from b
          (from-other from to b size (values-wider from to b are wider) (events-wider from to b are wider) contents (passes-all to made accepted-made))

      pub forth-short : length lent < image_length_with to → image_converted from to b lent ≡ converted_to 7 lent
      forth-short = no_room from to b lent good forth-fit

      pub forth-done : image_length_with to ≤ length lent → (y : List ℕ) → y ≡ made → converted_to 0 (y ++ drop (image_length_with to) lent) ≡ image_converted from to b lent
      forth-done h y e =
          ap₂ (λ (x : List ℕ) (n : ℕ). converted_to 0 (x ++ drop n lent)) e (sym (length-image_as from to b size)) ∙ sym (all-good from to b lent good forth-fit h)

-- as code goes back: V, by itself
module _ (to : ℕ) (b lent : List ℕ) (are : Bytes b) (good : restore_refusal_with count_width b ≡ 0) where
  abbrev count : ℕ
  count = get_or (values_in_with count_width b) 0 0

  pub count-above : 256 ^ to ≤ count → image_converted count_width to b lent ≡ converted_to 18 lent
  count-above h = not-fit count_width to b lent good (count-outside count_width to b h)

  module _ (within : count < 256 ^ to) where
    back-fit : image_fits count_width to b ≡ true
    back-fit = image-fits count_width to b (values-hold count_width to b are within) (events-hold to b (passes-all count_width b good) within)

    pub back-short : length lent < image_length_with to → image_converted count_width to b lent ≡ converted_to 7 lent
    back-short = no_room count_width to b lent good back-fit

    pub back_done : image_length_with to ≤ length lent → (y : List ℕ) → y ≡ image_as count_width to b
        → converted_to 0 (y ++ drop (image_length_with to) lent) ≡ image_converted count_width to b lent
    back_done h y e =
        ap₂ (λ (x : List ℕ) (n : ℕ). converted_to 0 (x ++ drop n lent)) e (sym (length-image_as count_width to b (passes-all count_width b good).size))
        ∙ sym (all-good count_width to b lent good back-fit h)
