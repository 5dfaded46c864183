-- An image in another edition, over the widths of both: its sections, and that it has the same numbers where the other edition's widths hold them. So the one
-- is accepted by its edition's restore where the other is, and to carry it back gives the same bytes.
use Rattle.std.specs.Prelude.{◌≡◌, refl, List, ◌++◌, ℕ, ◌+◌, ◌≤◌, length, drop}
use Rattle.std.proofs.Common.{sym, ◌∙◌, ap, arith, length-append, length-take, length-drop}
use Rattle.octets.specs.Bytes.{Bytes, row, numbers_in, total}
use Rattle.octets.specs.BytesLaws.{bytes_take, bytes_drop}
use Rattle.octets.specs.RowLaws.{Fit, length-row, length-numbers_in, numbers_in-row, row-numbers_in}
use Rattle.settings.specs.Settings.{settings_length, settings_of, start_refusal}
use Rattle.reading.specs.Layout.{table_length, settings_offset, gatherer_offset, gatherer_widths, gatherer_length, values_offset, values_widths_with, events_offset_with, events_widths_with}
use Rattle.reading.specs.Layout.{image_length_with}
use Rattle.reading.specs.Image.{table_with}
use Rattle.reading.specs.Restore.{part, settings_part, gatherer_in, values_in_with, events_in_with}
use Rattle.image.specs.SectionsLaws.{Sections, sections-are, sections-join}
use Rattle.image.specs.PassedLaws.{allowed-as, Passed}
use Rattle.conversion.specs.Conversion.{image_as}

module _ (from to : ℕ) (b : List ℕ) (size : length b ≡ image_length_with from) where
  abbrev pub other : List ℕ
  other = image_as from to b

  -- the bodies that are written with other widths
  abbrev pub values_as : List ℕ
  values_as = row (values_widths_with to) (values_in_with from b)

  abbrev pub events_as : List ℕ
  events_as = row (events_widths_with to) (events_in_with from b)

  pub values-long : length values_as ≡ total (values_widths_with to)
  values-long = length-row (values_widths_with to) (values_in_with from b) (length-numbers_in (values_widths_with from) (part values_offset (total (values_widths_with from)) b))

  events-long : length events_as ≡ total (events_widths_with to)
  events-long = length-row (events_widths_with to) (events_in_with from b) (length-numbers_in (events_widths_with from) (part (events_offset_with from) (total (events_widths_with from)) b))

  part-long : (offset n : ℕ) → offset + n ≤ image_length_with from → length (part offset n b) ≡ n
  part-long offset n h = simp (length-take, length-drop) (omega arith)

  pub sections-as : Sections to other (table_with to) (settings_part b) (part gatherer_offset gatherer_length b) values_as events_as
  sections-as =
      sections-are to other (table_with to) (settings_part b) (part gatherer_offset gatherer_length b) values_as events_as refl refl
      (part-long settings_offset settings_length (omega arith)) (part-long gatherer_offset gatherer_length (omega arith)) values-long events-long

  pub length-image_as : length other ≡ image_length_with to
  length-image_as =
      let four = length-append (part gatherer_offset gatherer_length b) (values_as ++ events_as) in
      let three = length-append (settings_part b) (part gatherer_offset gatherer_length b ++ (values_as ++ events_as)) in
      omega (
        arith,
        three,
        four,
        length-append values_as events_as,
        values-long,
        events-long,
        part-long settings_offset settings_length (omega arith),
        part-long gatherer_offset gatherer_length (omega arith),
      )

  -- the same numbers
  module _ (values-fit : Fit (values_widths_with to) (values_in_with from b)) (events-fit : Fit (events_widths_with to) (events_in_with from b)) where
    pub same-values : values_in_with to other ≡ values_in_with from b
    same-values = ap (numbers_in (values_widths_with to)) sections-as.values-part ∙ numbers_in-row (values_widths_with to) (values_in_with from b) values-fit

    pub same-events : events_in_with to other ≡ events_in_with from b
    same-events = ap (numbers_in (events_widths_with to)) sections-as.events-part ∙ numbers_in-row (events_widths_with to) (events_in_with from b) events-fit

    pub same-gatherer : gatherer_in other ≡ gatherer_in b
    same-gatherer = ap (numbers_in gatherer_widths) sections-as.gatherer-part

    -- accepted, the one as the other
    pub other-passed : Passed from b → Passed to other
    other-passed p = record {
      size = length-image_as;
      contents = sections-as.contents-part;
      start = ap start_refusal sections-as.settings-part ∙ p.start;
      allowed = allowed-as (ap settings_of (sym sections-as.settings-part)) (sym same-gatherer) (sym same-values) (sym same-events) p.allowed;
    }

    pub from-other : part 0 table_length b ≡ table_with from → Passed to other → Passed from b
    from-other contents p = record {
      size = size;
      contents = contents;
      start = ap start_refusal (sym sections-as.settings-part) ∙ p.start;
      allowed = allowed-as (ap settings_of sections-as.settings-part) same-gatherer same-values same-events p.allowed;
    }

    -- and back
    module _ (are : Bytes b) (contents : part 0 table_length b ≡ table_with from) where
      again : (offset : ℕ) (ws : List ℕ) → offset + total ws ≤ image_length_with from → row ws (numbers_in ws (part offset (total ws) b)) ≡ part offset (total ws) b
      again offset ws h = row-numbers_in ws (part offset (total ws) b) (bytes_take (total ws) (drop offset b) (bytes_drop offset b are)) (part-long offset (total ws) h)

      pub image_as-again : image_as to from other ≡ b
      image_as-again =
          (λ i. table_with from
          ++ (sections-as.settings-part i
          ++ (sections-as.gatherer-part i ++ (row (values_widths_with from) (same-values i) ++ row (events_widths_with from) (same-events i)))))
          ∙ sections-join from b (table_with from) _ _ _ _ size
          (record {
            contents-part = contents;
            settings-part = refl;
            gatherer-part = refl;
            values-part = sym (again values_offset (values_widths_with from) (omega arith));
            events-part = sym (again (events_offset_with from) (events_widths_with from) (omega arith));
          })
