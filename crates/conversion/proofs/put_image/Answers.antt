-- The four parts stand one behind the other: the table, settings and gatherer as they are, the values and the events with their other widths.
use mathlib.Core.Path.{◌≡◌, refl, ◌∙◌, ap, ap₂}
use mathlib.Core.List.{List, ◌++◌, append_assoc}
use Prim.Native.Nat.{ℕ, ◌+◌, ◌-◌, ◌*◌}
use native.Mathlib.Omega.{arith}
use lib.ListN.{length, take, drop, length-append, length-take, length-drop}
use lib.Seq.{take-add, drop-drop}
use borrow.Rule.Slice.PartMut.{put_mid, mid_len, same_len_mid}
use Rattle.octets.specs.Bytes.{row, numbers_in, total}
use Rattle.octets.specs.PartsLaws.{put_next, put_last}
use Rattle.reading.specs.Layout.{gatherer_offset, gatherer_length, values_widths_with, events_offset_with, events_widths_with, image_length_with}
use Rattle.reading.specs.Image.{table_with}
use Rattle.reading.specs.Restore.{part, settings_part}
use Rattle.conversion.specs.Conversion.{image_as}
use Rattle.conversion.specs.ImageAsLaws.{values_as, events_as, values-long}
use Rattle.conversion.proofs.put_image.Goals as goal

-- settings and gatherer stand side by side
two-parts : (b : List ℕ) → take 68 (drop 32 b) ≡ settings_part b ++ part gatherer_offset gatherer_length b
two-parts b = take-add 36 32 (drop 32 b) ∙ ap (λ (l : List ℕ). settings_part b ++ take 32 l) (drop-drop 36 32 b)

nested : (t a g v e : List ℕ) → ((t ++ (a ++ g)) ++ v) ++ e ≡ t ++ (a ++ (g ++ (v ++ e)))
nested t a g v e = simp append_assoc

module _ (from to : ℕ) (b p : List ℕ) (size : length b ≡ image_length_with from) (room : length p ≡ image_length_with to) where
  -- parts end where code says so: the k are lengths of parts of the output, the j of the image; `at` and `other` are where the events begin
  image-put : (k₂ k₃ j₂ j₃ at other : ℕ) (y₀ y₁ y₂ y₃ : List ℕ) → k₂ ≡ to + 600 → k₃ ≡ 5 * to + 40 → j₂ ≡ from + 600 → j₃ ≡ 5 * from + 40 →
      at ≡ events_offset_with from → other ≡ events_offset_with to →
      y₀ ≡ table_with to → y₁ ≡ take 68 (drop 32 b) →
      y₂ ≡ row (values_widths_with to) (numbers_in (values_widths_with from) (take j₂ (drop 100 b))) →
      y₃ ≡ row (events_widths_with to) (numbers_in (events_widths_with from) (take j₃ (drop at b))) →
      put_mid other k₃ (put_mid 100 k₂ (put_mid 32 68 (put_mid 0 32 p y₀) y₁) y₂) y₃ ≡ image_as from to b
  image-put k₂ k₃ j₂ j₃ at other y₀ y₁ y₂ y₃ k₂-is k₃-is j₂-is j₃-is at-is other-is e₀ e₁ e₂ e₃ =
      let sections = settings_part b ++ part gatherer_offset gatherer_length b in
      let values = values_as from to b size in
      let j₃-total : j₃ ≡ total (events_widths_with from) = omega arith in
      let y₁-is : y₁ ≡ sections = e₁ ∙ two-parts b in
      let y₂-is : y₂ ≡ values = e₂ ∙ ap (λ (n : ℕ). row (values_widths_with to) (numbers_in (values_widths_with from) (take n (drop 100 b)))) j₂-is in
      let y₃-is : y₃ ≡ events_as from to b size =
      e₃ ∙ ap₂ (λ (n o : ℕ). row (events_widths_with to) (numbers_in (events_widths_with from) (take n (drop o b)))) j₃-total at-is in
      let l₀ : length y₀ ≡ 32 = ap length e₀ in
      let l₁ : length y₁ ≡ 68 = ap length e₁ ∙ simp (length-take, length-drop) (omega arith) in
      let n₁ : length (y₀ ++ y₁) ≡ 100 = length-append y₀ y₁ ∙ omega arith in
      let n₂ : length ((y₀ ++ y₁) ++ y₂) ≡ other = length-append (y₀ ++ y₁) y₂ ∙ omega (arith, ap length y₂-is, values-long from to b size) in
      let p₁ = put_next 32 68 (put_mid 0 32 p y₀) y₀ (drop 32 p) y₁ refl l₀ in
      let p₂ = put_next 100 k₂ _ (y₀ ++ y₁) (drop 68 (drop 32 p)) y₂ p₁ n₁ in
      let p₃ = put_last other k₃ _ ((y₀ ++ y₁) ++ y₂) (drop k₂ (drop 68 (drop 32 p))) y₃ p₂ n₂ (simp length-drop (omega arith)) in
      p₃
      ∙ ((λ i. ((e₀ i ++ y₁-is i) ++ y₂-is i) ++ y₃-is i)
      ∙ nested (table_with to) (settings_part b) (part gatherer_offset gatherer_length b) values (events_as from to b size))

pub put_events-requires : goal.put_events-requires
put_events-requires c =
    let out = c.args.output.now in
    let values = 100 + c.args.to.width + 600 in
    let one = put_mid 0 32 out c.put_table.new.part in
    let two = put_mid 32 68 one c.copy_from_slice.new.self in
    let first = same_len_mid 0 32 out c.put_table.new.part c.put_table.auto.part in
    let second = same_len_mid 32 68 one c.copy_from_slice.new.self c.copy_from_slice.auto.self in
    let third = same_len_mid 100 (values - 100) two c.put_values.new.part c.put_values.auto.part in (
      simp (length-take, length-drop) (omega (arith, c.requires.0)),
      mid_len values (values + 5 * c.args.to.width + 40) _ (omega (arith, third ∙ (second ∙ first), c.requires.1)) ∙ omega arith,
    )

pub returns : goal.returns
returns c =
    let a = c.args in
    let at = 100 + a.from.width + 600 in
    let other = 100 + a.to.width + 600 in
    image-put a.from.width a.to.width a.image.now a.output.now c.requires.0 c.requires.1
    (other - 100) (other + 5 * a.to.width + 40 - other) (at - 100) (at + 5 * a.from.width + 40 - at) at other _ _ _ _
    (omega arith) (omega arith) (omega arith) (omega arith) (omega arith) (omega arith)
    c.put_table.ensures c.copy_from_slice.ensures.after c.put_values.ensures c.put_events.ensures
