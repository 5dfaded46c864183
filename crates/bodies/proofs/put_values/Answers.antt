-- V, the values and the marks stand in the three parts, one behind the other; marks are one byte each, and so their own row.
use mathlib.Core.Path.{◌≡◌, refl, sym, ◌∙◌, ap}
use mathlib.Core.List.{List, ◌∷◌, ◌++◌}
use Prim.Native.Nat.{ℕ, ◌-◌}
use native.Mathlib.Omega.{arith}
use lib.ListN.{length, drop, replicate, length-drop}
use borrow.Rule.Slice.PartMut.{put_mid}
use Rattle.octets.specs.Bytes.{Bytes, bytes_of, row, fours}
use Rattle.octets.specs.BytesLaws.{bytes-by}
use Rattle.octets.specs.RowLaws.{length-row, row-append, row-ones}
use Rattle.octets.specs.PartsLaws.{put_next, put_last, bytes_of-part}
use Rattle.reading.specs.Layout.{count_width, places, values_widths, values_length}
use Rattle.bodies.specs.Bodies.{marks_at}
use Rattle.bodies.proofs.put_values.Goals as goal

module _ (w marks : List ℕ) (values-size : length w ≡ places) (marks-size : length marks ≡ places) where
  both-rows : Bytes marks → row (replicate places 4) w ++ marks ≡ row (replicate places 4 ++ replicate places 1) (w ++ marks)
  both-rows are =
      let ones : row (replicate places 1) marks ≡ marks = rw marks-size at (row-ones marks are) in
      sym (row-append (replicate places 4) (replicate places 1) w marks values-size ∙ ap (row (replicate places 4) w ++◌) ones)

  values-put : (p : List ℕ) (v : ℕ) (y₁ y₂ y₃ : List ℕ) → length p ≡ values_length → Bytes marks → y₁ ≡ bytes_of count_width v → y₂ ≡ row (fours w) w → y₃ ≡ marks →
      put_mid marks_at (values_length - marks_at) (put_mid count_width (marks_at - count_width) (put_mid 0 count_width p y₁) y₂) y₃ ≡ row values_widths (v ∷ (w ++ marks))
  values-put p v y₁ y₂ y₃ size are e₁ e₂ e₃ =
      let values = row (replicate places 4) w in
      let two = bytes_of count_width v ++ values in
      let rest = drop (marks_at - count_width) (drop count_width p) in
      let e₂₄ : y₂ ≡ values = e₂ ∙ ap (λ (n : ℕ). row (replicate n 4) w) values-size in
      let long : length two ≡ marks_at = omega (arith, length-row (replicate places 4) w values-size) in
      let in_place = put_next count_width (marks_at - count_width) (put_mid 0 count_width p (bytes_of count_width v)) (bytes_of count_width v) (drop count_width p) values refl refl in
      (λ i. put_mid marks_at (values_length - marks_at) (put_mid count_width (marks_at - count_width) (put_mid 0 count_width p (e₁ i)) (e₂₄ i)) (e₃ i))
      ∙ (put_last marks_at (values_length - marks_at) _ two rest marks in_place long (simp length-drop (omega arith))
      ∙ ap (bytes_of count_width v ++◌) (both-rows are))

pub returns : goal.returns
returns c =
    let a = c.args in
    values-put a.window.now a.marks.now c.told-window c.told-marks a.part.now a.count _ _ _ c.requires
    (bytes-by a.marks.now (λ i. omega (arith, c.fits-marks i)))
    (bytes_of-part 0 count_width a.count a.part.now _ (omega arith) c.put_number.ensures)
    c.put_words.ensures
    c.copy_from_slice.ensures.after
