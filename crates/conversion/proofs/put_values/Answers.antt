-- V is written with its new width, and the places behind it are the row that they were.
use mathlib.Core.Path.{◌≡◌, refl, sym, ◌∙◌, ap, ap₂}
use mathlib.Core.List.{List, ◌++◌}
use Prim.Native.Nat.{ℕ, ◌+◌, ◌-◌}
use native.Mathlib.Omega.{arith}
use lib.ListN.{length, take, drop, replicate, length-drop}
use lib.Seq.{take_all}
use borrow.Rule.Slice.PartMut.{put_mid}
use Rattle.octets.specs.Bytes.{Bytes, bytes_of, number_of, row, numbers_in, total}
use Rattle.octets.specs.BytesLaws.{bytes-by, bytes_drop, length-bytes_of}
use Rattle.octets.specs.RowLaws.{row-numbers_in}
use Rattle.octets.specs.PartsLaws.{put_last, bytes_of-part}
use Rattle.reading.specs.Layout.{places, values_widths_with}
use Rattle.conversion.proofs.put_values.Goals as goal

-- the widths behind V
abbrev places_widths : List ℕ
places_widths = replicate places 4 ++ replicate places 1

module _ (values : List ℕ) (from : ℕ) (size : length values ≡ total (values_widths_with from)) (are : Bytes values) where
  rest-again : row places_widths (numbers_in places_widths (drop from values)) ≡ drop from values
  rest-again = row-numbers_in places_widths (drop from values) (bytes_drop from values are) (simp length-drop (omega arith))

  -- the parts end where code says so: k₁ is `to`, j₁ is `from`, k₂ and j₂ are the length of the places
  values-put : (to k₁ k₂ j₁ j₂ : ℕ) (p y₁ y₂ : List ℕ) → length p ≡ total (values_widths_with to) → k₁ ≡ to → j₁ ≡ from → k₂ ≡ 600 → j₂ ≡ 600 →
      y₁ ≡ bytes_of k₁ (number_of (take j₁ values)) → y₂ ≡ take j₂ (drop from values) →
      put_mid to k₂ (put_mid 0 k₁ p y₁) y₂ ≡ row (values_widths_with to) (numbers_in (values_widths_with from) values)
  values-put to k₁ k₂ j₁ j₂ p y₁ y₂ p-size k₁-is j₁-is k₂-is j₂-is e₁ e₂ =
      let v = number_of (take from values) in
      let rest : y₂ ≡ drop from values = e₂ ∙ take_all j₂ (drop from values) (simp length-drop (omega arith)) in
      let first : y₁ ≡ bytes_of to v = e₁ ∙ ap₂ (λ (k j : ℕ). bytes_of k (number_of (take j values))) k₁-is j₁-is in
      ap₂ (λ (k : ℕ) (b : List ℕ). put_mid to k₂ (put_mid 0 k p y₁) b) k₁-is rest
      ∙ (ap (λ (b : List ℕ). put_mid to k₂ (put_mid 0 to p b) (drop from values)) first
      ∙ (put_last to k₂ (put_mid 0 to p (bytes_of to v)) (bytes_of to v) (drop to p) (drop from values) refl (length-bytes_of to v) (simp length-drop (omega arith))
      ∙ ap (λ (b : List ℕ). bytes_of to v ++ b) (sym rest-again)))

pub returns : goal.returns
returns c =
    let a = c.args in
    values-put a.values.now a.from.width c.requires.0 (bytes-by a.values.now (λ i. omega (arith, c.type_inv.values i)))
    a.to.width (a.to.width - 0) (a.to.width + 600 - a.to.width) (a.from.width - 0) (a.from.width + 600 - a.from.width) a.part.now _ _ c.requires.1
    (omega arith) (omega arith) (omega arith) (omega arith)
    (bytes_of-part 0 (a.to.width - 0) c.number.result a.part.now _ (omega arith) c.put_number.ensures
    ∙ ap (bytes_of (a.to.width - 0)) c.number.ensures)
    c.copy_from_slice.ensures.after
