-- V, the values and the marks are the body's numbers.
use mathlib.Core.Path.{◌≡◌, refl, sym, ◌∙◌, ap, ap₂}
use mathlib.Core.List.{List, [], ◌∷◌, ◌++◌}
use Prim.Native.Nat.{ℕ, ◌-◌}
use native.Mathlib.Omega.{arith}
use lib.ListN.{length, take, drop, replicate, take-append-drop, length-take, length-drop}
use lib.Seq.{take_all, take_at, drop_at, drop-drop, take-append-le, drop-append-le}
use Rattle.octets.specs.Bytes.{number_of, numbers_in, total}
use Rattle.octets.specs.RowLaws.{length-numbers_in, numbers_in-append, numbers_in-ones}
use Rattle.reading.specs.Layout.{count_width, places, values_widths, values_length}
use Rattle.bodies.specs.Bodies.{marks_at, window_from}
use Rattle.bodies.proofs.read_places.Goals as goal

-- bytes behind those of a row leave its numbers
numbers_in-front : (ws b rest : List ℕ) → length b ≡ total ws → numbers_in ws (b ++ rest) ≡ numbers_in ws b
numbers_in-front [] b rest e = refl
numbers_in-front (w ∷ ws) b rest e =
    ap₂ ◌∷◌
    (ap number_of (take-append-le w b rest (omega arith)))
    (ap (numbers_in ws) (drop-append-le w b rest (omega arith)) ∙ numbers_in-front ws (drop w b) rest (simp length-drop (omega arith)))

module _ (body : List ℕ) (size : length body ≡ values_length) where
  abbrev words : List ℕ
  words = take (marks_at - count_width) (drop count_width body)

  abbrev rest : List ℕ
  rest = drop marks_at body

  words_are : numbers_in (replicate places 4) words ≡ numbers_in (replicate places 4) (drop count_width body)
  words_are =
      sym (numbers_in-front (replicate places 4) words (drop (marks_at - count_width) (drop count_width body)) (simp (length-take, length-drop) (omega arith)))
      ∙ ap (numbers_in (replicate places 4)) (take-append-drop (marks_at - count_width) (drop count_width body))

  marks_are : take (values_length - marks_at) rest ≡ numbers_in (replicate places 1) (drop (marks_at - count_width) (drop count_width body))
  marks_are =
      let long : length rest ≡ places = simp length-drop (omega arith) in
      let ones : numbers_in (replicate places 1) rest ≡ rest = rw long at (numbers_in-ones rest) in
      take_all (values_length - marks_at) rest (omega arith) ∙ (sym ones ∙ ap (numbers_in (replicate places 1)) (sym (drop-drop (marks_at - count_width) count_width body)))

  numbers-are : number_of (take count_width body) ∷ (numbers_in (replicate places 4) words ++ take (values_length - marks_at) rest) ≡ numbers_in values_widths body
  numbers-are =
      ap (number_of (take count_width body) ∷◌)
      (ap₂ ◌++◌ words_are marks_are ∙ sym (numbers_in-append (replicate places 4) (replicate places 1) (drop count_width body)))

  window-is : {v : ℕ} {w marks : List ℕ} → v ≡ number_of (take count_width body) → w ≡ numbers_in (replicate places 4) words → marks ≡ take (values_length - marks_at) rest
      → record { count = v; window = w; marks = marks } ≡ window_from (numbers_in values_widths body)
  window-is {v} {w} {marks} v-is w-is marks-is =
      let are : v ∷ (w ++ marks) ≡ numbers_in values_widths body = (λ i. v-is i ∷ (w-is i ++ marks-is i)) ∙ numbers-are in
      let long : length w ≡ places = ap length w-is ∙ length-numbers_in (replicate places 4) words in
      let window_is = sym (take_at w marks places long) in
      let marks_are = sym (drop_at w marks places long) in
      (λ i. record { count = v; window = window_is i; marks = marks_are i }) ∙ ap window_from are

pub returns : goal.returns
returns c = window-is c.args.part.now c.requires c.number.ensures c.get_words.ensures c.copy_from_slice.ensures.after
