-- The numbers that are tested are the body's, so that `values_good` answers the reading's test of them.
use mathlib.Core.Path.{◌≡◌, sym, ◌∙◌, ap}
use mathlib.Core.Bool.{Bool}
use mathlib.Core.List.{List, ◌∷◌, ◌++◌}
use Prim.Native.Nat.{ℕ}
use lib.ListN.{drop, take-append-drop}
use Rattle.octets.specs.Bytes.{numbers_in}
use Rattle.numbers.specs.Notation.{flag, refuse◌unless◌then◌}
use Rattle.numbers.specs.Answers.{answered}
use Rattle.numbers.specs.Rules.{passes}
use Rattle.settings.specs.declared.Settings.{Settings}
use Rattle.settings.specs.Settings.{window_length_of}
use Rattle.reading.specs.Layout.{places, values_widths}
use Rattle.reading.specs.Restore.{values_rule}
use Rattle.bodies.specs.declared.WindowRead.{WindowRead}
use Rattle.bodies.specs.Bodies.{window_from, window_answer}
use Rattle.bodies.proofs.read_window.Goals as goal

module _ (body : List ℕ) where
  abbrev ns : List ℕ
  ns = numbers_in values_widths body

  -- V, the values and the marks, one behind the other, are the numbers that they were taken from
  again : (w : WindowRead) → w ≡ window_from ns → w.count ∷ (w.window ++ w.marks) ≡ ns
  again w is = ap (λ (w : WindowRead). w.count ∷ (w.window ++ w.marks)) is ∙ ap ((window_from ns).count ∷◌) (take-append-drop places (drop 1 ns))

  window-told : (s : Settings) (whole : Bool) {n : ℕ} (w : WindowRead) → w ≡ window_from ns → n ≡ window_length_of s →
      (r : Bool) → r ≡ passes (values_rule n (flag whole) (w.count ∷ (w.window ++ w.marks))) → answered (refuse 11 unless r then 0) w ≡ window_answer s whole body
  unfolding window_answer
  window-told s whole {n} w is n-is r e =
      (λ i. answered (refuse 11 unless e i then 0) (is i))
      ∙ (λ i. answered (refuse 11 unless passes (values_rule (n-is i) (flag whole) (again w is i)) then 0) (window_from ns))

pub returns-then-not-values_good : goal.returns-then-not-values_good
returns-then-not-values_good c =
    ap (λ (b : Bool). answered (refuse 11 unless b then 0) c.read_places-read.result) (sym c.if-not-values_good.true)
    ∙ window-told c.args.part.now c.args.settings c.args.whole c.read_places-read.result c.read_places-read.ensures c.window_length.ensures.0 c.values_good.result c.values_good.ensures

pub returns : goal.returns
returns c =
    ap (λ (b : Bool). answered (refuse 11 unless b then 0) c.read_places-read.result) (sym c.if-not-values_good.false)
    ∙ window-told c.args.part.now c.args.settings c.args.whole c.read_places-read.result c.read_places-read.ensures c.window_length.ensures.0 c.values_good.result c.values_good.ensures
