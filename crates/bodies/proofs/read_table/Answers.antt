-- `==` of bytes is the reading's test of them, pair by pair; and the bytes that `put_table` writes are the table.
use mathlib.Core.Path.{◌≡◌, refl, sym, ◌∙◌, ap}
use mathlib.Core.Bool.{Bool, ◌&&◌}
use mathlib.Core.List.{List, [], ◌∷◌}
use Prim.Native.Nat.{ℕ}
use lib.Dec.{eqb}
use lib.Pointwise.{pointwise}
use Rattle.numbers.specs.Notation.{◌≡ᵇ◌, refuse◌unless◌then◌}
use Rattle.reading.specs.Image.{table_with}
use Rattle.reading.specs.Restore.{same_bytes}
use Rattle.numbers.specs.Answers.{Answered, answered}
use Rattle.bodies.specs.Bodies.{table_answer}
use Rattle.bodies.proofs.read_table.Goals as goal

pairs_same : (xs ys : List ℕ) → pointwise eqb xs ys ≡ same_bytes xs ys
pairs_same [] [] = refl
pairs_same [] (y ∷ ys) = refl
pairs_same (x ∷ xs) [] = refl
pairs_same (x ∷ xs) (y ∷ ys) = ap ((x ≡ᵇ y) &&◌) (pairs_same xs ys)

abbrev told_by : Bool → Answered (Unit {0})
told_by r = answered (refuse 9 unless r then 0) tt

told : (n : ℕ) (part written ys : List ℕ) (r : Bool) → r ≡ pointwise eqb part ys → ys ≡ written → written ≡ table_with n → told_by r ≡ table_answer n part
told n part written ys r e taken is =
    (λ i. told_by (e i)) ∙ ((λ i. told_by (pointwise eqb part (taken i))) ∙ ((λ i. told_by (pairs_same part written i)) ∙ (λ i. told_by (same_bytes part (is i)))))

pub returns-then-eq : goal.returns-then-eq
returns-then-eq c =
    (λ i. told_by (sym c.if-eq.true i))
    ∙ told c.args.count_width c.args.part.now _ _ c.eq.result c.eq.ensures c.as_slice.ensures c.put_table.ensures

pub returns-else-eq : goal.returns-else-eq
returns-else-eq c =
    (λ i. told_by (sym c.if-eq.false i))
    ∙ told c.args.count_width c.args.part.now _ _ c.eq.result c.eq.ensures c.as_slice.ensures c.put_table.ensures
