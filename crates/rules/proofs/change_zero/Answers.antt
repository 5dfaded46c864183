-- Four numbers are those of four zeros exactly where each is 0.
use Rattle.std.proofs.Common.{◌≡◌, ℕ, false, List, [], ◌∷◌, length, refl, sym, ◌∙◌, arith, eqb}
use lib.Pointwise.{pointwise}
use Rattle.numbers.specs.Notation.{◌≡ᵇ◌, all}
use Rattle.rules.proofs.change_zero.Goals as goal

zeros : (l : List ℕ) → length l ≡ 4 → pointwise eqb l (0 ∷ 0 ∷ 0 ∷ 0 ∷ []) ≡ all (◌≡ᵇ 0) l
zeros [] e = absurd (omega arith)
zeros (a ∷ []) e = absurd (omega arith)
zeros (a ∷ b ∷ []) e = absurd (omega arith)
zeros (a ∷ b ∷ c ∷ []) e = absurd (omega arith)
zeros (a ∷ b ∷ c ∷ d ∷ []) e = refl
zeros (a ∷ b ∷ c ∷ d ∷ f ∷ l) e = absurd (omega arith)

pub returns-else-eq : goal.returns-else-eq
returns-else-eq c =
    let some : all (◌≡ᵇ 0) c.args.numbers.now ≡ false = sym (zeros c.args.numbers.now c.told-numbers) ∙ sym c.eq.ensures ∙ c.if-eq.false in
    rw some c.if-eq.false
