-- The laws of the notation: what conjunctions and disjunctions of tests say, two tests of numbers, a mark both ways, and what a chain of refusals answers.
use Rattle.std.specs.Prelude.{◌≡◌, refl, Bool, true, false, not, ◌&&◌, ◌||◌, ℕ, zero, suc, ◌≤◌, ◌<◌}
use Rattle.std.proofs.Common.{sym, ap, arith, ltb-true, ltb-false, le-leb}
use Rattle.std.proofs.lemmas.Bool.{lt-leb}
use Rattle.numbers.specs.Notation.{◌≤ᵇ◌, ◌<ᵇ◌, ◌≡ᵇ◌, flag, refuse◌unless◌then◌}

pub and-true : {a b : Bool} → a ≡ true → b ≡ true → (a && b) ≡ true
and-true p q = λ i. p i && q i

pub and_left : (a b : Bool) → (a && b) ≡ true → a ≡ true
and_left true b e = refl
and_left false b e = e

pub and_right : (a b : Bool) → (a && b) ≡ true → b ≡ true
and_right true b e = e
and_right false b e = let z : ◌≡◌ {A = ℕ} 0 1 = cc in absurd (omega arith)

-- what the first test of a conjunction or a disjunction leaves of it
pub and-fails : {a : Bool} (b : Bool) → a ≡ false → (a && b) ≡ false
and-fails b e = ap (λ (a : Bool). a && b) e

pub and-passes : {a : Bool} (b : Bool) → a ≡ true → (a && b) ≡ b
and-passes b e = ap (λ (a : Bool). a && b) e

pub or-fails : {a : Bool} (b : Bool) → a ≡ false → (a || b) ≡ b
or-fails b e = ap (λ (a : Bool). a || b) e

pub or-passes : {a : Bool} (b : Bool) → a ≡ true → (a || b) ≡ true
or-passes b e = ap (λ (a : Bool). a || b) e

-- a test that asks for another
pub implied : (a b : Bool) → (not a || b) ≡ true → a ≡ true → b ≡ true
implied true b e p = e
implied false b e p = let z : ◌≡◌ {A = ℕ} 0 1 = cc in absurd (omega arith)

pub imply : (a b : Bool) → (a ≡ true → b ≡ true) → (not a || b) ≡ true
imply true b f = f refl
imply false b f = refl

-- a number is past another where it is not up to it
pub past-not : (a b : ℕ) → (a <ᵇ b) ≡ not (b ≤ᵇ a)
past-not a b = go (a <ᵇ b) refl
  where
    go : (t : Bool) → (a <ᵇ b) ≡ t → t ≡ not (b ≤ᵇ a)
    go true e = ap not (sym (lt-leb b a (ltb-true a b e)))
    go false e = ap not (sym (le-leb b a (ltb-false a b e)))

-- a mark both ways
pub flag-most : (b : Bool) → flag b ≤ 1
flag-most true = omega arith
flag-most false = omega arith

pub flag-none : (b : Bool) → flag b ≡ 0 → b ≡ false
flag-none true e = absurd (omega arith)
flag-none false e = refl

pub flag-back : (b : Bool) → (flag b ≡ᵇ 1) ≡ b
flag-back true = refl
flag-back false = refl

pub back-flag : (x : ℕ) → x ≤ 1 → flag (x ≡ᵇ 1) ≡ x
back-flag zero h = refl
back-flag (suc zero) h = refl
back-flag (suc (suc x)) h = absurd (omega arith)

-- a test that fails gives its refusal, and one that passes gives the rest
pub refuse-fails : (n : ℕ) {t : Bool} (rest : ℕ) → t ≡ false → (refuse n unless t then rest) ≡ n
refuse-fails n rest e = ap (λ (t : Bool). refuse n unless t then rest) e

pub refuse-passes : (n : ℕ) {t : Bool} (rest : ℕ) → t ≡ true → (refuse n unless t then rest) ≡ rest
refuse-passes n rest e = ap (λ (t : Bool). refuse n unless t then rest) e

-- where nothing is refused, the test passed and the rest refuses nothing
pub refuse-none : (n : ℕ) (t : Bool) (rest : ℕ) → 0 < n → (refuse n unless t then rest) ≡ 0 → (t ≡ true) × (rest ≡ 0)
refuse-none n true rest h e = (refl, e)
refuse-none n false rest h e = absurd (omega arith)
