-- A rule's test passes exactly where the rule holds.
use Rattle.std.specs.Prelude.{◌≡◌, refl, ◌⊎◌, Bool, true, false, not, ◌||◌, List, [], ◌∷◌, ℕ, zero, suc, ◌≤◌, get_or}
use Rattle.std.proofs.Common.{sym, ◌∙◌, true≢false, arith, eqb-true, eq-eqb, leb-true, le-leb, ltb-true, lt-ltb}
use Rattle.std.proofs.Math.Logic.◌⊎◌.{inl, inr}
use Rattle.std.specs.Bool.{beq as iff}
use Rattle.std.proofs.lemmas.Bool.{not-true, not-false}
use Rattle.numbers.specs.Notation.{◌≤ᵇ◌, ◌≡ᵇ◌, all}
use Rattle.numbers.specs.NotationLaws.{and-true, and_left, and_right, implied, imply}
use Rattle.numbers.specs.Rules.{Rule, passes, Holds}
use Rattle.numbers.specs.Rules.Rule.{◌≤ʳ◌, ◌<ʳ◌, ◌≡ʳ◌, all_up_to, all_zero, ◌and◌, ◌or◌, ◌implies◌, ◌exactly-when◌}

-- every number of a list
all-at : (b : ℕ) (l : List ℕ) → all (◌≤ᵇ b) l ≡ true → (i : ℕ) → get_or l i 0 ≤ b
all-at b [] e i = omega arith
all-at b (x ∷ l) e zero = leb-true x b (and_left (x ≤ᵇ b) (all (◌≤ᵇ b) l) e)
all-at b (x ∷ l) e (suc i) = all-at b l (and_right (x ≤ᵇ b) (all (◌≤ᵇ b) l) e) i

at_all : (b : ℕ) (l : List ℕ) → ((i : ℕ) → get_or l i 0 ≤ b) → all (◌≤ᵇ b) l ≡ true
at_all b [] p = refl
at_all b (x ∷ l) p = and-true (le-leb x b (p 0)) (at_all b l (λ i. p (suc i)))

zero-at : (l : List ℕ) → all (◌≡ᵇ 0) l ≡ true → (i : ℕ) → get_or l i 0 ≡ 0
zero-at [] e i = refl
zero-at (x ∷ l) e zero = eqb-true x 0 (and_left (x ≡ᵇ 0) (all (◌≡ᵇ 0) l) e)
zero-at (x ∷ l) e (suc i) = zero-at l (and_right (x ≡ᵇ 0) (all (◌≡ᵇ 0) l) e) i

at_zero : (l : List ℕ) → ((i : ℕ) → get_or l i 0 ≡ 0) → all (◌≡ᵇ 0) l ≡ true
at_zero [] p = refl
at_zero (x ∷ l) p = and-true (eq-eqb x 0 (p 0)) (at_zero l (λ i. p (suc i)))

-- two tests that agree
iff-left : (a b : Bool) → iff a b ≡ true → a ≡ true → b ≡ true
iff-left true true e p = refl
iff-left true false e p = e
iff-left false b e p = absurd (true≢false (sym p))

iff-right : (a b : Bool) → iff a b ≡ true → b ≡ true → a ≡ true
iff-right true b e p = refl
iff-right false true e p = e
iff-right false false e p = p

iff-both : (a b : Bool) → (a ≡ true → b ≡ true) → (b ≡ true → a ≡ true) → iff a b ≡ true
iff-both true true f g = refl
iff-both true false f g = f refl
iff-both false true f g = g refl
iff-both false false f g = refl

-- one test or the other
one : {A B : Type 0} (a b : Bool) → (a ≡ true → A) → (b ≡ true → B) → (a || b) ≡ true → A ⊎ B
one true b f g e = inl (f refl)
one false b f g e = inr (g e)

some : {A B : Type 0} (a b : Bool) → (A → a ≡ true) → (B → b ≡ true) → A ⊎ B → (a || b) ≡ true
some true b f g h = refl
some false b f g (inl x) = absurd (true≢false (sym (f x)))
some false b f g (inr y) = g y

-- a rule both ways
record Agree (r : Rule) : Type 0 where
  down : passes r ≡ true → Holds r
  up : Holds r → passes r ≡ true

agree : (r : Rule) → Agree r
agree (a ≤ʳ b) = record { down = leb-true a b; up = le-leb a b }
agree (a <ʳ b) = record { down = ltb-true a b; up = lt-ltb a b }
agree (a ≡ʳ b) = record { down = eqb-true a b; up = eq-eqb a b }
agree (all_up_to b l) = record { down = all-at b l; up = at_all b l }
agree (all_zero l) = record { down = zero-at l; up = at_zero l }
agree (p and q) = record {
  down = λ e. ((agree p).down (and_left (passes p) (passes q) e), (agree q).down (and_right (passes p) (passes q) e));
  up = λ h. and-true ((agree p).up h.0) ((agree q).up h.1);
}
agree (p or q) = record { down = one (passes p) (passes q) (agree p).down (agree q).down; up = some (passes p) (passes q) (agree p).up (agree q).up }
agree (p implies q) = record {
  down = λ e h. (agree q).down (implied (passes p) (passes q) e ((agree p).up h));
  up = λ f. imply (passes p) (passes q) (λ e. (agree q).up (f ((agree p).down e)));
}
agree (p exactly-when q) = record {
  down = λ e. (λ h. (agree q).down (iff-left (passes p) (passes q) e ((agree p).up h)), λ h. (agree p).down (iff-right (passes p) (passes q) e ((agree q).up h)));
  up = λ f. iff-both (passes p) (passes q) (λ e. (agree q).up (f.0 ((agree p).down e))) (λ e. (agree p).up (f.1 ((agree q).down e)));
}

pub holds : (r : Rule) → passes r ≡ true → Holds r
holds r = (agree r).down

pub passed : (r : Rule) → Holds r → passes r ≡ true
passed r = (agree r).up

-- what a test in code shows: that a rule is broken, or that it answers as the rule's own test
pub broken : (r : Rule) → (Holds r → ⊥) → false ≡ passes r
broken r h = go (passes r) refl
  where
    go : (b : Bool) → passes r ≡ b → false ≡ b
    go true e = absurd (h (holds r e))
    go false e = refl

pub decides : (r : Rule) (b : Bool) → (b ≡ true → Holds r) → (Holds r → b ≡ true) → b ≡ passes r
decides r true f g = sym (passed r (f refl))
decides r false f g = broken r (λ h. true≢false (sym (g h)))

-- a call answered b, the test of a rule, and `if !b` was tested
pub answered-no : (r : Rule) {b : Bool} → b ≡ passes r → not b ≡ true → Holds r → ⊥
answered-no r {b} e t h = true≢false (sym (passed r h) ∙ (sym e ∙ not-true b t))

pub answered-yes : (r : Rule) {b : Bool} → b ≡ passes r → not b ≡ false → Holds r
answered-yes r {b} e t = holds r (sym e ∙ not-false b t)
