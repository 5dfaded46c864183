-- Samples that are fed from a place on, and chunks: laws that follow from those of a turn and of samples that are all taken.
use Rattle.std.specs.Prelude.{◌≡◌, ◌≢◌, Bool, ◌&&◌, ℕ, ◌+◌, ◌-◌, ◌*◌, ◌≤◌, ◌<◌, drop, if◌then◌else◌}
use Rattle.std.proofs.Math.Path.{refl, subst}
use Rattle.std.proofs.Common.{sym, ◌∙◌, ap, length-drop, drop-drop, eqb-true, ne_eqb}
use Rattle.std.proofs.lemmas.Bool.{eqb-false}
use Rattle.std.proofs.Math.Bool.{true, false}
use mathlib.Core.List.{List}
use native.Mathlib.Omega.{arith}
use Rattle.std.proofs.Math.ListN.{length}
use Rattle.numbers.specs.Notation.{◌≡ᵇ◌}
use Rattle.reading.specs.Told.{Told}
use Rattle.reading.specs.Calls.{Outcome}
use Rattle.reading.specs.Layout.{record_length}
use Rattle.greedy.specs.Greedy.{Machine, fed_into}
use Rattle.greedy.proofs.ToldLaws.{ToldWithin}
use Rattle.greedy.specs.AllFed.{fed_all_by}
use Rattle.greedy.proofs.AllFedLaws.{rest_by, Turn, turn, falls}

-- the samples left to feed, and one more while there is a feed to come
abbrev pub to_feed : {X : Type 0} → List X → ℕ → ℕ → ℕ
to_feed xs at why = length xs - at + (if why ≡ᵇ 1 then 1 else 0)

module _ {X St : Type 0} (M : Machine X St) where
  pub rest-none : (xs : List X) (st : St) (n why : ℕ) → why ≢ 1 → rest_by M xs st n why ≡ record { after = st; why = why }
  rest-none xs st n why other = rw (ne_eqb why 1 other)

  -- a turn from a place on: a feed of the samples behind it, with room for what it writes; it leaves the rest to take, and with room for four records it is progress
  pub record TurnFrom (xs : List X) (at : ℕ) (lent : List ℕ) (st end : St) (told : Told) : Type 0 where
    pub fits : record_length * told.written ≤ length lent
    pub inside : at ≤ length xs → at + told.taken ≤ length xs
    pub rest : fed_all_by M st (drop at xs) ≡ rest_by M xs end (at + told.taken) told.why
    pub less : at ≤ length xs → 4 * record_length ≤ length lent → to_feed xs (at + told.taken) told.why < to_feed xs at 1

  module _ (xs : List X) (at : ℕ) (lent : List ℕ) (st : St) {o : Outcome St} (within : ToldWithin 4 (drop at xs) lent (fed_into M st (drop at xs) lent).told)
      (fed : o ≡ fed_into M st (drop at xs) lent) where
    of-rest : Turn M (drop at xs) lent st o.after o.told
    of-rest = turn M (drop at xs) lent st within fed

    turn_inside : at ≤ length xs → at + o.told.taken ≤ length xs
    turn_inside inside = omega (arith, of-rest.inside, length-drop at xs)

    turn-rest : (b : Bool) → (o.told.why ≡ᵇ 1) ≡ b
        → fed_all_by M st (drop at xs) ≡ (if b then fed_all_by M o.after (drop (at + o.told.taken) xs) else record { after = o.after; why = o.told.why })
    turn-rest true e = of-rest.rest (eqb-true o.told.why 1 e) ∙ ap (λ (l : List X). fed_all_by M o.after l) (drop-drop o.told.taken at xs)
    turn-rest false e = sym (of-rest.last (eqb-false o.told.why 1 e))

    turn-less : at ≤ length xs → 4 * record_length ≤ length lent → to_feed xs (at + o.told.taken) o.told.why < to_feed xs at 1
    turn-less inside four = go (o.told.why ≡ᵇ 1) refl
      where
        go : (b : Bool) → (o.told.why ≡ᵇ 1) ≡ b → length xs - (at + o.told.taken) + (if b then 1 else 0) < length xs - at + 1
        go true e = omega (arith, of-rest.some (eqb-true o.told.why 1 e) four, turn_inside inside)
        go false e = omega arith

    pub turn-from : TurnFrom xs at lent st o.after o.told
    turn-from = record { fits = of-rest.fits; inside = turn_inside; rest = turn-rest (o.told.why ≡ᵇ 1) refl; less = turn-less }

-- what is left while there is more
abbrev pub left_while : {St : Type 0} → (St → ℕ) → Bool → St → ℕ
left_while left more st = if more then 1 + left st else 0

-- chunks, where each sample that is taken leaves the state inside and lowers what is left
module _ {X St : Type 0} (M : Machine X St) (left : St → ℕ) (Inside : St → Type 0)
    (left-next : (st : St) (x : X) → Inside st → M.at_end st x ≡ false → Inside (M.next st x) × (left (M.next st x) < left st)) where
  -- a chunk that is taken whole, where there is more behind a chunk of `whole` bytes only
  pub chunk-falls : (xs : List X) (st end : St) (why whole got : ℕ) (good more : Bool) → Inside st → record { after = end; why = why } ≡ fed_all_by M st xs
      → (got ≡ whole → 0 < length xs) → more ≡ (good && got ≡ᵇ whole && why ≡ᵇ 0) → left_while left more end < left_while left true st
  chunk-falls xs st end why whole got good more inside is some more-is = rw more-is (go good (got ≡ᵇ whole) (why ≡ᵇ 0) refl refl)
    where
      go : (g a b : Bool) → (got ≡ᵇ whole) ≡ a → (why ≡ᵇ 0) ≡ b → left_while left (g && a && b) end < left_while left true st
      go false a b p q = omega arith
      go true false b p q = omega arith
      go true true false p q = omega arith
      go true true true p q =
          let all = subst (λ (n : ℕ). record { after = end; why = n } ≡ fed_all_by M st xs) (eqb-true why 0 q) is in
          omega (arith, falls M left Inside left-next xs st end inside (some (eqb-true got whole p)) all)
