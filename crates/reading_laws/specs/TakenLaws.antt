-- 01's sentence on feed: the samples taken are allowed, and no greater number is.
use Rattle.std.specs.Prelude.{◌≡◌, refl, Bool, true, false, ◌&&◌, List, ◌++◌, ℕ, zero, suc, ◌≤◌, length, take}
use Rattle.std.proofs.Common.{sym, ◌∙◌, ap, append-nil, arith, leb-true, le-leb}
use Rattle.std.proofs.Math.Decide.{dec_le}
use Rattle.numbers.specs.Notation.{◌≤ᵇ◌}
use Rattle.numbers.specs.NotationLaws.{and-true, and_left}
use Rattle.reading.specs.Feed.{last_value, greatest_to}
use Rattle.reading_laws.specs.Past.{Past, completed_in, within_end_in, allowed_in, taken_in, Grows}
use Rattle.reading_laws.specs.CompletedLaws.{completed-none}

-- the greatest number up to n that passes a test
module _ (test : ℕ → Bool) where
  pub greatest_to-passes : (n : ℕ) → test 0 ≡ true → test (greatest_to test n) ≡ true
  greatest_to-passes zero h = h
  greatest_to-passes (suc n) h = go (test (suc n)) refl (greatest_to-passes n h)
    where
      go : (b : Bool) → test (suc n) ≡ b → test (greatest_to test n) ≡ true → test (elim b [ true ↦ suc n | false ↦ greatest_to test n ]) ≡ true
      go true e older = e
      go false e older = older

  pub greatest_to-most : (n k : ℕ) → k ≤ n → test k ≡ true → k ≤ greatest_to test n
  greatest_to-most zero k h p = h
  greatest_to-most (suc n) k h p = go (test (suc n)) refl (λ l. greatest_to-most n k l p) (dec_le k n)
    where
      go : (b : Bool) → test (suc n) ≡ b → (k ≤ n → k ≤ greatest_to test n) → Dec (k ≤ n) → k ≤ elim b [ true ↦ suc n | false ↦ greatest_to test n ]
      go true e older d = h
      go false e older (yes l) = older l
      go false e older (no f) =
          let same : k ≡ suc n = omega (arith, f) in
          let passes : test (suc n) ≡ true = ap test (sym same) ∙ p in
          let z : ◌≡◌ {A = ℕ} 0 1 = cc in
          absurd (omega arith)

  pub greatest_to-le : (n : ℕ) → greatest_to test n ≤ n
  greatest_to-le zero = omega arith
  greatest_to-le (suc n) = go (test (suc n)) (greatest_to-le n)
    where
      go : (b : Bool) → greatest_to test n ≤ n → elim b [ true ↦ suc n | false ↦ greatest_to test n ] ≤ suc n
      go true older = omega arith
      go false older = omega arith

module _ {X : Type 0} (P : Past X) (rec block : List X) (room : ℕ) where
  -- no greater number is allowed than is taken
  pub taken-greatest : (k : ℕ) → k ≤ length block → allowed_in P rec block room k ≡ true → k ≤ taken_in P rec block room
  taken-greatest k h p = greatest_to-most (allowed_in P rec block room) (length block) k h p

  pub taken-le : taken_in P rec block room ≤ length block
  taken-le = greatest_to-le (allowed_in P rec block room) (length block)

-- a past within V's end
module _ {X : Type 0} {P : Past X} (grows : Grows P) (rec block : List X) (room : ℕ) (within : P.count rec ≤ last_value) where
  -- has none of a block taken, at the least
  none_allowed : allowed_in P rec block room 0 ≡ true
  none_allowed =
      (λ i. P.count (append-nil rec i) ≤ᵇ last_value && length (completed-none grows rec block i) ≤ᵇ room)
      ∙ and-true (le-leb (P.count rec) last_value within) (le-leb 0 room (omega arith))

  -- the samples taken are allowed, and so it stays within
  pub taken-allowed : allowed_in P rec block room (taken_in P rec block room) ≡ true
  taken-allowed = greatest_to-passes (allowed_in P rec block room) (length block) none_allowed

  pub taken-within : P.count (rec ++ take (taken_in P rec block room) block) ≤ last_value
  taken-within =
      let n = taken_in P rec block room in
      leb-true (P.count (rec ++ take n block)) last_value (and_left (within_end_in P rec block n) (length (completed_in P rec block n) ≤ᵇ room) taken-allowed)
