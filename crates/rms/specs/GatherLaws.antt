-- The laws of the gatherer's steps: a part adds up with the sample before it, what holds of a gatherer is kept, and the value that comes out is small.
use Rattle.std.specs.Prelude.{◌≡◌, ℕ, ◌+◌, ◌*◌, ◌^◌, ◌<◌, ◌≤◌, Bool, true, false, ◌||◌, List, [], ◌∷◌, length, ℤ, refl, if◌then◌else◌}
use Rattle.std.proofs.Common.{sym, ◌∙◌, ap}
use Rattle.std.proofs.Math.Bool.{or_assoc, or-false}
use native.Mathlib.Omega.{arith}
use Rattle.numbers.specs.Notation.{flag}
use Rattle.numbers.specs.NotationLaws.{flag-most, flag-none}
use Rattle.reading.specs.Values.{squares, rms}
use Rattle.reading.specs.Clipping.{any_clipped}
use Rattle.reading_laws.specs.RecordingsLaws.{any_clipped-append, rms-le}
use Rattle.rms.specs.declared.Part.{Part}
use Rattle.rms.specs.declared.Gatherer.{Gatherer}
use Rattle.rms.specs.Gather.{part_of, with_part, with_half, value_with, value_from, ValidGatherer, PartFits}

pub same-gatherer : {a b : Gatherer} → a.count ≡ b.count → a.sum ≡ b.sum → a.last ≡ b.last → a.whole ≡ b.whole → a.clipped ≡ b.clipped
    → a.last_clipped ≡ b.last_clipped → a ≡ b
same-gatherer p q r t u v = λ i. record { count = p i; sum = q i; last = r i; whole = t i; clipped = u i; last_clipped = v i }

-- no sample joins nothing
pub none-joins : (g : Gatherer) → with_part g (part_of []) ≡ g
none-joins g = same-gatherer (omega arith) (omega arith) refl refl (or-false g.clipped) refl

-- one sample, then a part
module _ (g : Gatherer) (x : ℤ) (xs : List ℤ) where
  abbrev next : Gatherer
  next = with_part g (part_of (x ∷ []))

  sum_is : next.sum + squares xs ≡ g.sum + squares (x ∷ xs)
  sum_is = omega arith

  mark_is : (next.clipped || any_clipped xs) ≡ (g.clipped || any_clipped (x ∷ xs))
  mark_is = or_assoc g.clipped (any_clipped (x ∷ [])) (any_clipped xs) ∙ ap (λ (b : Bool). g.clipped || b) (sym (any_clipped-append (x ∷ []) xs))

  pub part-adds : with_part next (part_of xs) ≡ with_part g (part_of (x ∷ xs))
  part-adds = same-gatherer (omega arith) sum_is refl refl mark_is refl

  pub half-adds : with_half next (part_of xs) ≡ with_half g (part_of (x ∷ xs))
  half-adds = λ i. record { count = 0; sum = 0; last = sum_is i; whole = true; clipped = false; last_clipped = mark_is i }

  pub value-with : (m : ℕ) → value_with m next (part_of xs) ≡ value_with m g (part_of (x ∷ xs))
  value-with m = λ i. record { value = rms m g.last (sum_is i); clipped = g.last_clipped || mark_is i }

  pub value-adds : (m : ℕ) → value_from m next (part_of xs) ≡ value_from m g (part_of (x ∷ xs))
  unfolding value_from
  value-adds m = λ i. if g.whole then value-with m i ∷ [] else []

-- what comes out
module _ (m : ℕ) (g : Gatherer) (p : Part) where
  pub value_none : g.whole ≡ false → value_from m g p ≡ []
  unfolding value_from
  value_none w = rw w

  pub value-one : g.whole ≡ true → value_from m g p ≡ value_with m g p ∷ []
  unfolding value_from
  value-one w = rw w

  pub value-most : length (value_from m g p) ≤ 1
  unfolding value_from
  value-most = go g.whole
    where
      go : (b : Bool) → length (if b then value_with m g p ∷ [] else []) ≤ 1
      go true = omega arith
      go false = omega arith

-- a part of samples fits where there is room for them
pub part_of-fits : (m : ℕ) (g : Gatherer) (xs : List ℤ) → squares xs ≤ length xs * 2 ^ 30 → g.count + length xs ≤ m → PartFits m g (part_of xs)
part_of-fits m g xs most h = record { count-le = h; squares-le = most; none-clipped = none xs }
  where
    none : (xs : List ℤ) → length xs ≡ 0 → any_clipped xs ≡ false
    none [] e = refl
    none (x ∷ xs) e = absurd (omega arith)

module _ (m : ℕ) (g : Gatherer) (p : Part) (v : ValidGatherer m g) (fits : PartFits m g p) where
  pub sum-le : g.sum + p.squares ≤ m * 2 ^ 30
  sum-le = omega arith

  pub with_part-valid : g.count + p.count < m → ValidGatherer m (with_part g p)
  with_part-valid h =
      let rest = v.1.1.1.1 in
      (h, (omega arith, (v.1.1.0, (v.1.1.1.0, (rest.0, ((flag-most (g.clipped || p.clipped), none), rest.1.1))))))
    where
      none : g.count + p.count ≡ 0 → flag (g.clipped || p.clipped) ≡ 0
      none e =
          let a = flag-none g.clipped (v.1.1.1.1.1.0.1 (omega arith)) in
          let b = fits.none-clipped (omega arith) in
          λ i. flag (a i || b i)

  pub with_half-valid : ValidGatherer m (with_half g p)
  with_half-valid = (
    omega arith,
    (
      omega arith,
      (sum-le, (omega arith, (λ e. absurd (omega arith), ((omega arith, λ e. refl), (flag-most (g.clipped || p.clipped), λ e. absurd (omega arith)))))),
    ),
  )

  pub value-le : rms m g.last (g.sum + p.squares) ≤ 524288
  value-le = rms-le m g.last (g.sum + p.squares) (omega arith) v.1.1.0 sum-le
