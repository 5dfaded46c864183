-- The laws of the cut, and the only ones that look into it: by one sample, and what a walk over a block needs of it.
use Rattle.std.specs.Prelude.{◌≡◌, ℕ, suc, ◌+◌, ◌-◌, ◌<◌, ◌≤◌, Bool, true, false, List, [], ◌∷◌, length, ℤ, if◌then◌else◌}
use Rattle.std.proofs.Math.Path.{refl, sym}
use Rattle.std.proofs.Common.{ap, true≢false, arith}
use borrow.Author.Tests.{ltb-true, ltb-false, lt-ltb, eq-eqb, ne_eqb}
use Rattle.numbers.specs.Notation.{◌<ᵇ◌, ◌≡ᵇ◌}
use Rattle.rms.specs.declared.Gatherer.{Gatherer}
use Rattle.rms.specs.declared.Share.{Share}
use Rattle.rms.specs.Gather.{part_of, with_part, cut, ends_with}

abbrev pub one_more : Share → Share
one_more c = record { count = suc c.count; completes = c.completes }

-- one sample more that leaves the half-cycle in progress
abbrev next : Gatherer → ℤ → Gatherer
next g x = with_part g (part_of (x ∷ []))

share : Bool → ℕ → ℕ → Share
share b few many = if b then record { count = few; completes = false } else record { count = many; completes = true }

module _ (m : ℕ) (g : Gatherer) (h : g.count < m) where
  pub cut-none : cut m g [] ≡ record { count = 0; completes = false }
  unfolding cut
  cut-none = rw (lt-ltb 0 (m - g.count) (omega arith))

  -- by this law alone the cut is the reading's
  pub ends_with-is : (x : ℤ) → ends_with m g x ≡ (g.count + 1 ≡ᵇ m)
  unfolding cut share
  ends_with-is x = go (1 <ᵇ m - g.count) refl
    where
      go : (b : Bool) → (1 <ᵇ m - g.count) ≡ b → (share b 1 (m - g.count)).completes ≡ (g.count + 1 ≡ᵇ m)
      go true e = sym (ne_eqb (g.count + 1) m (λ p. omega (arith, ltb-true)))
      go false e = sym (eq-eqb (g.count + 1) m (omega (arith, ltb-false)))

  pub next-below : (x : ℤ) → ends_with m g x ≡ false → (next g x).count < m
  unfolding cut share
  next-below x e = go (1 <ᵇ m - g.count) refl e
    where
      go : (b : Bool) → (1 <ᵇ m - g.count) ≡ b → (share b 1 (m - g.count)).completes ≡ false → (next g x).count < m
      go true p q = omega (arith, ltb-true)
      go false p q = absurd (true≢false q)

  pub cut-cons : (x : ℤ) (xs : List ℤ) → cut m g (x ∷ xs) ≡ (if ends_with m g x then record { count = 1; completes = true } else one_more (cut m (next g x) xs))
  unfolding cut share
  cut-cons x xs = go (length (x ∷ xs) <ᵇ m - g.count) (1 <ᵇ m - g.count) (length xs <ᵇ m - (next g x).count) refl refl refl
    where
      go : (a b c : Bool) → (length (x ∷ xs) <ᵇ m - g.count) ≡ a → (1 <ᵇ m - g.count) ≡ b → (length xs <ᵇ m - (next g x).count) ≡ c →
          share a (length (x ∷ xs)) (m - g.count)
          ≡ (if (share b 1 (m - g.count)).completes then record { count = 1; completes = true } else one_more (share c (length xs) (m - (next g x).count)))
      go true true true p q r = refl
      go true true false p q r = absurd (omega (arith, ltb-true, ltb-false))
      go true false c p q r = absurd (omega (arith, ltb-true, ltb-false))
      go false true true p q r = absurd (omega (arith, ltb-true, ltb-false))
      go false true false p q r = let e : m - g.count ≡ suc (m - (next g x).count) = omega (arith, ltb-true) in λ i. record { count = e i; completes = true }
      go false false c p q r = let e : m - g.count ≡ 1 = omega (arith, ltb-false) in λ i. record { count = e i; completes = true }

-- it goes by the number of samples alone
pub cut-length : (m : ℕ) (g : Gatherer) (xs ys : List ℤ) → length xs ≡ length ys → cut m g xs ≡ cut m g ys
unfolding cut share
cut-length m g xs ys e = λ i. share (e i <ᵇ m - g.count) (e i) (m - g.count)

-- what a walk needs: the cut gives samples that are there, one at least where it ends the half-cycle and all where it does not, and no more than fit
pub record Within (m : ℕ) (g : Gatherer) (xs : List ℤ) (c : Share) : Type 0 where
  pub inside : c.count ≤ length xs
  pub some : c.completes ≡ true → 0 < c.count
  pub whole : c.completes ≡ false → c.count ≡ length xs
  pub fits : g.count + c.count ≤ m
  pub below : c.completes ≡ false → g.count + length xs < m

pub cut-within : (m : ℕ) (xs : List ℤ) (g : Gatherer) → g.count < m → Within m g xs (cut m g xs)
cut-within m [] g h =
    rw (cut-none m g h)
    (record { inside = omega arith; some = λ e. absurd (true≢false (sym e)); whole = λ e. refl; fits = omega arith; below = λ e. omega arith })
cut-within m (x ∷ xs) g h = rw (cut-cons m g h x xs) (go (ends_with m g x) refl (cut-within m xs (next g x)))
  where
    go : (b : Bool) → ends_with m g x ≡ b → ((next g x).count < m → Within m (next g x) xs (cut m (next g x) xs))
        → Within m g (x ∷ xs) (if b then record { count = 1; completes = true } else one_more (cut m (next g x) xs))
    go true e ih =
        record { inside = omega arith; some = λ p. omega arith; whole = λ p. absurd (true≢false p); fits = omega arith; below = λ p. absurd (true≢false p) }
    go false e ih =
        let w = ih (next-below m g h x e) in
        record { inside = omega arith; some = λ p. omega arith; whole = λ p. ap suc (w.whole p); fits = omega arith; below = λ p. omega (arith, w.below p) }
