-- A gatherer stays valid, sample by sample and by the parts that the cut gives.
use Rattle.std.specs.Prelude.{◌≡◌, refl, Bool, true, false, List, [], ◌∷◌, ℕ, ◌+◌, ◌*◌, ◌^◌, ◌≤◌, ◌<◌, length, ℤ, pos, negsuc, if◌then◌else◌}
use Rattle.std.proofs.Common.{sym, ◌∙◌, ap, subst, arith}
use lib.Signed.{mag}
use mir.Syntax.{w16}
use mir.Val.{to_z, of_z}
use mir.ValLaws.{to_z-of_z}
use Rattle.reading.specs.Values.{Sample, squares}
use Rattle.reading_laws.specs.RecordingsLaws.{squares-le}
use Rattle.rms.specs.declared.Part.{Part}
use Rattle.rms.specs.declared.Gatherer.{Gatherer}
use Rattle.rms.specs.declared.Share.{Share}
use Rattle.rms.specs.Gather.{part_of, no_sample, with_part, with_half, cut, ends_with, gathered, ValidGatherer, PartFits}
use Rattle.rms.specs.GatherLaws.{part_of-fits, with_part-valid, with_half-valid}
use Rattle.rms.specs.CutLaws.{Within, cut-within, next-below}

pub none-valid : (m : ℕ) (g : Gatherer) → g ≡ no_sample → 0 < m → ValidGatherer m g
none-valid m g e some =
    subst (ValidGatherer m) (sym e) (some, (omega arith, (omega arith, (omega arith, (λ _. refl, ((omega arith, λ _. refl), (omega arith, λ _. refl)))))))

-- one sample, which the machine reads back from its bits
sample : (x : ℤ) → mag x < 2 ^ 15 → Sample x
sample (pos n) h = h
sample (negsuc n) h = h

pub gathered-valid : (m : ℕ) (g : Gatherer) (x : ℤ) (r : Gatherer) → ValidGatherer m g → mag x < 2 ^ 15
    → r ≡ (gathered m g (to_z w16 (of_z w16 x))).gatherer → ValidGatherer m r
gathered-valid m g x r v small is =
    subst (ValidGatherer m) (sym (is ∙ ap (λ (y : ℤ). (gathered m g y).gatherer) (to_z-of_z w16 x (record { sfits = small })))) (go (ends_with m g x) refl)
  where
    part : Part
    part = part_of (x ∷ [])

    fits : PartFits m g part
    fits = part_of-fits m g (x ∷ []) (squares-le (x ∷ []) (sample x small, tt)) (omega (arith, v.0))

    go : (b : Bool) → ends_with m g x ≡ b → ValidGatherer m (if b then with_half g part else with_part g part)
    go true e = with_half-valid m g part v fits
    go false e = with_part-valid m g part v fits (next-below m g v.0 x e)

-- parts: the samples before the rest are gathered, and the cut gives a share of the rest
pub record Parting (m : ℕ) (samples : List ℤ) (g : Gatherer) (halves : ℕ) (rest : List ℤ) (share : Share) : Type 0 where
  pub valid : ValidGatherer m g
  pub ended : halves + length rest ≤ length samples
  pub inside : share.count ≤ length rest
  pub fits : g.count + share.count ≤ m
  pub some : share.completes ≡ true → 0 < share.count
  pub left : share.completes ≡ false → g.count + length rest < m

module _ (m : ℕ) (samples : List ℤ) where
  pub parting : (g : Gatherer) (halves : ℕ) (rest : List ℤ) (share : Share) → ValidGatherer m g → halves + length rest ≤ length samples
      → share ≡ cut m g rest → Parting m samples g halves rest share
  parting g halves rest share v few is =
      let w : Within m g rest share = subst (Within m g rest) (sym is) (cut-within m rest g v.0) in
      record { valid = v; ended = few; inside = w.inside; fits = w.fits; some = w.some; left = w.below }

  module _ (g : Gatherer) (halves : ℕ) (rest : List ℤ) (share : Share) (now : Parting m samples g halves rest share) where
    -- the part that ends a half-cycle
    pub half-valid : (r : Gatherer) (p : Part) (half : List ℤ) → length half ≡ share.count → (p ≡ part_of half) × (p.squares ≤ p.count * 2 ^ 30)
        → r ≡ with_half g p → ValidGatherer m r
    half-valid r p half long sums is =
        let c : p.count ≡ length half = ap (λ (k : Part). k.count) sums.0 in
        let s : p.squares ≡ squares half = ap (λ (k : Part). k.squares) sums.0 in
        let fits = part_of-fits m g half (omega (arith, sums.1)) (omega (arith, now.fits)) in
        subst (ValidGatherer m) (sym is) (with_half-valid m g p now.valid (subst (PartFits m g) (sym sums.0) fits))

    -- what is left, which ends none
    pub part-fits : (p : Part) → m ≤ 256 → share.completes ≡ false → (p ≡ part_of rest) × (p.squares ≤ p.count * 2 ^ 30)
        → (g.count + p.count < 2 ^ 32) × (g.sum + p.squares < 2 ^ 64)
    part-fits p few ends sums =
        let c : p.count ≡ length rest = ap (λ (k : Part). k.count) sums.0 in
        let below = now.left ends in
        (omega arith, omega (arith, now.valid.1.0))
