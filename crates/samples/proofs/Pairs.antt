-- Samples by pairs of bytes, as the code reads them.
use Rattle.std.proofs.Common.{◌≡◌, refl, ap, ◌∙◌, arith, List, [], ◌∷◌, ◌++◌, append_assoc, ℕ, zero, suc, ◌+◌, ◌*◌, ◌<◌, length, take, drop, get_or, get_or-drop, set, map, ℤ, to_z, w16}
use Rattle.std.proofs.Math.Seq.{take-suc-set}
use Rattle.std.specs.Simd.{first_chunks}
use native.Mathlib.Numerals.{add-one}
use Rattle.samples.specs.Samples.{sample_of, samples_of}
use Rattle.samples.specs.SamplesLaws.{signed_is}

-- the sample of a pair
abbrev pub sample_in : List ℕ → ℤ
sample_in pair = sample_of (get_or pair 0 0) (get_or pair 1 0)

pub samples_of-pairs : (m : ℕ) (b : List ℕ) → length b ≡ 2 * m → samples_of b ≡ map sample_in (first_chunks 2 m b)
unfolding samples_of
samples_of-pairs zero [] h = refl
samples_of-pairs zero (x ∷ b) h = absurd (omega arith)
samples_of-pairs (suc m) [] h = absurd (omega arith)
samples_of-pairs (suc m) (x ∷ []) h = absurd (omega arith)
samples_of-pairs (suc m) (x ∷ y ∷ b) h = ap (λ (r : List ℤ). sample_of x y ∷ r) (samples_of-pairs m b (omega arith))

-- two bytes, the low one first, are their sample
pub sample_is : (low high : ℕ) → low < 256 → high < 256 → to_z w16 (low + high * 256) ≡ sample_of low high
unfolding sample_of
sample_is low high h l =
    let order : low + high * 256 ≡ low + 256 * high = omega arith in
    ap (to_z w16) order ∙ signed_is (low + 256 * high) (omega arith)

-- the pairs of a list of bytes hold bytes
pub byte_in : (m k i : ℕ) (b : List ℕ) → ((j : ℕ) → get_or b j 0 < 256) → get_or (get_or (first_chunks 2 m b) k []) i 0 < 256
byte_in zero k i b h = omega arith
byte_in (suc m) zero i [] h = omega arith
byte_in (suc m) zero zero (x ∷ b) h = h 0
byte_in (suc m) zero (suc i) (x ∷ []) h = omega arith
byte_in (suc m) zero (suc zero) (x ∷ y ∷ b) h = h 1
byte_in (suc m) zero (suc (suc i)) (x ∷ y ∷ b) h = omega arith
byte_in (suc m) (suc k) i b h = byte_in m k i (drop 2 b) (λ j. rw get_or-drop (h (2 + j)))

-- one sample more is written
pub one_more : (k : ℕ) (p rest t : List ℤ) (x : ℤ) → k < length p → take k p ++ (x ∷ rest) ≡ t → take (k + 1) (set p k x) ++ rest ≡ t
one_more k p rest t x h e = rw (add-one k, take-suc-set p k x h, append_assoc) e
