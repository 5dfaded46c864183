-- The laws of samples in bytes.
use Rattle.std.specs.Prelude.{Bool, true, false, ltb, pos, negsuc, if◌then◌else◌, ◌≡◌, refl, List, [], ◌∷◌, ◌++◌, ℕ, zero, suc, ◌-◌, ◌*◌, ◌/◌, ◌≤◌, ◌<◌, ◌^◌, ℤ, length, take, drop}
use Rattle.std.proofs.Common.{sym, ◌∙◌, ap, arith, take-append-drop, take_at, drop_at, length-take-le, to_z}
use Rattle.std.proofs.lemmas.Bool.{ltb-true, ltb-false}
use Rattle.std.specs.Int.{w16}
use Rattle.std.proofs.Math.Facts.{to_z_pos, to_z-neg}
use Rattle.samples.specs.Samples.{signed, sample_of, samples_of}

-- a number of 16 bits read as signed, below 32,768 and from there on
pub signed_is : (n : ℕ) → n < 65536 → to_z w16 n ≡ signed n
unfolding signed
signed_is n h = by_half (ltb n 32768) refl where
  by_half : (low : Bool) → ltb n 32768 ≡ low → to_z w16 n ≡ if low then pos n else negsuc (65535 - n)
  by_half true e = to_z_pos w16 (ltb-true n 32768 e)
  by_half false e =
      let high : 32768 ≤ n = ltb-false n 32768 e in
      let is : n ≡ 2 ^ 16 - suc (65535 - n) = omega arith in
      ap (to_z w16) is ∙ to_z-neg w16 (65535 - n) (omega arith)

-- whole samples in front stand in front
pub samples_of-append : (k : ℕ) (a b : List ℕ) → length a ≡ 2 * k → samples_of (a ++ b) ≡ samples_of a ++ samples_of b
unfolding samples_of
samples_of-append zero [] b l = refl
samples_of-append zero (x ∷ a) b l = absurd (omega arith)
samples_of-append (suc k) [] b l = absurd (omega arith)
samples_of-append (suc k) (x ∷ []) b l = absurd (omega arith)
samples_of-append (suc k) (x ∷ y ∷ a) b l = ap (λ (q : List ℤ). sample_of x y ∷ q) (samples_of-append k a b (omega arith))

pub length-samples : (b : List ℕ) → length (samples_of b) ≡ length b / 2
unfolding samples_of
length-samples [] = refl
length-samples (x ∷ []) = omega arith
length-samples (x ∷ y ∷ b) = omega (arith, length-samples b)

-- the samples of a part are that part of the samples
module _ (at : ℕ) (b : List ℕ) (h : 2 * at ≤ length b) where
  front : length (take (2 * at) b) ≡ 2 * at
  front = length-take-le (2 * at) b h

  long : length (samples_of (take (2 * at) b)) ≡ at
  long = omega (arith, front, length-samples (take (2 * at) b))

  both : samples_of b ≡ samples_of (take (2 * at) b) ++ samples_of (drop (2 * at) b)
  both = ap samples_of (sym (take-append-drop (2 * at) b)) ∙ samples_of-append at (take (2 * at) b) (drop (2 * at) b) front

  pub samples_of-drop : samples_of (drop (2 * at) b) ≡ drop at (samples_of b)
  samples_of-drop = sym (ap (drop at) both ∙ drop_at (samples_of (take (2 * at) b)) (samples_of (drop (2 * at) b)) at long)

  pub samples_of-take : samples_of (take (2 * at) b) ≡ take at (samples_of b)
  samples_of-take = sym (ap (take at) both ∙ take_at (samples_of (take (2 * at) b)) (samples_of (drop (2 * at) b)) at long)
