-- A lane that is laid sample by sample: a sample as it is read and stored, and the places so far.
use Rattle.std.proofs.Common.{◌≡◌, refl, List, [], ◌∷◌, ℕ, zero, suc, ◌+◌, ◌*◌, ◌^◌, ◌≤◌, ◌<◌, add-one, arith, ℤ, pos, length, take, get_or, set, length-set, take_all, take-suc, take-suc-set, w16, to_z, of_z, to_z-of_z}
use lib.Signed.{mag}
use Rattle.std.specs.Simd.{first_chunks}
use Rattle.three_reading.specs.declared.Three.{Three}
use Rattle.lanes.specs.LanesLaws.{sample_at, triple_at}

-- a sample is signed, and goes by its bits
abbrev pub Small : ℤ → Type 0
Small z = mag z < 2 ^ 15

abbrev pub kept : ℤ → ℤ
kept z = to_z w16 (of_z w16 z)

pub kept-is : (z : ℤ) → Small z → kept z ≡ z
kept-is z h = to_z-of_z {w = w16} {z = z} (record { sfits = h })

-- a triple as the code cuts it from a block
abbrev pub triple_in : List ℤ → Three ℤ
triple_in t = record { a = sample_at t 0; b = sample_at t 1; c = sample_at t 2 }

pub chunk-at : (m i : ℕ) (block : List ℤ) → i < m → 3 * m ≤ length block → triple_in (get_or (first_chunks 3 m block) i []) ≡ triple_at block i
chunk-at zero i block h l = absurd (omega arith)
chunk-at (suc m) i [] h l = absurd (omega arith)
chunk-at (suc m) i (x ∷ []) h l = absurd (omega arith)
chunk-at (suc m) i (x ∷ y ∷ []) h l = absurd (omega arith)
chunk-at (suc m) zero (x ∷ y ∷ z ∷ rest) h l = refl
chunk-at (suc m) (suc i) (x ∷ y ∷ z ∷ rest) h l =
    let a : 3 * suc i ≡ suc (suc (suc (3 * i))) = omega arith in
    let b : 3 * suc i + 1 ≡ suc (suc (suc (3 * i + 1))) = omega arith in
    let d : 3 * suc i + 2 ≡ suc (suc (suc (3 * i + 2))) = omega arith in
    rw (d, b, a) (chunk-at m i rest (omega arith) (omega arith))

-- so far as the list that is to stand there
pub record Laid (lane : List ℤ) (i : ℕ) (before now : List ℤ) : Type 0 where
  pub same : length now ≡ length before
  pub so_far : take i now ≡ take i lane

module _ (lane : List ℤ) (i : ℕ) {before now : List ℤ} (l : Laid lane i before now) (same : length before ≡ length lane) where
  pub laid_more : {v : ℤ} → i < length lane → Small v → v ≡ sample_at lane i → Laid lane (i + 1) before (set now i (kept v))
  laid_more {v} h s e = record {
    same = simp length-set l.same;
    so_far = rw (add-one i, take-suc-set now i (kept v) (omega arith), take-suc lane i (pos 0) h, l.so_far, kept-is v s, e);
  }

  pub laid-all : i ≡ length lane → now ≡ lane
  laid-all e = rw (take_all i now (omega arith), take_all i lane (omega arith)) at l.so_far
