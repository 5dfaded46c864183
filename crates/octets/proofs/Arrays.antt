-- Numbers that std reads from and writes into arrays of bytes are those of this crate's definitions.
use Rattle.std.proofs.Common.{◌≡◌, refl, ap, arith, List, [], ◌∷◌, ℕ, zero, suc, ◌*◌, ◌/◌, ◌≤◌, ◌<◌, length, length-take, length-drop, ◌^◌, take, drop, get_or, map, w32}
use Rattle.std.specs.Int.{from_le_bytes, to_le_bytes}
use Rattle.std.specs.Simd.{first_chunks}
use Rattle.octets.specs.Bytes.{bytes_of, number_of, numbers_in, fours}

-- 4 bytes
pub number_of-four : (b : List ℕ) → length b ≡ 4 → from_le_bytes w32 b ≡ number_of b
number_of-four (x₀ ∷ x₁ ∷ x₂ ∷ x₃ ∷ []) h = omega arith
number_of-four [] h = absurd (omega arith)
number_of-four (x₀ ∷ []) h = absurd (omega arith)
number_of-four (x₀ ∷ x₁ ∷ []) h = absurd (omega arith)
number_of-four (x₀ ∷ x₁ ∷ x₂ ∷ []) h = absurd (omega arith)
number_of-four (x₀ ∷ x₁ ∷ x₂ ∷ x₃ ∷ x₄ ∷ b) h = absurd (omega arith)

pub bytes_of-four : (x : ℕ) → to_le_bytes w32 x ≡ bytes_of 4 x
bytes_of-four x =
    let second : x / 256 ^ 2 ≡ x / 256 / 256 = omega arith in
    let third : x / 256 ^ 3 ≡ x / 256 / 256 / 256 = omega arith in
    rw (second, third)

-- numbers of 4 bytes each are those of the list's fours
pub numbers_in-fours : (ns b : List ℕ) → numbers_in (fours ns) b ≡ map number_of (first_chunks 4 (length ns) b)
numbers_in-fours [] b = refl
numbers_in-fours (n ∷ ns) b = ap (λ (r : List ℕ). number_of (take 4 b) ∷ r) (numbers_in-fours ns (drop 4 b))

-- each of them has 4 bytes
pub length-chunk : (m k : ℕ) (b : List ℕ) → 4 * m ≤ length b → k < m → length (get_or (first_chunks 4 m b) k []) ≡ 4
length-chunk zero k b h l = absurd (omega arith)
length-chunk (suc m) zero b h l = simp length-take (omega arith)
length-chunk (suc m) (suc k) b h l = length-chunk m k (drop 4 b) (simp length-drop (omega arith)) (omega arith)
