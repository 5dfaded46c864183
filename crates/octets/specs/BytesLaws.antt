-- The laws of numbers as bytes, over the width: there and back, both ways; and of parts of lists of bytes.
use Rattle.std.specs.Prelude.{◌≡◌, refl, List, [], ◌∷◌, ℕ, zero, suc, ◌+◌, ◌*◌, ◌/◌, ◌%◌, ◌^◌, ◌≤◌, ◌<◌, length, take, drop, get_or}
use Rattle.std.proofs.Common.{◌∙◌, ap, ap₂, arith, pow-suc, not-suc-le-zero}
use Rattle.octets.specs.Bytes.{Bytes, bytes_of, number_of}

-- lists of bytes
pub bytes-by : (b : List ℕ) → ((i : ℕ) → get_or b i 0 < 256) → Bytes b
bytes-by [] h = tt
bytes-by (x ∷ b) h = (h 0, bytes-by b (λ i. h (suc i)))

pub bytes_take : (n : ℕ) (b : List ℕ) → Bytes b → Bytes (take n b)
bytes_take zero b h = tt
bytes_take (suc n) [] h = tt
bytes_take (suc n) (x ∷ b) h = (h.0, bytes_take n b h.1)

pub bytes_drop : (n : ℕ) (b : List ℕ) → Bytes b → Bytes (drop n b)
bytes_drop zero b h = h
bytes_drop (suc n) [] h = tt
bytes_drop (suc n) (x ∷ b) h = bytes_drop n b h.1

pub length-bytes_of : (w x : ℕ) → length (bytes_of w x) ≡ w
length-bytes_of zero x = refl
length-bytes_of (suc w) x = ap suc (length-bytes_of w (x / 256))

-- number → bytes → number
pub number_of-bytes_of : (w x : ℕ) → x < 256 ^ w → number_of (bytes_of w x) ≡ x
number_of-bytes_of zero x h = omega arith
number_of-bytes_of (suc w) x h =
    let k : x < 256 ^ w * 256 = rw pow-suc at h in
    let r : number_of (bytes_of w (x / 256)) ≡ x / 256 = number_of-bytes_of w (x / 256) (omega arith) in
    omega arith

-- bytes → number → bytes
pub bytes_of-number_of : (b : List ℕ) → Bytes b → bytes_of (length b) (number_of b) ≡ b
bytes_of-number_of [] h = refl
bytes_of-number_of (x ∷ b) h =
    let l : x < 256 = h.0 in
    let low : (x + 256 * number_of b) % 256 ≡ x = omega arith in
    let high : (x + 256 * number_of b) / 256 ≡ number_of b = omega arith in
    ap₂ ◌∷◌ low (ap (bytes_of (length b)) high ∙ bytes_of-number_of b h.1)

-- at most w bytes are a number below 256 ^ w
pub number_of-lt : (w : ℕ) (b : List ℕ) → Bytes b → length b ≤ w → number_of b < 256 ^ w
number_of-lt zero [] h l = omega arith
number_of-lt (suc w) [] h l = let r : 0 < 256 ^ w = number_of-lt w [] h (omega arith) in rw pow-suc (omega arith)
number_of-lt zero (x ∷ b) h l = absurd (not-suc-le-zero l)
number_of-lt (suc w) (x ∷ b) h l =
    let x_lt : x < 256 = h.0 in
    let r : number_of b < 256 ^ w = number_of-lt w b h.1 (omega arith) in
    rw pow-suc (omega arith)
