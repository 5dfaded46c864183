-- Samples in bytes: low byte first, two's complement.
use Rattle.std.specs.Prelude.{List, [], ◌∷◌, ℕ, ◌+◌, ◌-◌, ◌*◌, ℤ, pos, negsuc, if◌then◌else◌}
use Rattle.numbers.specs.Notation.{◌<ᵇ◌}

-- a number of 16 bits in two's complement: n, or from 32,768 on n − 65,536, which is −1 − (65,535 − n)
unfoldable pub signed : ℕ → ℤ
signed n = if n <ᵇ 32768 then pos n else negsuc (65535 - n)

unfoldable pub sample_of : ℕ → ℕ → ℤ
sample_of low high = signed (low + 256 * high)

-- two bytes each; a last odd byte gives none
unfoldable pub samples_of : List ℕ → List ℤ
samples_of [] = []
samples_of (low ∷ []) = []
samples_of (low ∷ high ∷ rest) = sample_of low high ∷ samples_of rest
