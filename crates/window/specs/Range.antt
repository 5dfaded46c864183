-- The test of calm as a range of values: |n × x − a| ≤ q exactly where lowest ≤ x ≤ highest.
use Rattle.std.specs.Prelude.{ℕ, ◌+◌, ◌-◌, ◌/◌, Bool, ◌&&◌, List}
use Rattle.numbers.specs.Notation.{◌≤ᵇ◌, all}

abbrev pub lowest : ℕ → ℕ → ℕ → ℕ
lowest n a q = (a - q + (n - 1)) / n

abbrev pub highest : ℕ → ℕ → ℕ → ℕ
highest n a q = (a + q) / n

abbrev pub between : ℕ → ℕ → ℕ → Bool
between lo hi x = lo ≤ᵇ x && x ≤ᵇ hi

-- a window of n values with the sum a: the newest r and those of part
abbrev pub calm_with : ℕ → ℕ → ℕ → List ℕ → ℕ → Bool
calm_with n a q part r = let lo = lowest n a q in let hi = highest n a q in between lo hi r && all (between lo hi) part
