-- What a table of roots is (02, N3): a test that is computed over all its entries.
use Rattle.std.specs.Prelude.{ℕ, suc, ◌+◌, ◌*◌, Bool, true, ◌&&◌, List, [], ◌∷◌}
use Rattle.numbers.specs.Notation.{◌≤ᵇ◌, ◌<ᵇ◌}

-- whether r is the root of n: r² ≤ n < (r + 1)²
abbrev pub root_passes : ℕ → ℕ → Bool
root_passes n r = (r * r ≤ᵇ n) && (n <ᵇ (r + 1) * (r + 1))

-- the entries are the roots of n, n + 1 and so on
abbrev pub roots_from : ℕ → List ℕ → Bool
roots_from n [] = true
roots_from n (r ∷ rs) = root_passes n r && roots_from (suc n) rs
