-- Whole halves in a number of samples: x more of them, where n % m are in the half in progress.
use Rattle.std.specs.Prelude.{◌≡◌, ℕ, ◌+◌, ◌*◌, ◌/◌, ◌%◌, ◌≤◌, ◌<◌}
use Rattle.std.proofs.Common.{ap, arith, add-mul, div-add-mod', le-div_iff_mul-le}
use Rattle.std.proofs.Math.Nat.{div-eq_of_lt-le}

module _ (n x m : ℕ) where
  split : n / m * m + n % m ≡ n
  split = div-add-mod' n m

  -- none is completed
  pub div_same : n % m + x < m → (n + x) / m ≡ n / m
  div_same h = div-eq_of_lt-le m (omega (arith, split)) (omega (arith, split, add-mul (n / m) 1 m))

  pub mod_same : n % m + x < m → (n + x) % m ≡ n % m + x
  mod_same h = omega (arith, split, div-add-mod' (n + x) m, ap (λ (q : ℕ). q * m) (div_same h))

  module _ (some : 0 < m) where
    -- one is completed
    pub div-next : n % m + x ≡ m → (n + x) / m ≡ n / m + 1
    div-next h = div-eq_of_lt-le m (omega (arith, split, add-mul (n / m) 1 m)) (omega (arith, split, add-mul (n / m) 1 m, add-mul (n / m + 1) 1 m))

    pub mod-next : n % m + x ≡ m → (n + x) % m ≡ 0
    mod-next h = omega (arith, split, div-add-mod' (n + x) m, ap (λ (q : ℕ). q * m) (div-next h), add-mul (n / m) 1 m)

    pub div-grow : n / m ≤ (n + x) / m
    div-grow = (le-div_iff_mul-le some).1 (omega (arith, split))
