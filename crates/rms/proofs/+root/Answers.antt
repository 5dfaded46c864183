-- A number that passes the test has `near` for its root: a difference of at most 2 × near is no wrapped one, since near² + 2 × near is below 2^64.
use Rattle.std.proofs.Common.{◌≡◌, ◌∙◌, ℕ, ◌+◌, ◌-◌, ◌*◌, ◌%◌, ◌^◌, ◌<◌, ◌≤◌, mul-le-mul, arith}
use Rattle.reading.specs.Values.{root as root_of}
use Rattle.reading_laws.specs.RootLaws.{square-add, root-only}
use Rattle.rms.proofs.+root.Goals as goal

module _ (n near : ℕ) (fits : near < 2 ^ 32) where
  square-fits : near * near ≤ (2 ^ 32 - 1) * (2 ^ 32 - 1)
  square-fits = let h : near ≤ 2 ^ 32 - 1 = omega arith in mul-le-mul h h

  near-root : n < 2 ^ 64 → (n + (2 ^ 64 - near * near)) % 2 ^ 64 ≤ 2 * near → near ≡ root_of n
  near-root small h = root-only (record { low = omega (arith, square-fits); high = omega (arith, square-fits, square-add near 1) })

pub returns-then-n-wide : goal.returns-then-n-wide
returns-then-n-wide t c = c.from-wide.ensures ∙ near-root c.args.n c.args.near c.ranges.near.fits c.ranges.n.fits (rw c.from-wide.ensures at c.if-n-wide.true)
