-- A number of 16 bits as the code makes it signed, by halves: laws that follow from `signed_is`.
use Rattle.std.specs.Prelude.{◌≡◌, ℕ, ◌-◌, ◌≤◌, ◌<◌}
use Rattle.std.proofs.Common.{◌∙◌, ap, arith, to_z}
use Rattle.std.specs.Int.{w16}
use Rattle.samples.specs.Samples.{signed}
use Rattle.samples.specs.SamplesLaws.{signed_is}

-- below 32,768 and from there on
pub signed_low : (n : ℕ) → n < 32768 → to_z w16 n ≡ signed n
signed_low n h = signed_is n (omega arith)

pub signed_high : (n : ℕ) → 32768 ≤ n → n < 65536 → to_z w16 (65535 - (65535 - n)) ≡ signed n
signed_high n h l =
    let e : 65535 - (65535 - n) ≡ n = omega arith in
    ap (to_z w16) e ∙ signed_is n l
