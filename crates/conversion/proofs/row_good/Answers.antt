-- A record's first three numbers are its first four bytes.
use Rattle.std.specs.Prelude.{◌≡◌, Bool, ◌&&◌, List, [], ◌∷◌, ℕ, ◌≤◌, length, take, drop, get_or}
use Rattle.std.proofs.Common.{sym, ◌∙◌, ap, arith, drop-drop}
use Rattle.octets.specs.Bytes.{number_of}
use Rattle.numbers.specs.Notation.{◌≤ᵇ◌, ◌≡ᵇ◌}
use Rattle.conversion.proofs.row_good.Goals as goal

abbrev good : ℕ → ℕ → ℕ → Bool
good kind mark zeros = 1 ≤ᵇ kind && (kind ≤ᵇ 4 && (mark ≤ᵇ 1 && zeros ≡ᵇ 0))

kind-is : (r : List ℕ) → 1 ≤ length r → get_or r 0 0 ≡ number_of (take 1 r)
kind-is [] h = absurd (omega arith)
kind-is (x ∷ r) h = omega arith

mark-is : (r : List ℕ) → 2 ≤ length r → get_or r 1 0 ≡ number_of (take 1 (drop 1 r))
mark-is [] h = absurd (omega arith)
mark-is (x ∷ r) h = kind-is r (omega arith)

pub returns : goal.returns
returns c =
    let r : List ℕ = c.args.record.now in
    let kind = kind-is r (omega arith) in
    let mark = mark-is r (omega arith) in
    let zeros = c.get_u16-zeros.ensures ∙ ap (λ (l : List ℕ). number_of (take 2 l)) (sym (drop-drop 1 1 r)) in
    λ i. good (kind i) (mark i) (zeros i)
