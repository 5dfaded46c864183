-- The rule at each entry of the table, from the test that the table passes.
use Rattle.std.proofs.Common.{◌≡◌, ℕ, zero, suc, ◌+◌, ◌*◌, ◌<◌, true, List, [], ◌∷◌, length, get_or, sym, ◌∙◌, le_of_suc-le-suc, not-suc-le-zero, arith, ltb-true, leb-true}
use Rattle.numbers.specs.Notation.{◌≤ᵇ◌, ◌<ᵇ◌}
use Rattle.numbers.specs.NotationLaws.{and_left, and_right}
use Rattle.reading_laws.specs.RootLaws.{IsRoot, root-only}
use Rattle.rms.specs.Roots.{root_passes, roots_from}
use Rattle.rms.proofs.from_table.Goals as goal

passed : (n r : ℕ) → root_passes n r ≡ true → IsRoot n r
passed n r e =
    let low = and_left (r * r ≤ᵇ n) (n <ᵇ (r + 1) * (r + 1)) e in
    let high = and_right (r * r ≤ᵇ n) (n <ᵇ (r + 1) * (r + 1)) e in
    record { low = leb-true (r * r) n low; high = ltb-true n ((r + 1) * (r + 1)) high }

entry-is : (rs : List ℕ) (n k m : ℕ) → roots_from n rs ≡ true → k < length rs → n + k ≡ m → IsRoot m (get_or rs k 0)
entry-is [] n k m e h p = absurd (not-suc-le-zero h)
entry-is (r ∷ rs) n zero m e h p = let q : n ≡ m = omega arith in rw (sym q) (passed n r (and_left (root_passes n r) (roots_from (suc n) rs) e))
entry-is (r ∷ rs) n (suc k) m e h p = entry-is rs (suc n) k m (and_right (root_passes n r) (roots_from (suc n) rs) e) (le_of_suc-le-suc h) (omega arith)

pub returns : goal.returns
returns c = let a = c.args in c.from.ensures ∙ root-only (entry-is a.roots.now 0 a.n a.n c.requires.0 (omega (arith, c.told-roots)) (omega arith))
