-- The chain goes over pairs of a width and a number.
use Rattle.std.proofs.Common.{refl, ◌≡◌, ◌∙◌, ap, rules, tests, Bool, ◌&&◌, List, [], ◌∷◌, ℕ, ◌^◌}
use Rattle.std.proofs.lemmas.Iterator.{YieldsList-from_slice, YieldsList-from_zip}
use Rattle.std.proofs.lemmas.Iterator.Search.{all_from_yields_List}
use Rattle.std.specs.List.{list_all, zip}
use Rattle.numbers.specs.Notation.{◌<ᵇ◌}
use Rattle.conversion.specs.Conversion.{fits}
use Rattle.conversion.proofs.row_fits.Goals as goal

fits-paired : (ws ns : List ℕ) → list_all (λ p. p.1 <ᵇ 256 ^ p.0) (zip ws ns) ≡ fits ws ns
fits-paired [] ns = refl
fits-paired (w ∷ ws) [] = refl
fits-paired (w ∷ ws) (n ∷ ns) = ap (λ (b : Bool). n <ᵇ 256 ^ w && b) (fits-paired ws ns)

pub returns : goal.returns
returns c =
    all_from_yields_List (λ p. p.1 <ᵇ 256 ^ p.0) c.all.new.self _ c.all.result c.all.ensures.ran
    (YieldsList-from_zip {s = c.zip.result} (YieldsList-from_slice c.args.widths.now cc) (YieldsList-from_slice c.args.numbers.now cc))
    (λ x b q k. search (rules, tests))
    ∙ fits-paired c.args.widths.now c.args.numbers.now
