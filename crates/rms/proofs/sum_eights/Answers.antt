-- Each pair takes two samples of the row, read back from their bits.
use Rattle.std.proofs.Common.{◌≡◌, get_or, pos, [], ℤ, ap₂, ◌∙◌, arith, w16, SFits, to_z, of_z}
use mir.ValLaws.{to_z-of_z}
use Rattle.rms.specs.declared.Pair.{Pair}
use Rattle.rms.specs.Gather.{pair_with}
use Rattle.rms.proofs.Passed.{turned-next}
use Rattle.rms.proofs.sum_eights.Goals as goal

pair-is : {r : Pair} (p : Pair) (x y : ℤ) → SFits w16 x → SFits w16 y → r ≡ pair_with p (to_z w16 (of_z w16 x)) (to_z w16 (of_z w16 y)) → r ≡ pair_with p x y
pair-is p x y f g e = e ∙ ap₂ (pair_with p) (to_z-of_z w16 x f) (to_z-of_z w16 y g)

pub loop-eight-preserved : goal.loop-eight-preserved
loop-eight-preserved c =
    let l = c.loop-eight in
    let row = get_or c.args.eights.now l.eight-index [] in
    let first = c.with_two-first.ensures in
    let second = c.with_two-second.ensures in
    let third = c.with_two-third.ensures in
    let fourth = c.with_two-fourth.ensures in
    let test = c.loop-eight-test.true in
    turned-next c.args.eights.now l.eight-index l.first l.second l.third l.fourth test (c.told-eights l.eight-index test) l.invariant _ _ _ _
    (pair-is l.first (get_or row 0 (pos 0)) (get_or row 1 (pos 0)) (record { sfits = omega arith }) (record { sfits = omega arith }) first.0)
    (pair-is l.second (get_or row 2 (pos 0)) (get_or row 3 (pos 0)) (record { sfits = omega arith }) (record { sfits = omega arith }) second.0)
    (pair-is l.third (get_or row 4 (pos 0)) (get_or row 5 (pos 0)) (record { sfits = omega arith }) (record { sfits = omega arith }) third.0)
    (pair-is l.fourth (get_or row 6 (pos 0)) (get_or row 7 (pos 0)) (record { sfits = omega arith }) (record { sfits = omega arith }) fourth.0)
    first.1 second.1 third.1 fourth.1
