-- The parts are those of a fresh logger, which is valid (`three_fresh-valid`).
use Rattle.std.specs.Prelude.{◌≡◌}
use Rattle.std.proofs.Common.{sym, subst}
use Rattle.three_state.specs.ThreeState.{three_with, three_fresh, ValidThree}
use Rattle.three_state.specs.ThreeStepValid.{three_fresh-valid}
use Rattle.three_state.proofs.ThreeState.fresh.Goals as goal

pub returns : goal.returns
unfolding three_fresh
returns c =
    let s = c.args.settings in
    let none = c.new-gatherer.ensures in
    let g = c.new-gatherer.result in
    let is : three_with s (record { a = g; b = g; c = g }) c.new.result (three_fresh s).windows (three_fresh s).marks ≡ three_fresh s =
    λ i. three_with s (record { a = none i; b = none i; c = none i }) (c.new.ensures i) (three_fresh s).windows (three_fresh s).marks in
    (is, subst ValidThree (sym is) (three_fresh-valid s c.requires))
