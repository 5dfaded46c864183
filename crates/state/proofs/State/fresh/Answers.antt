-- The parts are those of a fresh logger.
use mathlib.Core.Path.{◌≡◌, sym, subst}
use Rattle.state.specs.State.{state_with, fresh, ValidState}
use Rattle.state.proofs.StepValid.{fresh-valid}
use Rattle.state.proofs.State.fresh.Goals as goal

pub returns : goal.returns
unfolding fresh
returns c =
    let s = c.args.settings in
    let is : state_with s c.new.result c.new-2.result (fresh s).window (fresh s).marks ≡ fresh s =
    λ i. record { settings = s; gatherer = c.new.ensures i; detector = c.new-2.ensures i; window = (fresh s).window; marks = (fresh s).marks } in
    (is, subst ValidState (sym is) (fresh-valid s c.requires))
