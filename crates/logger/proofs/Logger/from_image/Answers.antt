-- What the image reads as is what its restore into the spare logger leaves; and a state that was read is valid.
use Rattle.std.proofs.lemmas.Result.{err_from_is_err_and}
use mathlib.Core.Path.{◌∙◌, ap}
use mathlib.Core.List.{List}
use Prim.Native.Nat.{ℕ}
use Rattle.octets.specs.BytesLaws.{bytes-by}
use Rattle.state.specs.declared.State.{State}
use Rattle.state.specs.State.{fresh}
use Rattle.image.proofs.RestoredRead.{left, left_is, read-valid}
use Rattle.logger.specs.Calls.{spare_settings}
use Rattle.logger.proofs.Logger.from_image.Goals as goal

abbrev spare : State
spare = fresh spare_settings

pub returns-in_err-state : goal.returns-in_err-state
returns-in_err-state c =
    let p = err_from_is_err_and c.from_residual.result c.from_residual.ensures.1 in
    rw (p.1, p.2) (ap (left spare) c.in_err-state.ensures ∙ left_is spare c.args.image.now)

pub invariant_of-result : goal.invariant_of-result
invariant_of-result c =
    let b : List ℕ = c.args.image.now in
    record { valid = ∣ read-valid b c.in_ok-state.state (bytes-by b (λ k. (c.type_inv.image k).fits)) c.in_ok-state.ensures ∣₁ }

pub returns : goal.returns
returns c = ap (left spare) c.in_ok-state.ensures ∙ left_is spare c.args.image.now
