-- The image's restore leaves a valid state of a valid one.
use Rattle.std.proofs.Math.Logic.{∥∥₁_map}
use mathlib.Core.Path.{sym, subst}
use mathlib.Core.List.{List}
use Prim.Native.Nat.{ℕ}
use Rattle.octets.specs.BytesLaws.{bytes-by}
use Rattle.reading.specs.Calls.{Restoration}
use Rattle.state.specs.declared.State.{State}
use Rattle.state.specs.State.{ValidState}
use Rattle.image.specs.ImageLaws.{restored_by-valid}
use Rattle.logger.proofs.Logger.restore.Goals as goal

pub invariant_of-result : goal.invariant_of-result
invariant_of-result c =
    let old = c.args.self.state in
    let b : List ℕ = c.args.bytes.now in
    let left = λ (valid : ValidState old). restored_by-valid old b (bytes-by b (λ k. (c.type_inv.bytes k).fits)) valid in
    record { valid = ∥∥₁_map c.args.self.valid (λ valid. subst (λ (r : Restoration State). ValidState r.after) (sym c.restore-restored.ensures) (left valid)) }
