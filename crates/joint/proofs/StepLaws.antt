-- Parts of the code's step of three channels, each by itself: laws that follow from the definitions of the step.
use Rattle.std.specs.Prelude.{◌≡◌, Bool, List, ℕ, min}
use Rattle.std.proofs.Common.{◌∙◌, ap, arith}
use Rattle.settings.specs.declared.Settings.{Settings}
use Rattle.settings.specs.declared.Scaled.{Scaled}
use Rattle.reading.specs.declared.Kind.{Kind}
use Rattle.reading.specs.declared.Kind.TheVariants.{Dip, Swell, Interruption}
use Rattle.rms.specs.declared.Marked.{Marked}
use Rattle.threshold.specs.Standing.{worse}
use Rattle.rvc.specs.declared.Stands.{Stands}
use Rattle.three_reading.specs.declared.Three.{Three}
use Rattle.three_reading.specs.Three.{Channel, at}
use Rattle.three_reading.specs.JointEvents.{worst}
use Rattle.joint.specs.declared.Values.{Values}
use Rattle.joint.specs.declared.Joint.{Joint}
use Rattle.joint.specs.declared.JointSums.{JointSums}
use Rattle.joint.specs.declared.Entering.{Entering}
use Rattle.joint.specs.declared.OwnMoved.{OwnMoved}
use Rattle.joint.specs.Joint.{marked_at, entering_of, entering_at, entered_true, own_moved_by, all_moved_by, JointReady}

-- the worst of three values is the worse of the first and of the worse of the others
pub worst-is : (k : Kind) (r : Three ℕ) {others w : ℕ} → others ≡ worse k r.b r.c → w ≡ worse k r.a others → w ≡ worst k r
worst-is Dip r e f = f ∙ ap (min r.a) e
worst-is Swell r e f = omega arith
worst-is Interruption r e f = f ∙ ap (min r.a) e

-- each channel goes on under the joint signal
pub moved-is : (n : ℕ) (e : Three Entering) (j : Joint) {steady : Bool} {x y z : OwnMoved} →
    steady ≡ entered_true e → x ≡ own_moved_by n e.a steady j.own.a → y ≡ own_moved_by n e.b steady j.own.b → z ≡ own_moved_by n e.c steady j.own.c →
    ◌≡◌ {A = Three OwnMoved} (record { a = x; b = y; c = z }) (all_moved_by n e j)
moved-is n e j steady-is x-is y-is z-is = rw (x-is, y-is, z-is, steady-is)

-- the three, with the windows ws and the marks of the joint values before the values x
module _ {s : Settings} {t : Scaled} {j : Joint} {ws : Three (List ℕ)} {ms : List ℕ} {a : JointSums} {x : Values} (ready : JointReady s t j ws ms a x) where
  pub entered-is : (stands : Stands) (c : Channel) {y : Marked} {e : Entering} →
      y ≡ marked_at c x → e ≡ entering_of s j.count (at c ws) ms y stands (at c j.own) → e ≡ entering_at s x j ws ms stands c
  entered-is stands c y-is e-is = e-is ∙ (λ k. entering_of s j.count (at c ws) ms (y-is k) stands (at c j.own))
