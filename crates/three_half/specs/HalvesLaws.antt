-- A part that ends a half-cycle leaves each channel's sum small.
use Rattle.std.specs.Prelude.{List, ℕ, ◌+◌, ◌*◌, ◌^◌, ◌≤◌}
use Rattle.std.proofs.Common.{arith}
use Rattle.settings.specs.declared.Settings.{Settings}
use Rattle.settings.specs.declared.Scaled.{Scaled}
use Rattle.rms.specs.declared.Gatherer.{Gatherer}
use Rattle.rms.specs.declared.Part.{Part}
use Rattle.rms.specs.GatherLaws.{sum-le}
use Rattle.three_reading.specs.declared.Three.{Three}
use Rattle.three_reading.specs.Three.{Channel, at}
use Rattle.joint.specs.declared.Joint.{Joint}
use Rattle.joint.specs.declared.JointSums.{JointSums}
use Rattle.three_half.specs.Halves.{HalfReady, SumsFit}

module _ {s : Settings} {t : Scaled} {g : Three Gatherer} {j : Joint} {a : JointSums} {ws : Three (List ℕ)} {ms : List ℕ} {p : Three Part}
    (pre : HalfReady s t g j a ws ms p) where
  pub sum-at : (c : Channel) → (at c g).sum + (at c p).squares ≤ s.samples * 2 ^ 30
  sum-at c = sum-le s.samples (at c g) (at c p) (pre.valid.gatherer-valid c) (pre.part-fits c)

  pub sums-fit : SumsFit g p
  sums-fit c = omega (arith, sum-at c, pre.valid.settings-valid.samples-valid.1)
