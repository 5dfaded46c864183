-- What the end of a half-cycle gives, in the parts that the code keeps a three-phase logger's state in.
use Rattle.std.specs.Prelude.{◌≡◌, Bool, ◌||◌, List, ℕ, zero, suc, ◌+◌, ◌*◌, ◌^◌, ◌≤◌, ◌<◌, length, Result, Ok, Err}
use Rattle.settings.specs.declared.Settings.{Settings}
use Rattle.settings.specs.declared.Scaled.{Scaled}
use Rattle.settings.specs.Settings.{scaled_of}
use Rattle.reading.specs.declared.Stop.{Stop}
use Rattle.reading.specs.Told.{stop_number}
use Rattle.reading.specs.Values.{rms}
use Rattle.reading.specs.Records.{record_bytes}
use Rattle.reading.specs.Engineer.{over, room}
use Rattle.rms.specs.declared.Gatherer.{Gatherer}
use Rattle.rms.specs.declared.Part.{Part}
use Rattle.rms.specs.Gather.{PartFits}
use Rattle.three_reading.specs.declared.Three.{Three}
use Rattle.three_reading.specs.Three.{any_of, Channel, at}
use Rattle.three_reading.specs.Three.Channel.{on_a, on_b, on_c}
use Rattle.joint.specs.declared.Joint.{Joint}
use Rattle.joint.specs.declared.JointSums.{JointSums}
use Rattle.joint.specs.declared.Values.{Values}
use Rattle.joint.specs.Joint.{three_of, joint_sums_of}
use Rattle.three_state.specs.declared.ThreeState.{ThreeState}
use Rattle.three_state.specs.ThreeState.{three_with, ValidThree}
use Rattle.three_state.specs.ThreeStep.{with_halves, three_half_due, three_half, three_why_not}
use Rattle.three_half.specs.declared.Half.{Half}

-- a logger, and a part of each channel that fits the half-cycle in progress, and is taken as its end
pub record HalfReady (s : Settings) (t : Scaled) (g : Three Gatherer) (j : Joint) (a : JointSums) (ws : Three (List ℕ)) (ms : List ℕ) (p : Three Part) : Type 0 where
  pub valid : ValidThree (three_with s g j ws ms)
  pub scaled-is : t ≡ scaled_of s
  pub sums-are : a ≡ joint_sums_of ws ms
  pub part-fits : (c : Channel) → PartFits s.samples (at c g) (at c p)

-- the end of a half-cycle: the state after it, the sums of its windows, the records written, why it was not taken, and the record buffer
pub record HalfOutcome : Type 0 where
  pub after : ThreeState
  pub sums : JointSums
  pub written : ℕ
  pub why : ℕ
  pub bytes : List ℕ

-- by 01's number: taken, or nothing changed
abbrev pub half_by : ℕ → ThreeState → Three Part → List ℕ → HalfOutcome
half_by zero st p lent = record {
  after = three_half st p;
  sums = joint_sums_of (three_half st p).windows (three_half st p).marks;
  written = length (three_half_due st p);
  why = 0;
  bytes = over (record_bytes (three_half_due st p)) lent;
}
half_by (suc y) st p lent = record { after = st; sums = joint_sums_of st.windows st.marks; written = 0; why = suc y; bytes = lent }

unfoldable pub half_outcome : ThreeState → Three Part → List ℕ → HalfOutcome
half_outcome st p lent = half_by (three_why_not st p (room lent)) st p lent

-- the same of what the code gives: where it is not taken, what was before stays
abbrev pub half_of : Settings → Three Gatherer → Joint → JointSums → Three Part → Result Half Stop → Three (List ℕ) → List ℕ → List ℕ → HalfOutcome
half_of s g j sums p (Ok h) ws ms out =
    record { after = three_with s (with_halves g p) h.joint ws ms; sums = h.sums; written = h.written; why = 0; bytes = out }
half_of s g j sums p (Err stop) ws ms out = record { after = three_with s g j ws ms; sums = sums; written = 0; why = stop_number stop; bytes = out }

-- a part more leaves a sum within 64 bits
abbrev pub SumsFit : Three Gatherer → Three Part → Type 0
SumsFit g p = (c : Channel) → (at c g).sum + (at c p).squares < 2 ^ 64

-- the values that end with the half-cycles of h, where those of g were before: as the code has them
abbrev pub size_at : ℕ → Three Gatherer → Three Gatherer → Channel → ℕ
size_at m g h c = rms m (at c g).last (at c h).last

abbrev pub clipped_at : Three Gatherer → Three Gatherer → Channel → Bool
clipped_at g h c = (at c g).last_clipped || (at c h).last_clipped

abbrev pub values_by : ℕ → Three Gatherer → Three Gatherer → Values
values_by m g h = record {
  sizes = three_of (size_at m g h on_a) (size_at m g h on_b) (size_at m g h on_c);
  clipped = any_of (three_of (clipped_at g h on_a) (clipped_at g h on_b) (clipped_at g h on_c));
}

-- what the code needs to work them out
pub record ValuesReady (s : Settings) (g h : Three Gatherer) : Type 0 where
  pub samples-some : 0 < s.samples
  pub samples-most : s.samples ≤ 256
  pub last-le : (c : Channel) → (at c g).last ≤ s.samples * 2 ^ 30
  pub half-le : (c : Channel) → (at c h).last ≤ s.samples * 2 ^ 30
