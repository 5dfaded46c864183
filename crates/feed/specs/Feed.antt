-- What the functions of this crate give: of a half-cycle in the parts that the code keeps a logger's state in.
use Rattle.std.specs.Prelude.{◌≡◌, List, ℕ, zero, suc, length, Result, Ok, Err}
use Rattle.settings.specs.declared.Settings.{Settings}
use Rattle.settings.specs.declared.Scaled.{Scaled}
use Rattle.settings.specs.Settings.{scaled_of}
use Rattle.reading.specs.declared.Stop.{Stop}
use Rattle.reading.specs.Told.{Told, stop_number}
use Rattle.reading.specs.Calls.{Outcome}
use Rattle.reading.specs.Records.{record_bytes}
use Rattle.reading.specs.Engineer.{over, room}
use Rattle.rms.specs.declared.Part.{Part}
use Rattle.rms.specs.declared.Gatherer.{Gatherer}
use Rattle.rms.specs.Gather.{with_part, PartFits}
use Rattle.window.specs.declared.Sums.{Sums}
use Rattle.detection.specs.declared.Detector.{Detector}
use Rattle.detection.specs.Detection.{sums_of}
use Rattle.state.specs.declared.State.{State}
use Rattle.state.specs.State.{state_with, ValidState}
use Rattle.state.specs.Step.{half_due, half_joined, why_not}
use Rattle.feed.specs.declared.Half.{Half}

-- a logger and a part that fits its half-cycle, and is taken as its end
pub record HalfReady (s : Settings) (t : Scaled) (g : Gatherer) (d : Detector) (a : Sums) (w ms : List ℕ) (p : Part) : Type 0 where
  pub valid : ValidState (state_with s g d w ms)
  pub scaled-is : t ≡ scaled_of s
  pub sums-are : a ≡ sums_of w ms
  pub part-fits : PartFits s.samples g p

-- the end of a half-cycle: the state after it, the sums of its window, the records written, why it was not taken, and the record buffer
pub record HalfOutcome : Type 0 where
  pub after : State
  pub sums : Sums
  pub written : ℕ
  pub why : ℕ
  pub bytes : List ℕ

-- by 01's number: taken, or nothing changed
abbrev pub half_by : ℕ → State → Part → List ℕ → HalfOutcome
half_by zero st p lent = record {
  after = half_joined st p;
  sums = sums_of (half_joined st p).window (half_joined st p).marks;
  written = length (half_due st p);
  why = 0;
  bytes = over (record_bytes (half_due st p)) lent;
}
half_by (suc y) st p lent = record { after = st; sums = sums_of st.window st.marks; written = 0; why = suc y; bytes = lent }

unfoldable pub half_outcome : State → Part → List ℕ → HalfOutcome
half_outcome st p lent = half_by (why_not st p (room lent)) st p lent

-- the same of what the code gives: where it is not taken, what was before stays
abbrev pub half_of : Settings → Gatherer → Detector → Sums → Result Half Stop → List ℕ → List ℕ → List ℕ → HalfOutcome
half_of s g d sums (Ok h) w ms out = record { after = state_with s h.gatherer h.detector w ms; sums = h.sums; written = h.written; why = 0; bytes = out }
half_of s g d sums (Err stop) w ms out = record { after = state_with s g d w ms; sums = sums; written = 0; why = stop_number stop; bytes = out }

-- the outcome of a walk; the state that a walk ends in, with a part
abbrev pub fed_to : State → Told → List ℕ → Outcome State
fed_to st told bytes = record { after = st; told = told; bytes = bytes }

abbrev pub walked_with : State → Gatherer → Detector → Part → State
walked_with st g d p = state_with st.settings (with_part g p) d st.window st.marks
