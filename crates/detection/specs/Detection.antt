-- One value's step of all that is kept of the values: standings first, then the window and the phase. And what a history and its marks leave.
use Rattle.std.specs.Prelude.{◌≡◌, ◌||◌, List, ℕ, suc, ◌≤◌, ◌<◌, length}
use Rattle.numbers.specs.Notation.{◌<ᵇ◌, ◌≡ᵇ◌, flag}
use Rattle.settings.specs.declared.Settings.{Settings}
use Rattle.settings.specs.declared.Scaled.{Scaled}
use Rattle.settings.specs.Settings.{window_length_of, scaled_of, ValidSettings}
use Rattle.reading.specs.declared.Kind.{Kind}
use Rattle.reading.specs.declared.Kind.TheVariants.{Dip, Swell, Interruption}
use Rattle.reading.specs.declared.Record.{Record}
use Rattle.rms.specs.declared.Marked.{Marked}
use Rattle.reading.specs.Thresholds.{begins, ends, kind_number}
use Rattle.reading.specs.Changes.{sum}
use Rattle.reading.specs.Feed.{last_value}
use Rattle.reading.specs.Restore.{value_most}
use Rattle.threshold.specs.declared.Standing.{Standing}
use Rattle.threshold.specs.Standing.{no_event, stepped, ended_at, standing_of, ValidStanding}
use Rattle.window.specs.declared.Sums.{Sums}
use Rattle.window.specs.Window.{pushed, ValidWindow}
use Rattle.records.specs.declared.Due.{Due}
use Rattle.records.specs.Due.{records_of}
use Rattle.rvc.specs.declared.Phase.TheVariants.{Filling}
use Rattle.rvc.specs.declared.Stands.{Stands}
use Rattle.rvc.specs.Phase.{joining_of, moved_after, phase_of, ValidPhase}
use Rattle.detection.specs.declared.Detector.{Detector}
use Rattle.detection.specs.declared.Joined.{Joined}
use Rattle.detection.specs.declared.Tried.{Tried}

abbrev pub no_value : Detector
no_value = record { count = 0; dip = no_event; swell = no_event; interruption = no_event; phase = Filling }

-- an event of a kind after value i, which is x
abbrev pub step_of : Settings → Kind → ℕ → Marked → Standing → Standing
step_of s k i x p = stepped k i x.value x.clipped (begins s k x.value) (ends s k x.value) p

-- the dips and swells at value i, from those that stand before it and those that stand after it
abbrev pub stands_at : ℕ → Standing → Standing → Standing → Standing → Stands
stands_at i dip_before swell_before dip swell = record { first = dip.start ≡ᵇ i || swell.start ≡ᵇ i; before = 0 <ᵇ dip_before.start || 0 <ᵇ swell_before.start }

-- value x, with the window w and its marks before it: the detector after it, and the records due at it, by kind
unfoldable pub detector_after : Settings → Marked → Detector → List ℕ → List ℕ → Detector
detector_after s x d w ms =
    let i = suc d.count in
    let dip = step_of s Dip i x d.dip in
    let swell = step_of s Swell i x d.swell in
    record {
      count = i;
      dip = dip;
      swell = swell;
      interruption = step_of s Interruption i x d.interruption;
      phase = (moved_after s d.count w ms x.value (stands_at i d.dip d.swell dip swell) d.phase).phase;
    }

unfoldable pub due_by : Settings → Marked → Detector → List ℕ → List ℕ → Due
due_by s x d w ms =
    let i = suc d.count in
    let dip = step_of s Dip i x d.dip in
    let swell = step_of s Swell i x d.swell in
    record {
      dip = ended_at (kind_number Dip) i d.dip dip;
      swell = ended_at (kind_number Swell) i d.swell swell;
      interruption = ended_at (kind_number Interruption) i d.interruption (step_of s Interruption i x d.interruption);
      change = (moved_after s d.count w ms x.value (stands_at i d.dip d.swell dip swell) d.phase).ended;
    }

unfoldable pub due_at : Settings → Marked → Detector → List ℕ → List ℕ → List Record
due_at s x d w ms = records_of (due_by s x d w ms)

-- the sums of a window and its marks; and a value x that joins one of n after v others, with the sums after it
abbrev pub sums_of : List ℕ → List ℕ → Sums
sums_of w ms = record { values = sum w; marks = sum ms }

abbrev pub joined_of : ℕ → ℕ → List ℕ → List ℕ → Marked → Stands → Joined
joined_of n v w ms x stands =
    record { joining = joining_of n v w ms x.value stands; sums = sums_of (pushed n v w x.value) (pushed n v ms (flag x.clipped)) }

-- the detector after a value, the records due at it, and the sums of the window with it
abbrev pub tried_by : Settings → Marked → Detector → List ℕ → List ℕ → Tried
tried_by s x d w ms =
    let n = window_length_of s in
    record {
      after = detector_after s x d w ms;
      due = due_by s x d w ms;
      sums = sums_of (pushed n d.count w x.value) (pushed n d.count ms (flag x.clipped));
    }

-- what a history and its marks leave
abbrev pub detector_of : Settings → List ℕ → List ℕ → Detector
detector_of s hist ms = record {
  count = length hist;
  dip = standing_of s Dip hist ms;
  swell = standing_of s Swell hist ms;
  interruption = standing_of s Interruption hist ms;
  phase = phase_of s hist ms;
}

-- what refusal 11 allows, with a window of n values
pub record ValidDetector (n : ℕ) (d : Detector) : Type 0 where
  pub dip-valid : ValidStanding d.count d.dip
  pub swell-valid : ValidStanding d.count d.swell
  pub interruption-valid : ValidStanding d.count d.interruption
  pub phase-valid : ValidPhase n d.count d.phase

-- what a value x needs of the window of n that it joins after v others: a are the sums of the window w and its marks ms
pub record WindowReady (n v : ℕ) (w ms : List ℕ) (a : Sums) (x : Marked) : Type 0 where
  pub window-valid : ValidWindow value_most n v w
  pub marks-valid : ValidWindow 1 n v ms
  pub sums-are : a ≡ sums_of w ms
  pub value-le : x.value ≤ 524288

-- what the code's step needs: t is scaled from the settings
pub record TryReady (s : Settings) (t : Scaled) (d : Detector) (w ms : List ℕ) (a : Sums) (x : Marked) : Type 0 where
  pub settings-valid : ValidSettings s
  pub scaled-is : t ≡ scaled_of s
  pub window-ready : WindowReady (window_length_of s) d.count w ms a x
  pub detector-valid : ValidDetector (window_length_of s) d
  pub count-lt : d.count < last_value
