-- What a logger keeps: of a fresh one, of one that a recording leaves, what look tells of it, and what refusal 11 allows.
use Rattle.std.specs.Prelude.{List, ℕ, ◌-◌, ◌≤◌, min, replicate, get_or, ℤ, if◌then◌else◌}
use Rattle.numbers.specs.Notation.{◌<ᵇ◌, flag}
use Rattle.numbers.specs.Rules.{Holds}
use Rattle.settings.specs.declared.Settings.{Settings}
use Rattle.settings.specs.Settings.{window_length_of, ValidSettings}
use Rattle.reading.specs.Readings.{Readings}
use Rattle.reading.specs.Values.{values}
use Rattle.reading.specs.Clipping.{marks_of}
use Rattle.reading.specs.Changes.{window_sum}
use Rattle.reading.specs.Feed.{last_value}
use Rattle.reading.specs.Restore.{value_most, whole_rule}
use Rattle.reading.specs.Layout.{places}
use Rattle.rms.specs.declared.Gatherer.{Gatherer}
use Rattle.rms.specs.Gather.{no_sample, gatherer_of, ValidGatherer}
use Rattle.window.specs.Window.{window_of, ValidWindow}
use Rattle.rvc.specs.declared.Phase.{Phase}
use Rattle.rvc.specs.Phase.{phase_row}
use Rattle.detection.specs.declared.Detector.{Detector}
use Rattle.detection.specs.Detection.{no_value, detector_of, ValidDetector}
use Rattle.state.specs.declared.State.{State}

-- a fresh logger: it has taken no sample
unfoldable pub fresh : Settings → State
fresh s = record { settings = s; gatherer = no_sample; detector = no_value; window = replicate places 0; marks = replicate places 0 }

-- a state in the parts that the code keeps it in
abbrev pub state_with : Settings → Gatherer → Detector → List ℕ → List ℕ → State
state_with s g d w ms = record { settings = s; gatherer = g; detector = d; window = w; marks = ms }

-- the state that a history and its marks leave, whatever the gatherer; and the one that a recording leaves
abbrev pub state_on : Settings → Gatherer → List ℕ → List ℕ → State
state_on s g hist ms = state_with s g (detector_of s hist ms) (window_of (window_length_of s) hist) (window_of (window_length_of s) ms)

abbrev pub state_of : Settings → List ℤ → State
state_of s rec = state_on s (gatherer_of s rec) (values s rec) (marks_of s rec)

-- look: the phase's number is the first of its row
abbrev pub phase_number_of : Phase → ℕ
phase_number_of p = get_or (phase_row p) 0 0

unfoldable pub readings_of : State → Readings
readings_of st =
    let n = window_length_of st.settings in
    let v = st.detector.count in
    record {
      count = v;
      value = get_or st.window (min v n - 1) 0;
      sum = if v <ᵇ n then 0 else window_sum st.settings st.window;
      phase = phase_number_of st.detector.phase;
      dip = 0 <ᵇ st.detector.dip.start;
      swell = 0 <ᵇ st.detector.swell.start;
      interruption = 0 <ᵇ st.detector.interruption.start;
    }

-- what refusal 11 and valid settings allow: the invariant of a logger
pub record ValidState (st : State) : Type 0 where
  pub settings-valid : ValidSettings st.settings
  pub gatherer-valid : ValidGatherer st.settings.samples st.gatherer
  pub detector-valid : ValidDetector (window_length_of st.settings) st.detector
  pub window-valid : ValidWindow value_most (window_length_of st.settings) st.detector.count st.window
  pub marks-valid : ValidWindow 1 (window_length_of st.settings) st.detector.count st.marks
  pub count-le : st.detector.count ≤ last_value
  pub none-whole : Holds (whole_rule (flag st.gatherer.whole) st.detector.count)
