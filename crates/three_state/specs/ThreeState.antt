-- What a three-phase logger keeps: of a fresh one, of one that three recordings leave, what look tells of it, and what holds of it.
use Rattle.std.specs.Prelude.{◌≡◌, List, ℕ, ◌-◌, min, ◌≤◌, replicate, get_or, ℤ, if◌then◌else◌}
use Rattle.numbers.specs.Notation.{◌<ᵇ◌}
use Rattle.settings.specs.declared.Settings.{Settings}
use Rattle.settings.specs.Settings.{window_length_of, ValidSettings}
use Rattle.reading.specs.Changes.{window_sum}
use Rattle.reading.specs.Layout.{places}
use Rattle.reading.specs.Restore.{value_most}
use Rattle.reading.specs.Feed.{last_value}
use Rattle.rms.specs.declared.Gatherer.{Gatherer}
use Rattle.rms.specs.Gather.{no_sample, gatherer_of, ValidGatherer}
use Rattle.window.specs.Window.{window_of, ValidWindow}
use Rattle.state.specs.State.{phase_number_of}
use Rattle.three_reading.specs.declared.ChannelReadings.{ChannelReadings}
use Rattle.three_reading.specs.ThreeReadings.{ThreeReadings}
use Rattle.three_reading.specs.declared.Three.{Three}
use Rattle.three_reading.specs.Three.{Channel, at, channel, joint_count, joint_marks, joint_values}
use Rattle.three_reading.specs.Three.Channel.{on_a, on_b, on_c}
use Rattle.joint.specs.declared.Joint.{Joint}
use Rattle.joint.specs.Joint.{three_of, joint_of, no_values, windows_of, ValidJoint}
use Rattle.three_state.specs.declared.ThreeState.{ThreeState}

-- a state in its parts
abbrev pub three_with : Settings → Three Gatherer → Joint → Three (List ℕ) → List ℕ → ThreeState
three_with s g j ws ms = record { settings = s; gatherers = g; joint = j; windows = ws; marks = ms }

-- a fresh logger: it has taken no triple
abbrev pub no_samples : Three Gatherer
no_samples = record { a = no_sample; b = no_sample; c = no_sample }

unfoldable pub three_fresh : Settings → ThreeState
three_fresh s = let none : List ℕ = replicate places 0 in three_with s no_samples no_values (three_of none none none) none

-- the state that a history and its marks leave, whatever the gatherers; and the one that three recordings leave
abbrev pub gatherers_of : Settings → List (Three ℤ) → Three Gatherer
gatherers_of s rec = record { a = gatherer_of s (channel on_a rec); b = gatherer_of s (channel on_b rec); c = gatherer_of s (channel on_c rec) }

abbrev pub three_on : Settings → Three Gatherer → List (Three ℕ) → List ℕ → ThreeState
three_on s g hist ms = three_with s g (joint_of s hist ms) (windows_of (window_length_of s) hist) (window_of (window_length_of s) ms)

abbrev pub three_state_of : Settings → List (Three ℤ) → ThreeState
three_state_of s rec = three_on s (gatherers_of s rec) (joint_values s rec) (joint_marks s rec (joint_count s rec))

-- look: of one channel, from its window after v values
abbrev pub channel_readings_of : Settings → ℕ → List ℕ → ChannelReadings
channel_readings_of s v w = record {
  count = v;
  value = get_or w (min v (window_length_of s) - 1) 0;
  sum = if v <ᵇ window_length_of s then 0 else window_sum s w;
}

-- the joint phase is channel a's: a recording leaves each channel's phase under the one joint signal (`own_of`), whose number it has (`three-readings-of`)
unfoldable pub three_readings_of : ThreeState → ThreeReadings
three_readings_of st = record {
  a = channel_readings_of st.settings st.joint.count st.windows.a;
  b = channel_readings_of st.settings st.joint.count st.windows.b;
  c = channel_readings_of st.settings st.joint.count st.windows.c;
  phase = phase_number_of st.joint.own.a.phase;
  dip = 0 <ᵇ st.joint.standings.dip.start;
  swell = 0 <ᵇ st.joint.standings.swell.start;
  interruption = 0 <ᵇ st.joint.standings.interruption.start;
}

-- the invariant of a three-phase logger: of each channel what holds of one; the channels are cut at one place
pub record ValidThree (st : ThreeState) : Type 0 where
  pub settings-valid : ValidSettings st.settings
  pub gatherer-valid : (c : Channel) → ValidGatherer st.settings.samples (at c st.gatherers)
  pub joint-valid : ValidJoint (window_length_of st.settings) st.joint
  pub window-valid : (c : Channel) → ValidWindow value_most (window_length_of st.settings) st.joint.count (at c st.windows)
  pub marks-valid : ValidWindow 1 (window_length_of st.settings) st.joint.count st.marks
  pub count-le : st.joint.count ≤ last_value
  pub same_count : (c : Channel) → (at c st.gatherers).count ≡ st.gatherers.a.count
  pub same_whole : (c : Channel) → (at c st.gatherers).whole ≡ st.gatherers.a.whole
