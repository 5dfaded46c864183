-- One value of each of three channels: the step of the joint events, of each channel's own signal, and of each channel's phase under the joint signal. And what a
-- history of three channels and its marks leave.
use Rattle.std.specs.Prelude.{◌≡◌, Bool, true, false, ◌&&◌, ◌||◌, List, map, ℕ, suc, max, ◌≤◌, ◌<◌, length, if◌then◌else◌, Option, Some, None}
use Rattle.numbers.specs.Notation.{flag}
use Rattle.settings.specs.declared.Settings.{Settings}
use Rattle.settings.specs.declared.Scaled.{Scaled}
use Rattle.settings.specs.declared.Threshold.{Threshold}
use Rattle.settings.specs.Settings.{window_length_of, scaled_of, ValidSettings}
use Rattle.reading.specs.declared.Kind.{Kind}
use Rattle.reading.specs.declared.Kind.TheVariants.{Dip, Swell, Interruption}
use Rattle.reading.specs.declared.Event.{Event}
use Rattle.reading.specs.declared.Record.{Record}
use Rattle.reading.specs.Clipping.{clipped_since}
use Rattle.reading.specs.Thresholds.{kind_number}
use Rattle.reading.specs.Changes.{sum, signal}
use Rattle.reading.specs.Restore.{value_most}
use Rattle.reading.specs.Feed.{last_value}
use Rattle.rms.specs.declared.Marked.{Marked}
use Rattle.threshold.specs.declared.Standing.{Standing}
use Rattle.threshold.specs.Standing.{begins_at, ends_at, no_event, stepped, ended_at, magnitude_since, ValidStanding}
use Rattle.window.specs.declared.Sums.{Sums}
use Rattle.window.specs.Window.{pushed, window_of, ValidWindow}
use Rattle.rvc.specs.declared.Signal.{Signal}
use Rattle.rvc.specs.declared.Signal.TheVariants.{Filling as IsFilling, Unsettled as IsUnsettled, Steady as IsSteady, Changing as IsChanging}
use Rattle.rvc.specs.declared.Phase.TheVariants.{Filling}
use Rattle.rvc.specs.declared.Stands.{Stands}
use Rattle.rvc.specs.Signal.{steady_after, signal_after, signal_of, ValidSignal}
use Rattle.rvc.specs.Phase.{moved_by, phase_under, ValidPhase}
use Rattle.records.specs.declared.Due.{Due}
use Rattle.records.specs.Due.{records_of}
use Rattle.detection.specs.Detection.{stands_at, joined_of, WindowReady}
use Rattle.three_reading.specs.declared.Three.{Three}
use Rattle.three_reading.specs.Three.{each, Channel, at, channel}
use Rattle.three_reading.specs.Three.Channel.{on_a, on_b, on_c}
use Rattle.three_reading.specs.JointEvents.{begins_of, ends_of, joint_begins, joint_ends, joint_since, worst}
use Rattle.three_reading.specs.JointChanges.{signals, joint_first_stand, joint_stood_before}
use Rattle.joint.specs.declared.Values.{Values}
use Rattle.joint.specs.declared.Own.{Own}
use Rattle.joint.specs.declared.Joint.{Joint}
use Rattle.joint.specs.declared.JointSums.{JointSums}
use Rattle.joint.specs.declared.JointTried.{JointTried}
use Rattle.joint.specs.declared.Entering.{Entering}
use Rattle.joint.specs.declared.OwnMoved.{OwnMoved}
use Rattle.joint.specs.declared.Standings.{Standings}

-- the value of one channel, with the mark of the joint value; and the sums of its window, with those of the joint marks
abbrev pub marked_at : Channel → Values → Marked
marked_at c x = record { value = at c x.sizes; clipped = x.clipped }

abbrev pub sums_at : Channel → JointSums → Sums
sums_at c a = record { values = at c a.values; marks = a.marks }

abbrev pub three_of : {X : Type 0} → X → X → X → Three X
three_of x y z = record { a = x; b = y; c = z }

-- no value is above 524,288
abbrev pub Small3 : Three ℕ → Type 0
Small3 r = (c : Channel) → at c r ≤ 524288

-- the two tests against a kind's scaled levels
abbrev pub joint_begins_at : Kind → Threshold → Three ℕ → Bool
joint_begins_at k t r = begins_of k (each (begins_at k t) r)

abbrev pub joint_ends_at : Kind → Threshold → Three ℕ → Bool
joint_ends_at k t r = ends_of k (each (ends_at k t) r)

-- a joint event after value i, as the code tests it and by the reading's tests
abbrev pub joint_stepped_at : Kind → Threshold → ℕ → Values → Standing → Standing
joint_stepped_at k t i x p = let r = x.sizes in stepped k i (worst k r) x.clipped (joint_begins_at k t r) (joint_ends_at k t r) p

abbrev pub joint_stepped : Settings → Kind → ℕ → Values → Standing → Standing
joint_stepped s k i x p = let r = x.sizes in stepped k i (worst k r) x.clipped (joint_begins s k r) (joint_ends s k r) p

abbrev pub standings_by : Scaled → ℕ → Values → Standings → Standings
standings_by t i x p = record {
  dip = joint_stepped_at Dip t.dip i x p.dip;
  swell = joint_stepped_at Swell t.swell i x p.swell;
  interruption = joint_stepped_at Interruption t.interruption i x p.interruption;
}

-- whether a signal is true
abbrev pub true_in : Signal → Bool
true_in IsFilling = false
true_in IsUnsettled = false
true_in IsSteady = true
true_in (IsChanging k) = false

-- a change that ends in two channels: each magnitude by itself the worse
abbrev pub worse_record : Record → Record → Record
worse_record x y =
    let e = x.event in
    let f = y.event in
    let worse : Event = record { kind = e.kind; start = e.start; duration = e.duration; first = max e.first f.first; second = max e.second f.second } in
    record { event = worse; clipped = x.clipped || y.clipped }

abbrev pub worse_ended : Option Record → Option Record → Option Record
worse_ended None e = None
worse_ended (Some x) None = None
worse_ended (Some x) (Some y) = Some (worse_record x y)

-- value r of a channel after v values, whose window is w: the own signal at it, and what joins the window
abbrev pub own_signal : Settings → ℕ → List ℕ → ℕ → Signal → Signal
own_signal s v w r p = signal_after (window_length_of s) (suc v) (steady_after s v w r p) p

abbrev pub entering_of : Settings → ℕ → List ℕ → List ℕ → Marked → Stands → Own → Entering
entering_of s v w ms y stands o =
    let j = joined_of (window_length_of s) v w ms y stands in
    record { joining = j.joining; sums = j.sums; signal = own_signal s v w y.value o.signal }

-- the phase, under the joint signal
abbrev pub own_moved_by : ℕ → Entering → Bool → Own → OwnMoved
own_moved_by n e is_steady o =
    let m = moved_by n e.joining is_steady o.phase in
    record { own = record { signal = e.signal; phase = m.phase }; ended = m.ended }

-- the same of each channel: the joint signal is true where all three own ones are
abbrev pub entered_true : Three Entering → Bool
entered_true e = true_in e.a.signal && (true_in e.b.signal && true_in e.c.signal)

-- values that leave are small
abbrev pub EnteredSmall : Three Entering → Type 0
EnteredSmall e = (c : Channel) → (at c e).joining.leaving ≤ 524288

abbrev pub all_moved_by : ℕ → Three Entering → Joint → Three OwnMoved
all_moved_by n e j =
    let b = entered_true e in
    record { a = own_moved_by n e.a b j.own.a; b = own_moved_by n e.b b j.own.b; c = own_moved_by n e.c b j.own.c }

-- what is kept after value i, the records due at it, by kind, and the sums of the windows with it: of a change the worst channel's magnitudes
abbrev pub after_from : ℕ → Standings → Three OwnMoved → Joint
after_from i p w = record { own = each (λ (k : OwnMoved). k.own) w; count = i; standings = p }

abbrev pub due_from : ℕ → Standings → Three OwnMoved → Joint → Due
due_from i p w j = record {
  dip = ended_at (kind_number Dip) i j.standings.dip p.dip;
  swell = ended_at (kind_number Swell) i j.standings.swell p.swell;
  interruption = ended_at (kind_number Interruption) i j.standings.interruption p.interruption;
  change = worse_ended w.a.ended (worse_ended w.b.ended w.c.ended);
}

abbrev pub sums_from : Three Entering → JointSums
sums_from e = record { values = each (λ (k : Entering). k.sums.values) e; marks = e.a.sums.marks }

-- value x, with the windows ws and the marks of the joint values before it
module _ (s : Settings) (x : Values) (j : Joint) (ws : Three (List ℕ)) (ms : List ℕ) where
  abbrev pub standings_after : Standings
  standings_after =
      let i = suc j.count in
      record {
        dip = joint_stepped s Dip i x j.standings.dip;
        swell = joint_stepped s Swell i x j.standings.swell;
        interruption = joint_stepped s Interruption i x j.standings.interruption;
      }

  -- what joins the windows, with the joint dips and swells at it
  abbrev pub entering_at : Stands → Channel → Entering
  entering_at stands c = entering_of s j.count (at c ws) ms (marked_at c x) stands (at c j.own)

  abbrev pub entered_of : Stands → Three Entering
  entered_of stands = record { a = entering_at stands on_a; b = entering_at stands on_b; c = entering_at stands on_c }

  abbrev pub all_moved_of : Three OwnMoved
  all_moved_of = all_moved_by (window_length_of s) (entered_of (stands_at (suc j.count) j.standings.dip j.standings.swell standings_after.dip standings_after.swell)) j

  unfoldable pub joint_after : Joint
  joint_after = after_from (suc j.count) standings_after all_moved_of

  unfoldable pub joint_due_by : Due
  joint_due_by = due_from (suc j.count) standings_after all_moved_of j

  unfoldable pub joint_due_at : List Record
  joint_due_at = records_of joint_due_by

-- the sums of the windows
abbrev pub joint_sums_of : Three (List ℕ) → List ℕ → JointSums
joint_sums_of ws ms = record { values = each sum ws; marks = sum ms }

-- each channel's window with its value
abbrev pub pushed_all : ℕ → ℕ → Three (List ℕ) → Three ℕ → Three (List ℕ)
pushed_all n v ws r = record { a = pushed n v ws.a r.a; b = pushed n v ws.b r.b; c = pushed n v ws.c r.c }

-- what is kept and what is due, with the sums of the windows after it
abbrev pub joint_tried_by : Settings → Values → Joint → Three (List ℕ) → List ℕ → JointTried
joint_tried_by s x j ws ms =
    let n = window_length_of s in
    record {
      after = joint_after s x j ws ms;
      due = joint_due_by s x j ws ms;
      sums = joint_sums_of (pushed_all n j.count ws x.sizes) (pushed n j.count ms (flag x.clipped));
    }

-- before the first value
abbrev pub no_own : Own
no_own = record { signal = IsFilling; phase = Filling }

abbrev pub no_values : Joint
no_values = record {
  own = record { a = no_own; b = no_own; c = no_own };
  count = 0;
  standings = record { dip = no_event; swell = no_event; interruption = no_event };
}

-- what a change since k keeps of the joint dips and swells, as a change of one channel does
abbrev pub joint_stand : Settings → ℕ → List (Three ℕ) → ℕ
joint_stand s k hist = if joint_stood_before s k hist then k else joint_first_stand s k hist

-- what a history and its marks leave: of a joint event, of one channel, and of all
abbrev pub joint_standing : Settings → Kind → List (Three ℕ) → List ℕ → Standing
joint_standing s k hist ms =
    let a = joint_since s k hist in
    record { start = a; magnitude = magnitude_since k a (map (worst k) hist); clipped = clipped_since a ms }

abbrev pub own_of : Settings → Channel → List (Three ℕ) → List ℕ → Own
own_of s c hist ms = record {
  signal = signal_of (signal s (channel c hist));
  phase = phase_under s (channel c hist) ms (λ k. joint_stand s k hist) (signals s hist).joint;
}

abbrev pub joint_of : Settings → List (Three ℕ) → List ℕ → Joint
joint_of s hist ms = record {
  own = record { a = own_of s on_a hist ms; b = own_of s on_b hist ms; c = own_of s on_c hist ms };
  count = length hist;
  standings =
      record { dip = joint_standing s Dip hist ms; swell = joint_standing s Swell hist ms; interruption = joint_standing s Interruption hist ms };
}

abbrev pub windows_of : ℕ → List (Three ℕ) → Three (List ℕ)
windows_of n hist = record { a = window_of n (channel on_a hist); b = window_of n (channel on_b hist); c = window_of n (channel on_c hist) }

-- what holds of it, with windows of n values
pub record ValidJoint (n : ℕ) (j : Joint) : Type 0 where
  pub dip-valid : ValidStanding j.count j.standings.dip
  pub swell-valid : ValidStanding j.count j.standings.swell
  pub interruption-valid : ValidStanding j.count j.standings.interruption
  pub signal-valid : (c : Channel) → ValidSignal n j.count (at c j.own).signal
  pub phase-valid : (c : Channel) → ValidPhase n j.count (at c j.own).phase

-- what the code's step of one channel needs: t is scaled from the settings
pub record EnterReady (s : Settings) (t : Scaled) (v : ℕ) (w ms : List ℕ) (a : Sums) (y : Marked) (o : Own) : Type 0 where
  pub settings-valid : ValidSettings s
  pub scaled-is : t ≡ scaled_of s
  pub window-ready : WindowReady (window_length_of s) v w ms a y
  pub signal-valid : ValidSignal (window_length_of s) v o.signal
  pub count-lt : v < last_value

-- and of all three
pub record JointReady (s : Settings) (t : Scaled) (j : Joint) (ws : Three (List ℕ)) (ms : List ℕ) (a : JointSums) (x : Values) : Type 0 where
  pub settings-valid : ValidSettings s
  pub scaled-is : t ≡ scaled_of s
  pub window-valid : (c : Channel) → ValidWindow value_most (window_length_of s) j.count (at c ws)
  pub marks-valid : ValidWindow 1 (window_length_of s) j.count ms
  pub joint-valid : ValidJoint (window_length_of s) j
  pub sums-are : a ≡ joint_sums_of ws ms
  pub values-le : Small3 x.sizes
  pub count-lt : j.count < last_value
