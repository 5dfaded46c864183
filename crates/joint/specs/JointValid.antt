-- What holds of what is kept of three channels is kept by the step, from every state of which it holds; and at most four records are due at one value.
use Rattle.std.specs.Prelude.{◌≡◌, true, ◌&&◌, List, ℕ, suc, ◌≤◌, length}
use Rattle.std.proofs.Math.Path.{refl}
use Rattle.std.proofs.Common.{sym, true≢false, arith}
use Rattle.numbers.specs.NotationLaws.{and_left}
use Rattle.settings.specs.declared.Settings.{Settings}
use Rattle.settings.specs.Settings.{window_length_of}
use Rattle.settings.specs.SettingsLaws.{window_length_of-some, window_length_of-most}
use Rattle.reading.specs.declared.Kind.{Kind}
use Rattle.reading.specs.declared.Kind.TheVariants.{Dip, Swell, Interruption}
use Rattle.reading.specs.Changes.{calm}
use Rattle.reading.specs.Restore.{value_most}
use Rattle.threshold.specs.declared.Standing.{Standing}
use Rattle.threshold.specs.Standing.{ValidStanding}
use Rattle.threshold.specs.StandingValid.{no_event-valid, stepped-valid}
use Rattle.window.specs.Window.{pushed, ValidWindow}
use Rattle.records.specs.DueLaws.{records_of-most}
use Rattle.rvc.specs.declared.Stands.{Stands}
use Rattle.rvc.specs.declared.Signal.{Signal}
use Rattle.rvc.specs.declared.Signal.TheVariants.{Filling as IsFilling, Unsettled as IsUnsettled, Steady as IsSteady, Changing as IsChanging}
use Rattle.rvc.specs.declared.Phase.TheVariants.{Filling}
use Rattle.rvc.specs.Signal.{limit_in, steady_after, ValidSignal}
use Rattle.rvc.specs.SignalLaws.{true-full}
use Rattle.rvc.specs.SignalValid.{after-valid}
use Rattle.rvc.specs.PhaseValid.{moved-valid}
use Rattle.rvc.specs.PhaseRuleLaws.{allowed-valid}
use Rattle.detection.specs.Detection.{stands_at}
use Rattle.three_reading.specs.declared.Three.{Three}
use Rattle.three_reading.specs.Three.{Channel, at}
use Rattle.three_reading.specs.Three.Channel.{on_a, on_b, on_c}
use Rattle.three_reading.specs.JointEvents.{joint_begins, joint_ends, worst}
use Rattle.joint.specs.declared.Values.{Values}
use Rattle.joint.specs.declared.Joint.{Joint}
use Rattle.joint.specs.declared.Entering.{Entering}
use Rattle.joint.specs.Joint.{Small3, true_in, own_signal, own_moved_by, entered_true, joint_stepped, standings_after, entering_at, entered_of}
use Rattle.joint.specs.Joint.{joint_after, joint_due_by, joint_due_at, no_own, no_values, ValidJoint}

-- a signal that is true has a full window
full-if : (n v : ℕ) (p : Signal) → ValidSignal n v p → true_in p ≡ true → n ≤ v
full-if n v IsFilling h e = absurd (true≢false (sym e))
full-if n v IsUnsettled h e = h
full-if n v IsSteady h e = h
full-if n v (IsChanging k) h e = absurd (true≢false (sym e))

worst-le : (k : Kind) (r : Three ℕ) → Small3 r → worst k r ≤ 524288
worst-le Dip r h = omega (arith, h on_a)
worst-le Swell r h = omega (arith, h on_a, h on_b, h on_c)
worst-le Interruption r h = omega (arith, h on_a)

module _ (s : Settings) (x : Values) (j : Joint) (ws : Three (List ℕ)) (ms : List ℕ) where
  pub joint_due_at-most : length (joint_due_at s x j ws ms) ≤ 4
  unfolding joint_due_at
  joint_due_at-most = records_of-most (joint_due_by s x j ws ms)

  abbrev n : ℕ
  n = window_length_of s

  abbrev v : ℕ
  v = j.count

  abbrev r : Three ℕ
  r = x.sizes

  module _ (small : Small3 x.sizes) (windows : (c : Channel) → ValidWindow value_most (window_length_of s) j.count (at c ws)) (valid : ValidJoint (window_length_of s) j) where
    step : (k : Kind) (p : Standing) → ValidStanding v p → ValidStanding (suc v) (joint_stepped s k (suc v) x p)
    step k p p-valid = stepped-valid k v (worst k r) x.clipped p (worst-le k r small) p-valid (joint_begins s k r) (joint_ends s k r)

    -- of any channel: its own signal, and its phase under the joint one
    signal-kept : (c : Channel) → ValidSignal n (suc v) (own_signal s v (at c ws) (at c r) (at c j.own).signal)
    signal-kept c =
        let p = (at c j.own).signal in
        let h = valid.signal-valid c in
        after-valid n v (steady_after s v (at c ws) (at c r) p) p (true-full n v p (calm s (limit_in s p) (pushed n v (at c ws) (at c r))) h) h

    abbrev stands : Stands
    stands = stands_at (suc v) j.standings.dip j.standings.swell (standings_after s x j ws ms).dip (standings_after s x j ws ms).swell

    abbrev entered : Three Entering
    entered = entered_of s x j ws ms stands

    full : entered_true entered ≡ true → n ≤ suc v
    full e = full-if n (suc v) entered.a.signal (signal-kept on_a) (and_left (true_in entered.a.signal) (true_in entered.b.signal && true_in entered.c.signal) e)

    own-after : (c : Channel) → at c (joint_after s x j ws ms).own ≡ (own_moved_by n (entering_at s x j ws ms stands c) (entered_true entered) (at c j.own)).own
    unfolding joint_after
    own-after on_a = refl
    own-after on_b = refl
    own-after on_c = refl

    pub joint_after-valid : ValidJoint (window_length_of s) (joint_after s x j ws ms)
    unfolding joint_after
    joint_after-valid = record {
      dip-valid = step Dip j.standings.dip valid.dip-valid;
      swell-valid = step Swell j.standings.swell valid.swell-valid;
      interruption-valid = step Interruption j.standings.interruption valid.interruption-valid;
      signal-valid = λ c. rw (own-after c) (signal-kept c);
      phase-valid = λ c.
          rw (own-after c)
          (moved-valid n v (at c ws) ms (at c r) stands (entered_true entered) (at c j.own).phase (window_length_of-most s) full (windows c) (valid.phase-valid c));
    }

-- before the first value
pub no_values-valid : (s : Settings) → ValidJoint (window_length_of s) no_values
no_values-valid s = record {
  dip-valid = no_event-valid 0;
  swell-valid = no_event-valid 0;
  interruption-valid = no_event-valid 0;
  signal-valid = λ c. rw (own-none c) (window_length_of-some s);
  phase-valid = λ c. rw (own-none c) (allowed-valid (window_length_of s) 0 Filling (window_length_of-some s));
}
  where
    own-none : (c : Channel) → at c no_values.own ≡ no_own
    own-none on_a = refl
    own-none on_b = refl
    own-none on_c = refl
