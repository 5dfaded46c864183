-- What holds of every state of three channels: parts keep it, and the fresh one has it. Parts have at most four records due, and pass V's end only where V is there.
use Rattle.std.specs.Prelude.{◌≡◌, refl, Bool, true, false, List, [], ◌∷◌, ℕ, ◌+◌, ◌≤◌, ◌<◌, length, replicate, if◌then◌else◌}
use Rattle.std.proofs.Common.{sym, ap₂, subst, arith, ltb-false, le-ltb}
use Rattle.numbers.specs.Notation.{flag}
use Rattle.numbers.specs.NotationLaws.{flag-most}
use Rattle.settings.specs.declared.Settings.{Settings}
use Rattle.settings.specs.Settings.{window_length_of, ValidSettings}
use Rattle.settings.specs.SettingsLaws.{window_length_of-some, window_length_of-most}
use Rattle.reading.specs.Layout.{places}
use Rattle.reading.specs.Restore.{value_most}
use Rattle.reading.specs.Feed.{last_value}
use Rattle.rms.specs.declared.Gatherer.{Gatherer}
use Rattle.rms.specs.Gather.{no_sample, with_part, with_half, value_with, ValidGatherer, PartFits}
use Rattle.rms.specs.GatherLaws.{value-le, with_part-valid, with_half-valid}
use Rattle.rms.specs.GatherFollows.{no_sample-is, gatherer_of-valid}
use Rattle.window.specs.Window.{pushed, ValidWindow}
use Rattle.window.specs.WindowValid.{pushed-valid, window_of-valid}
use Rattle.window.specs.WindowFollows.{window_of-none}
use Rattle.rms.specs.declared.Part.{Part}
use Rattle.three_reading.specs.declared.Three.{Three}
use Rattle.three_reading.specs.declared.Three.{Three}
use Rattle.three_reading.specs.Three.{Channel, at}
use Rattle.three_reading.specs.Three.Channel.{on_a, on_b, on_c}
use Rattle.joint.specs.declared.Values.{Values}
use Rattle.joint.specs.Joint.{three_of, Small3, joint_after, pushed_all}
use Rattle.joint.specs.JointValid.{joint_due_at-most, joint_after-valid, no_values-valid}
use Rattle.three_state.specs.declared.ThreeState.{ThreeState}
use Rattle.three_state.specs.ThreeState.{no_samples, three_fresh, ValidThree}
use Rattle.three_state.specs.ThreeStep.{with_joint, with_joints, due_on_three, with_gatherers, with_parts, with_halves, values_with, values_out}
use Rattle.three_state.specs.ThreeStep.{three_passes, three_half_due, three_half, three_part}

-- a value of each channel into a state
pushed_at : (c : Channel) (n v : ℕ) (ws : Three (List ℕ)) (r : Three ℕ) → at c (pushed_all n v ws r) ≡ pushed n v (at c ws) (at c r)
pushed_at on_a n v ws r = refl
pushed_at on_b n v ws r = refl
pushed_at on_c n v ws r = refl

with_joint-valid : (x : Values) (st : ThreeState) → Small3 x.sizes → st.joint.count < last_value → ValidThree st → ValidThree (with_joint x st)
unfolding joint_after
with_joint-valid x st small below ok =
    let s = st.settings in
    let n = window_length_of s in
    let v = st.joint.count in
    let some = window_length_of-some s in
    let most = window_length_of-most s in
    record {
      settings-valid = ok.settings-valid;
      gatherer-valid = ok.gatherer-valid;
      joint-valid = joint_after-valid s x st.joint st.windows st.marks small ok.window-valid ok.joint-valid;
      window-valid = λ c.
          rw (pushed_at c n v st.windows x.sizes) (pushed-valid n v (at c x.sizes) (at c st.windows) some most (small c) (ok.window-valid c));
      marks-valid = pushed-valid n v (flag x.clipped) st.marks some most (flag-most x.clipped) ok.marks-valid;
      count-le = below;
      same_count = ok.same_count;
      same_whole = ok.same_whole;
    }

-- a part of one channel, which leaves the half-cycle in progress or ends it
part-at : (c : Channel) (g : Three Gatherer) (p : Three Part) → at c (with_parts g p) ≡ with_part (at c g) (at c p)
part-at on_a g p = refl
part-at on_b g p = refl
part-at on_c g p = refl

half_at : (c : Channel) (g : Three Gatherer) (p : Three Part) → at c (with_halves g p) ≡ with_half (at c g) (at c p)
half_at on_a g p = refl
half_at on_b g p = refl
half_at on_c g p = refl

-- the three channels' parts, of one count
module _ (st : ThreeState) (p : Three Part) (ok : ValidThree st) (fits : (c : Channel) → PartFits st.settings.samples (at c st.gatherers) (at c p)) where
  abbrev m : ℕ
  m = st.settings.samples

  abbrev own : Channel → Gatherer
  own c = at c st.gatherers

  with_gatherers-valid : (g : Three Gatherer) → ((c : Channel) → ValidGatherer m (at c g)) → ((c : Channel) → (at c g).count ≡ g.a.count)
      → ((c : Channel) → (at c g).whole ≡ g.a.whole) → ValidThree (with_gatherers st g)
  with_gatherers-valid g valid same_count same_whole = record {
    settings-valid = ok.settings-valid;
    gatherer-valid = valid;
    joint-valid = ok.joint-valid;
    window-valid = ok.window-valid;
    marks-valid = ok.marks-valid;
    count-le = ok.count-le;
    same_count = same_count;
    same_whole = same_whole;
  }

  pub three_part-valid : ((c : Channel) → (at c p).count ≡ p.a.count) → st.gatherers.a.count + p.a.count < st.settings.samples → ValidThree (three_part st p)
  three_part-valid same below =
      with_gatherers-valid (with_parts st.gatherers p)
      (λ c. rw (part-at c st.gatherers p) (with_part-valid m (own c) (at c p) (ok.gatherer-valid c) (fits c) (omega (arith, ok.same_count c, same c))))
      (λ c. rw (part-at c st.gatherers p) (ap₂ ◌+◌ (ok.same_count c) (same c)))
      (λ c. rw (part-at c st.gatherers p) (ok.same_whole c))

  pub three_half-valid : three_passes st p ≡ false → ValidThree (three_half st p)
  unfolding three_passes three_half
  three_half-valid within = go st.gatherers.a.whole (ltb-false last_value (length (values_out st p) + st.joint.count) within)
    where
      half : ThreeState
      half = with_gatherers st (with_halves st.gatherers p)

      half-valid : ValidThree half
      half-valid =
          with_gatherers-valid (with_halves st.gatherers p)
          (λ c. rw (half_at c st.gatherers p) (with_half-valid m (own c) (at c p) (ok.gatherer-valid c) (fits c)))
          (λ c. rw (half_at c st.gatherers p))
          (λ c. rw (half_at c st.gatherers p))

      value-at : (c : Channel) → at c (values_with m st.gatherers p).sizes ≡ (value_with m (own c) (at c p)).value
      value-at on_a = refl
      value-at on_b = refl
      value-at on_c = refl

      go : (b : Bool) → let xs = if b then values_with m st.gatherers p ∷ [] else [] in length xs + st.joint.count ≤ last_value → ValidThree (with_joints xs half)
      go false h = half-valid
      go true h =
          with_joint-valid (values_with m st.gatherers p) half
          (λ c. rw (value-at c) (value-le m (own c) (at c p) (ok.gatherer-valid c) (fits c)))
          (omega arith) half-valid

-- a fresh state
no-sample-valid : (s : Settings) → 0 < s.samples → ValidGatherer s.samples no_sample
no-sample-valid s some = subst (ValidGatherer s.samples) (sym (no_sample-is s some)) (gatherer_of-valid s some [] tt)

no-value-valid : (s : Settings) (most : ℕ) → ValidWindow most (window_length_of s) 0 (replicate places 0)
no-value-valid s most =
    let n = window_length_of s in
    subst (ValidWindow most n 0) (window_of-none n) (window_of-valid n [] (window_length_of-some s) (window_length_of-most s) (λ i. omega arith))

pub three_fresh-valid : (s : Settings) → ValidSettings s → ValidThree (three_fresh s)
unfolding three_fresh
three_fresh-valid s valid = record {
  settings-valid = valid;
  gatherer-valid = λ c. rw (none-at c) (no-sample-valid s (omega (arith, valid.samples-valid.0)));
  joint-valid = no_values-valid s;
  window-valid = λ c. rw (window-at c) (no-value-valid s value_most);
  marks-valid = no-value-valid s 1;
  count-le = omega arith;
  same_count = λ c. rw (none-at c);
  same_whole = λ c. rw (none-at c);
}
  where
    none : List ℕ
    none = replicate places 0

    none-at : (c : Channel) → at c no_samples ≡ no_sample
    none-at on_a = refl
    none-at on_b = refl
    none-at on_c = refl

    window-at : (c : Channel) → at c (three_of none none none) ≡ none
    window-at on_a = refl
    window-at on_b = refl
    window-at on_c = refl

-- the records due with parts are four at most
pub three_half_due-most : (st : ThreeState) (p : Three Part) → length (three_half_due st p) ≤ 4
unfolding three_half_due
three_half_due-most st p = go st.gatherers.a.whole
  where
    go : (b : Bool) → length (due_on_three (if b then values_with st.settings.samples st.gatherers p ∷ [] else []) st) ≤ 4
    go true = joint_due_at-most st.settings (values_with st.settings.samples st.gatherers p) st.joint st.windows st.marks
    go false = omega arith

pub three-within-end : (st : ThreeState) (p : Three Part) → st.joint.count < last_value → three_passes st p ≡ false
unfolding three_passes
three-within-end st p below = le-ltb last_value (length (values_out st p) + st.joint.count) (go st.gatherers.a.whole)
  where
    go : (b : Bool) → length (if b then values_with st.settings.samples st.gatherers p ∷ [] else []) + st.joint.count ≤ last_value
    go true = omega arith
    go false = omega arith
