-- The state follows the three recordings: stepped by a triple, the state that they leave is the one that the longer ones leave, with the records that the reading
-- has due; and its readings are the reading's.
use Rattle.std.specs.Prelude.{◌≡◌, Bool, not, List, [], ◌∷◌, ◌++◌, map, ℕ, suc, ◌+◌, ◌-◌, ◌/◌, ◌%◌, ◌≤◌, ◌<◌, get_or, ℤ, if◌then◌else◌}
use Rattle.std.proofs.Math.Path.{refl, sym, ap}
use Rattle.std.proofs.Common.{◌∙◌, arith, mod-lt, le-ltb}
use Rattle.std.proofs.Math.Bool.{true, false}
use Rattle.std.proofs.Math.ListN.{length}
use Rattle.numbers.specs.Notation.{◌<ᵇ◌, ◌≡ᵇ◌, flag}
use Rattle.numbers.specs.NotationLaws.{past-not, flag-back}
use Rattle.settings.specs.declared.Settings.{Settings}
use Rattle.settings.specs.Settings.{window_length_of}
use Rattle.settings.specs.SettingsLaws.{window_length_of-some, window_length_of-most}
use Rattle.reading.specs.Readings.{Readings}
use Rattle.reading.specs.declared.Kind.TheVariants.{Dip, Swell, Interruption}
use Rattle.reading.specs.Values.{value_count, history, values}
use Rattle.reading.specs.Clipping.{value_clipped, marks, marks_of, record_of}
use Rattle.reading.specs.Changes.{Signal}
use Rattle.reading.specs.Changes.Signal.{filling, unsettled, steady, changing}
use Rattle.reading.specs.Feed.{last_value}
use Rattle.reading.specs.Image.{phase_number}
use Rattle.reading_laws.specs.Past.{completed_in, within_end_in}
use Rattle.reading_laws.specs.RecordingsLaws.{length-history}
use Rattle.rms.specs.declared.Marked.{Marked}
use Rattle.rms.specs.declared.Gatherer.{Gatherer}
use Rattle.rms.specs.Gather.{part_of, with_part, with_half, ends_with, value_with, value_from, gatherer_of}
use Rattle.rms.specs.CutLaws.{ends_with-is}
use Rattle.rms.specs.GatherFollows.{gatherer-follows, values-follow, marks-follow, no_sample-is}
use Rattle.window.specs.Window.{pushed, window_of}
use Rattle.window.specs.WindowFollows.{window_of-none, window-follows}
use Rattle.rvc.specs.Phase.{phase_under}
use Rattle.greedy.specs.Cutter.{ends_half}
use Rattle.greedy.proofs.GreedyFollows.{StepsFollow}
use Rattle.state.specs.State.{phase_number_of, readings_of}
use Rattle.state.proofs.StepFollows.{halves-none, readings-of}
use Rattle.rms.specs.declared.Part.{Part}
use Rattle.three_reading.specs.declared.Three.{Three}
use Rattle.three_reading.specs.Three.{any_of, Channel, at, channel, joint_count, joint_value, joint_history, joint_values, joint_marks}
use Rattle.three_reading.specs.Three.Channel.{on_a, on_b, on_c}
use Rattle.three_reading.specs.JointEvents.{joint_since}
use Rattle.three_reading.specs.JointChanges.{signals}
use Rattle.three_reading.specs.JointRecords.{joint_due, joint_records_at}
use Rattle.three_reading.specs.ThreeFeed.{joint_due_after}
use Rattle.three_reading.specs.ThreeEngineer.{channel_readings, joint_readings}
use Rattle.three_laws.specs.ChannelLaws.{length-channel, channel-append}
use Rattle.three_laws.specs.RecordingsLaws.{count-channel, length-joint_history, length-joint_marks, channel-value, channel-history, joint_history-grow, joint_marks-grow}
use Rattle.three_laws.specs.ThreePast.{three_past}
use Rattle.joint.specs.declared.Values.{Values}
use Rattle.joint.specs.Joint.{three_of, no_values, joint_stand}
use Rattle.joint.specs.JointFollows.{joint-follows, joint-due-follows}
use Rattle.three_state.specs.ThreeState.{three_with, three_fresh, gatherers_of, three_on, three_state_of, channel_readings_of, three_readings_of}
use Rattle.three_state.specs.ThreeStep.{with_joint, with_joints, due_on_three, with_gatherers, parts_of, with_parts, with_halves, jointly, values_with}
use Rattle.three_state.specs.ThreeStep.{three_passes, three_half_due, three_half, three_part, three_cutter, three_machine}

-- a value of each channel more
module _ (s : Settings) (g : Three Gatherer) (hist : List (Three ℕ)) (ms : List ℕ) (beside : length ms ≡ length hist) (x : Values) where
  abbrev marked : List ℕ
  marked = flag x.clipped ∷ ms

  window_on : (c : Channel) → let n = window_length_of s in
      pushed n (length hist) (window_of n (channel c hist)) (at c x.sizes) ≡ window_of n (channel c (x.sizes ∷ hist))
  window_on c =
      let n = window_length_of s in
      ap (λ (v : ℕ). pushed n v (window_of n (channel c hist)) (at c x.sizes)) (sym (length-channel c hist))
      ∙ window-follows n (at c x.sizes) (channel c hist) (window_length_of-some s) (window_length_of-most s)

  marks-on : let n = window_length_of s in pushed n (length hist) (window_of n ms) (flag x.clipped) ≡ window_of n marked
  marks-on =
      let n = window_length_of s in
      ap (λ (v : ℕ). pushed n v (window_of n ms) (flag x.clipped)) (sym beside)
      ∙ window-follows n (flag x.clipped) ms (window_length_of-some s) (window_length_of-most s)

  with_joint-follows : with_joint x (three_on s g hist ms) ≡ three_on s g (x.sizes ∷ hist) (flag x.clipped ∷ ms)
  with_joint-follows = λ i.
      three_with s g (joint-follows s x.sizes hist x.clipped ms beside i) (three_of (window_on on_a i) (window_on on_b i) (window_on on_c i)) (marks-on i)

-- what comes out with a sample: one where it ends a half-cycle and the one before was whole
abbrev out : {X : Type 0} → Bool → Bool → X → List X
out ends whole x = if ends then (if whole then x ∷ [] else []) else []

out-most : {X : Type 0} (ends whole : Bool) (x : X) → length (out ends whole x) ≤ 1
out-most true true x = omega arith
out-most true false x = omega arith
out-most false whole x = omega arith

-- one triple
module _ (s : Settings) (some : 0 < s.samples) (rec : List (Three ℤ)) (x : Three ℤ) where
  abbrev m : ℕ
  m = s.samples

  abbrev longer : List (Three ℤ)
  longer = rec ++ (x ∷ [])

  abbrev v : ℕ
  v = joint_count s rec

  abbrev w : ℕ
  w = joint_count s longer

  abbrev g : Three Gatherer
  g = gatherers_of s rec

  abbrev p : Three Part
  p = parts_of (x ∷ [])

  abbrev ends : Bool
  ends = ends_half three_cutter (three_state_of s rec) x

  abbrev whole : Bool
  whole = g.a.whole

  -- of any channel: what its own recording leaves, and the value that comes out of it, with its mark
  abbrev own : Channel → Gatherer
  own c = gatherer_of s (channel c rec)

  abbrev one : Channel → Marked
  one c = value_with m (own c) (part_of (at c x ∷ []))

  same_ends : (c : Channel) → ends_with m (own c) (at c x) ≡ ends
  same_ends c =
      ends_with-is m (own c) (mod-lt (length (channel c rec)) some) (at c x)
      ∙ ap (λ (n : ℕ). n % m + 1 ≡ᵇ m) (length-channel c rec ∙ sym (length-channel on_a rec))
      ∙ sym (ends_with-is m (own on_a) (mod-lt (length (channel on_a rec)) some) x.a)

  same_whole : (c : Channel) → (own c).whole ≡ whole
  same_whole c = ap (λ (n : ℕ). 0 <ᵇ n / m) (length-channel c rec ∙ sym (length-channel on_a rec))

  out-is : (c : Channel) → (if ends_with m (own c) (at c x) then value_from m (own c) (part_of (at c x ∷ [])) else []) ≡ out ends whole (one c)
  unfolding value_from
  out-is c = λ i. out (same_ends c i) (same_whole c i) (one c)

  longer-is : (c : Channel) → channel c longer ≡ channel c rec ++ (at c x ∷ [])
  longer-is c = channel-append c rec (x ∷ [])

  -- the values, or their marks
  abbrev Grown : (List ℤ → List ℕ) → (Marked → ℕ) → Bool → Bool → Type 0
  Grown list of ends whole = (c : Channel) → list (channel c longer) ≡ map of (out ends whole (one c)) ++ list (channel c rec)

  values-grow : Grown (values s) (λ y. y.value) ends whole
  values-grow c =
      ap (values s) (longer-is c)
      ∙ values-follow s some (channel c rec) (at c x)
      ∙ ap (λ (l : List Marked). map (λ (y : Marked). y.value) l ++ values s (channel c rec)) (out-is c)

  marks-grow : Grown (marks_of s) (λ y. flag y.clipped) ends whole
  marks-grow c =
      ap (marks_of s) (longer-is c)
      ∙ marks-follow s some (channel c rec) (at c x)
      ∙ ap (λ (l : List Marked). map (λ (y : Marked). flag y.clipped) l ++ marks_of s (channel c rec)) (out-is c)

  -- the gatherers
  abbrev own_after : Bool → Channel → Gatherer
  own_after b c = if b then with_half (own c) (part_of (at c x ∷ [])) else with_part (own c) (part_of (at c x ∷ []))

  gatherer-at : (c : Channel) → own_after ends c ≡ gatherer_of s (channel c longer)
  gatherer-at c = (λ i. own_after (sym (same_ends c) i) c) ∙ gatherer-follows s some (channel c rec) (at c x) ∙ ap (gatherer_of s) (sym (longer-is c))

  gatherers-follow : (if ends then with_halves g p else with_parts g p) ≡ gatherers_of s longer
  gatherers-follow = go ends ∙ (λ i. record { a = gatherer-at on_a i; b = gatherer-at on_b i; c = gatherer-at on_c i })
    where
      go : (b : Bool) → (if b then with_halves g p else with_parts g p) ≡ record { a = own_after b on_a; b = own_after b on_b; c = own_after b on_c }
      go true = refl
      go false = refl

  -- so what comes out of all three joins the joint history
  record Joined (xs : List Values) : Type 0 where
    count_is : w ≡ length xs + v
    values_are : joint_values s longer ≡ map (λ (y : Values). y.sizes) xs ++ joint_values s rec
    marks_are : joint_marks s longer w ≡ map (λ (y : Values). flag y.clipped) xs ++ joint_marks s rec v

  none-joined : values s (channel on_a longer) ≡ values s (channel on_a rec) → Joined []
  none-joined e = record {
    count_is = omega (arith, same);
    values_are = ap (joint_history s longer) same ∙ joint_history-grow s rec (x ∷ []) some v (omega arith);
    marks_are = ap (joint_marks s longer) same ∙ joint_marks-grow s rec (x ∷ []) some v (omega arith);
  }
    where
      same : w ≡ v
      same = omega (arith, ap length e, length-history s (channel on_a longer) w, length-history s (channel on_a rec) v)

  one-joined : Grown (values s) (λ y. y.value) true true → Grown (marks_of s) (λ y. flag y.clipped) true true → Joined (jointly one ∷ [])
  one-joined vs ms = record {
    count_is = omega (arith, next);
    values_are =
        ap (joint_history s longer) next
        ∙ (λ i. record { a = value-new on_a i; b = value-new on_b i; c = value-new on_c i } ∷ joint_history-grow s rec (x ∷ []) some v (omega arith) i);
    marks_are =
        ap (joint_marks s longer) next
        ∙ (λ i. flag (any_of (three_of (mark-new on_a i) (mark-new on_b i) (mark-new on_c i))) ∷ joint_marks-grow s rec (x ∷ []) some v (omega arith) i);
  }
    where
      next : w ≡ suc v
      next = omega (arith, ap length (vs on_a), length-history s (channel on_a longer) w, length-history s (channel on_a rec) v)

      -- a list read up to the new value
      newest : (c : Channel) (list : List ℤ → ℕ → List ℕ) (of : Marked → ℕ)
          → list (channel c longer) (value_count s (channel c longer)) ≡ of (one c) ∷ list (channel c rec) (value_count s (channel c rec))
          → get_or (list (channel c longer) (suc v)) 0 0 ≡ of (one c)
      newest c list of e = ap (λ (l : List ℕ). get_or l 0 0) (ap (list (channel c longer)) (sym (count-channel s longer c ∙ next)) ∙ e)

      value-new : (c : Channel) → at c (joint_value s longer (suc v)) ≡ (one c).value
      value-new c = channel-value s longer c (suc v) ∙ newest c (history s) (λ y. y.value) (vs c)

      mark-new : (c : Channel) → value_clipped s (channel c longer) (suc v) ≡ (one c).clipped
      mark-new c =
          sym (flag-back (value_clipped s (channel c longer) (suc v)))
          ∙ ap (λ (k : ℕ). k ≡ᵇ 1) (newest c (marks s) (λ y. flag y.clipped) (ms c))
          ∙ flag-back (one c).clipped

  joined : Joined (out ends whole (jointly one))
  joined = go ends whole values-grow marks-grow
    where
      go : (b h : Bool) → Grown (values s) (λ y. y.value) b h → Grown (marks_of s) (λ y. flag y.clipped) b h → Joined (out b h (jointly one))
      go true true vs ms = one-joined vs ms
      go true false vs ms = none-joined (vs on_a)
      go false h vs ms = none-joined (vs on_a)

  beside : length (joint_marks s rec v) ≡ length (joint_values s rec)
  beside = omega (arith, length-joint_marks s rec v, length-joint_history s rec v)

  abbrev outs : List Values
  outs = out ends whole (values_with m g p)

  pub at_end-of : joint_count s rec ≤ last_value → three_machine.at_end (three_state_of s rec) x ≡ not (within_end_in (three_past s) rec (x ∷ []) 1)
  unfolding three_passes
  at_end-of within = go ends ∙ ((λ i. last_value <ᵇ sym joined.count_is i) ∙ past-not last_value w)
    where
      go : (b : Bool) → (if b then three_passes (three_state_of s rec) p else false) ≡ (last_value <ᵇ length (out b whole (values_with m g p)) + v)
      go true = ap (λ (n : ℕ). last_value <ᵇ length (out true whole (values_with m g p)) + n) (length-joint_history s rec v)
      go false = sym (le-ltb last_value (0 + v) (omega arith))

  pub due-of : three_machine.due_with (three_state_of s rec) x ≡ completed_in (three_past s) rec (x ∷ []) 1
  unfolding three_half_due
  due-of = go ends ∙ by outs (out-most ends whole (values_with m g p)) joined
    where
      go : (b : Bool) → (if b then three_half_due (three_state_of s rec) p else []) ≡ due_on_three (out b whole (values_with m g p)) (three_state_of s rec)
      go true = refl
      go false = refl

      by : (xs : List Values) → length xs ≤ 1 → Joined xs → due_on_three xs (three_state_of s rec) ≡ joint_due_after s longer v (w - v)
      by [] h are = let none : w - v ≡ 0 = omega (arith, are.count_is) in sym (ap (joint_due_after s longer v) none)
      by (y ∷ []) h are =
          let more : w - v ≡ 1 = omega (arith, are.count_is) in
          let last : v + 1 ≡ w = omega (arith, are.count_is) in
          joint-due-follows s y.sizes (joint_values s rec) y.clipped (joint_marks s rec v) beside
          ∙ sym (ap (joint_due_after s longer v) more ∙ ap (joint_records_at s longer) last ∙ (λ i. map (record_of (are.marks_are i)) (joint_due s (are.values_are i))))
      by (y ∷ (z ∷ ys)) h are = absurd (omega arith)

  pub next_of : three_machine.next (three_state_of s rec) x ≡ three_state_of s longer
  unfolding three_half
  next_of =
      go ends
      ∙ (λ i. with_joints outs (three_on s (gatherers-follow i) (joint_values s rec) (joint_marks s rec v)))
      ∙ by outs (out-most ends whole (values_with m g p)) joined
    where
      go : (b : Bool) → (if b then three_half (three_state_of s rec) p else three_part (three_state_of s rec) p)
          ≡ with_joints (out b whole (values_with m g p)) (with_gatherers (three_state_of s rec) (if b then with_halves g p else with_parts g p))
      go true = refl
      go false = refl

      by : (xs : List Values) → length xs ≤ 1 → Joined xs
          → with_joints xs (three_on s (gatherers_of s longer) (joint_values s rec) (joint_marks s rec v)) ≡ three_state_of s longer
      by [] h are = λ i. three_on s (gatherers_of s longer) (sym are.values_are i) (sym are.marks_are i)
      by (y ∷ []) h are =
          with_joint-follows s (gatherers_of s longer) (joint_values s rec) (joint_marks s rec v) beside y
          ∙ (λ i. three_on s (gatherers_of s longer) (sym are.values_are i) (sym are.marks_are i))
      by (y ∷ (z ∷ ys)) h are = absurd (omega arith)

pub three-steps-of : (s : Settings) → 0 < s.samples → StepsFollow (three_past s) three_machine (three_state_of s)
three-steps-of s some = record { at_end-of = at_end-of s some; due-of = due-of s some; next_of = next_of s some }

-- the fresh logger is the one of the empty recordings
pub three-fresh-is : (s : Settings) → 0 < s.samples → three_fresh s ≡ three_state_of s []
unfolding three_fresh
three-fresh-is s some =
    let none : joint_count s [] ≡ 0 = omega (arith, halves-none s) in
    let window = window_of-none (window_length_of s) in
    let gatherer = no_sample-is s some in
    (λ i.
    let l : List ℕ = sym window i in
    three_with s (record { a = gatherer i; b = gatherer i; c = gatherer i }) no_values (three_of l l l) l)
    ∙ (λ i. three_on s (gatherers_of s []) (joint_history s [] (sym none i)) (joint_marks s [] (sym none i)))

-- look: of a channel, what a logger of its own recording tells; and the joint phase
channel-readings : (s : Settings) (rec : List ℤ) → let hist = values s rec in channel_readings_of s (length hist) (window_of (window_length_of s) hist) ≡ channel_readings s hist
unfolding readings_of
channel-readings s rec = ap (λ (r : Readings). record { count = r.count; value = r.value; sum = r.sum }) (readings-of s rec)

pub three-readings-of : (s : Settings) (rec : List (Three ℤ)) → three_readings_of (three_state_of s rec) ≡ joint_readings s (joint_values s rec)
unfolding three_readings_of
three-readings-of s rec = λ i. record {
  a = own on_a i;
  b = own on_b i;
  c = own on_c i;
  phase = phase-is (signals s hist).joint i;
  dip = 0 <ᵇ joint_since s Dip hist;
  swell = 0 <ᵇ joint_since s Swell hist;
  interruption = 0 <ᵇ joint_since s Interruption hist;
}
  where
    hist : List (Three ℕ)
    hist = joint_values s rec

    n : ℕ
    n = window_length_of s

    values_are : (c : Channel) → channel c hist ≡ values s (channel c rec)
    values_are c = channel-history s rec c (joint_count s rec) ∙ ap (history s (channel c rec)) (sym (count-channel s rec c))

    own : (c : Channel) → channel_readings_of s (length hist) (window_of n (channel c hist)) ≡ channel_readings s (channel c hist)
    own c =
        ap (λ (v : ℕ). channel_readings_of s v (window_of n (channel c hist))) (sym (length-channel c hist))
        ∙ (λ i. channel_readings_of s (length (values_are c i)) (window_of n (values_are c i)))
        ∙ channel-readings s (channel c rec)
        ∙ sym (ap (channel_readings s) (values_are c))

    phase-is : (q : Signal) → phase_number_of (phase_under s (channel on_a hist) (joint_marks s rec (joint_count s rec)) (λ k. joint_stand s k hist) q) ≡ phase_number q
    phase-is filling = refl
    phase-is unsettled = refl
    phase-is steady = refl
    phase-is (changing k) = refl
