-- One value of each channel follows the history of three: stepped by it, what is kept is what the longer history leaves, and the records due are the reading's.
use Rattle.std.specs.Prelude.{◌≡◌, refl, Bool, true, false, ◌&&◌, ◌||◌, List, [], ◌∷◌, ◌++◌, map, ℕ, suc, ◌+◌, ◌-◌, ◌≤◌, ◌<◌, max, length, drop, if◌then◌else◌, Option, Some, None}
use Rattle.std.proofs.Math.Path.{sym, ap₂}
use Rattle.std.proofs.Common.{◌∙◌, ap, subst, arith}
use Rattle.std.proofs.lemmas.List.{length-map, map-append}
use Rattle.numbers.specs.Notation.{◌≤ᵇ◌, ◌<ᵇ◌, ◌≡ᵇ◌, flag}
use Rattle.settings.specs.declared.Settings.{Settings}
use Rattle.settings.specs.Settings.{window_length_of}
use Rattle.reading.specs.declared.Kind.{Kind}
use Rattle.reading.specs.declared.Kind.TheVariants.{Dip, Swell, Interruption}
use Rattle.reading.specs.declared.Event.{Event}
use Rattle.reading.specs.declared.Record.{Record}
use Rattle.reading.specs.Values.{since}
use Rattle.reading.specs.Clipping.{clipped_from, record_of}
use Rattle.reading.specs.Thresholds.{kind_number, magnitude}
use Rattle.reading.specs.Changes.{window_sum, gap, Signal, signal, sum_before, greatest_difference}
use Rattle.reading.specs.Changes.Signal.{filling, unsettled, steady, changing}
use Rattle.threshold.specs.Standing.{since_after, stepped, ended_at, list_of}
use Rattle.threshold.specs.StandingFollows.{since-follows, since-ended}
use Rattle.window.specs.Window.{window_of}
use Rattle.rvc.specs.Signal.{signal_of, turned, ValidSignal}
use Rattle.rvc.specs.SignalFollows.{signal-follows}
use Rattle.rvc.specs.declared.Stands.{Stands}
use Rattle.rvc.specs.StandLaws.{kept-begins, kept-grows, kept-settled}
use Rattle.rvc.specs.Phase.{moved_by, joining_of, phase_under, change_up_to, dropped, change_ended, ended_under}
use Rattle.rvc.specs.ChangeFollows.{settled-mark}
use Rattle.rvc.specs.PhaseFollows.{phase-under, ended-under}
use Rattle.records.specs.Due.{records_of}
use Rattle.detection.specs.Detection.{stands_at}
use Rattle.three_reading.specs.declared.Three.{Three}
use Rattle.three_reading.specs.Three.{each, Channel, at, channel, channels}
use Rattle.three_reading.specs.Three.Channel.{on_a, on_b, on_c}
use Rattle.three_reading.specs.JointEvents.{joint_begins, joint_ends, joint_since, worst, joint_threshold_due}
use Rattle.three_reading.specs.JointChanges.{is_true, joint_next, signals, joint_first_stand, joint_dip_or_swell, joint_stood_before, greatest_of}
use Rattle.three_reading.specs.JointChanges.{joint_change_event, joint_change_over, joint_change_due}
use Rattle.three_reading.specs.JointRecords.{joint_due}
use Rattle.three_laws.specs.ChannelLaws.{length-channel}
use Rattle.three_laws.specs.SignalsLaws.{own-signal, all_true, joint-valid, change-lasts}
use Rattle.three_laws.specs.SignalsLaws as joint
use Rattle.three_laws.specs.EventsLaws.{joint_since-le}
use Rattle.joint.specs.declared.Values.{Values}
use Rattle.joint.specs.declared.Joint.{Joint}
use Rattle.joint.specs.declared.Entering.{Entering}
use Rattle.joint.specs.declared.OwnMoved.{OwnMoved}
use Rattle.joint.specs.Joint.{true_in, worse_ended, entering_of, own_moved_by, entered_true, entered_of, all_moved_by, after_from, due_from, joint_stepped, joint_after, joint_due_by, joint_due_at}
use Rattle.joint.specs.Joint.{joint_standing, joint_stand, own_of, joint_of, windows_of}

-- a signal's truth, what the reading says of it, and how the joint one turns, in the code's terms
true-is : (p : Signal) → true_in (signal_of p) ≡ is_true p
true-is filling = refl
true-is unsettled = refl
true-is steady = refl
true-is (changing k) = refl

valid-is : (n v : ℕ) (p : Signal) → joint.ValidSignal n v p → ValidSignal n v (signal_of p)
valid-is n v filling h = h
valid-is n v unsettled h = h
valid-is n v steady h = h
valid-is n v (changing k) h = h

next-turned : (s : Settings) (i : ℕ) (b : Bool) (p : Signal) → joint_next s i b p ≡ turned (window_length_of s) i b p
next-turned s i true p = refl
next-turned s i false filling = refl
next-turned s i false unsettled = refl
next-turned s i false steady = refl
next-turned s i false (changing k) = refl

-- whether the joint dip or swell first stands at the newest value
abbrev stands_now : Settings → List (Three ℕ) → Bool
stands_now s hist = joint_since s Dip hist ≡ᵇ length hist || joint_since s Swell hist ≡ᵇ length hist

-- the change that ends with the newest value, as each channel has it, is the reading's
module _ (s : Settings) (hist : List (Three ℕ)) (ms : List ℕ) (beside : length ms ≡ length hist) (k : ℕ) (some : 0 < k) (late : k + window_length_of s ≤ length hist) where
  abbrev stand : ℕ
  stand = joint_stand s k hist

  -- the reading drops it
  abbrev drops : Bool
  drops = joint_stood_before s k hist || 0 <ᵇ joint_first_stand s k (drop (window_length_of s) hist)

  abbrev event : Event
  event = record {
    kind = 4;
    start = k;
    duration = length hist - window_length_of s - k;
    first = greatest_of (each (greatest_difference s k) (channels hist));
    second = greatest_of (each (λ (own : List ℕ). gap (window_sum s own) (sum_before s k own)) (channels hist));
  }

  -- as one channel has it, dropped or not
  abbrev over : Channel → Bool → Option Record
  over c b = if b then None else Some (record { event = change_up_to s (channel c hist) k; clipped = clipped_from s k ms })

  dropped-is : (c : Channel) → dropped s (channel c hist) stand ≡ drops
  dropped-is c =
      ap (λ (v : ℕ). 0 <ᵇ stand && stand ≤ᵇ v - window_length_of s) (length-channel c hist)
      ∙ sym (kept-settled (stands_now s) (joint_first_stand s) (λ k. refl) (λ k r older. refl) (joint_dip_or_swell s) k (window_length_of s) hist some late)

  same-three : (b : Bool) → (b || (b || b)) ≡ b
  same-three true = refl
  same-three false = refl

  most-three : (t : Three ℕ) → max t.a (max t.b t.c) ≡ greatest_of t
  most-three t = omega arith

  listed : (b : Bool) → list_of (worse_ended (over on_a b) (worse_ended (over on_b b) (over on_c b))) ≡ map (record_of ms) (if b then [] else event ∷ [])
  listed true = refl
  listed false =
      let lasts : length (channel on_a hist) - window_length_of s - k ≡ length hist - window_length_of s - k = ap (λ (v : ℕ). v - window_length_of s - k) (length-channel on_a hist) in
      let first = most-three (each (greatest_difference s k) (channels hist)) in
      let second = most-three (each (λ (own : List ℕ). gap (window_sum s own) (sum_before s k own)) (channels hist)) in
      λ j. record {
        event = record { kind = 4; start = k; duration = lasts j; first = first j; second = second j };
        clipped = (same-three (clipped_from s k ms) ∙ settled-mark s k (length hist) ms beside late) j;
      } ∷ []

  change-listed : let ended : Channel → Option Record = λ c. change_ended s (channel c hist) ms k stand in
      list_of (worse_ended (ended on_a) (worse_ended (ended on_b) (ended on_c))) ≡ map (record_of ms) (joint_change_event s k hist)
  change-listed =
      (λ j. list_of (worse_ended (over on_a (dropped-is on_a j)) (worse_ended (over on_b (dropped-is on_b j)) (over on_c (dropped-is on_c j)))))
      ∙ listed drops

-- values r, one of them clipped or none, after older ones, each with its mark
module _ (s : Settings) (r : Three ℕ) (older : List (Three ℕ)) (clipped : Bool) (ms : List ℕ) (beside : length ms ≡ length older) where
  abbrev n : ℕ
  n = window_length_of s

  abbrev i : ℕ
  i = suc (length older)

  abbrev hist : List (Three ℕ)
  hist = r ∷ older

  abbrev now : List ℕ
  now = flag clipped ∷ ms

  abbrev x : Values
  x = record { sizes = r; clipped = clipped }

  abbrev before : Joint
  before = joint_of s older ms

  -- the joint events
  module _ (k : Kind) where
    abbrev ws : List ℕ
    ws = map (worst k) older

    long : length older ≡ length ws
    long = sym (length-map older (worst k))

    beside-worst : length ms ≡ length ws
    beside-worst = beside ∙ long

    stood-le : joint_since s k older ≤ length ws
    stood-le = omega (arith, long, joint_since-le s k older)

    steps : joint_stepped s k i x (joint_standing s k older ms) ≡ joint_standing s k hist now
    steps =
        let b = joint_begins s k r in
        let e = joint_ends s k r in
        let a = joint_since s k older in
        ap (λ (v : ℕ). stepped k (suc v) (worst k r) clipped b e (joint_standing s k older ms)) long
        ∙ since-follows k (worst k r) ws clipped ms beside-worst b e a (joint_since s k hist) stood-le (ap (λ (v : ℕ). since_after (suc v) b e a) long)

    ended : list_of (ended_at (kind_number k) i (joint_standing s k older ms) (joint_standing s k hist now)) ≡ map (record_of now) (joint_threshold_due s k hist)
    ended =
        let a = joint_since s k older in
        let z = joint_since s k hist in
        let event : ℕ → Event = λ v. record { kind = kind_number k; start = a; duration = suc v - a; first = magnitude k (since a ws); second = 0 } in
        ap (λ (v : ℕ). list_of (ended_at (kind_number k) (suc v) (joint_standing s k older ms) (joint_standing s k hist now))) long
        ∙ since-ended k (worst k r) ws clipped ms beside-worst a z stood-le
        ∙ ap (λ (v : ℕ). map (record_of now) (if 0 <ᵇ a && z ≡ᵇ 0 then event v ∷ [] else [])) (sym long)

  abbrev stands : Stands
  stands = record { first = stands_now s hist; before = joint_dip_or_swell s older }

  stands-is : let p = before.standings in stands_at i p.dip p.swell (joint_stepped s Dip i x p.dip) (joint_stepped s Swell i x p.swell) ≡ stands
  stands-is = λ j. stands_at i before.standings.dip before.standings.swell (steps Dip j) (steps Swell j)

  -- one channel's own signal
  abbrev entering : Channel → Entering
  entering c = entering_of s (length older) (window_of n (channel c older)) (window_of n ms) (record { value = at c r; clipped = clipped }) stands (own_of s c older ms)

  signal-is : (c : Channel) → (entering c).signal ≡ signal_of (signal s (channel c hist))
  signal-is c =
      ap (λ (v : ℕ). (entering_of s v (window_of n (channel c older)) (window_of n ms) (record { value = at c r; clipped = clipped }) stands (own_of s c older ms)).signal)
      (sym (length-channel c older))
      ∙ signal-follows s (at c r) (channel c older)

  -- the joint one
  abbrev entered : Three Entering
  entered = record { a = entering on_a; b = entering on_b; c = entering on_c }

  true-at : (c : Channel) → true_in (entering c).signal ≡ is_true (at c (signals s hist).own)
  true-at c = ap true_in (signal-is c) ∙ true-is (signal s (channel c hist)) ∙ ap is_true (sym (own-signal s c hist))

  all-is : entered_true entered ≡ all_true s hist
  all-is = λ j. true-at on_a j && (true-at on_b j && true-at on_c j)

  abbrev was : Signal
  was = (signals s older).joint

  joint-is : (b : Bool) → all_true s hist ≡ b → (signals s hist).joint ≡ turned n i b was
  joint-is b e = ap (λ (b : Bool). joint_next s i b was) e ∙ next-turned s i b was

  -- one channel's phase under the joint signal
  abbrev from : List (Three ℕ) → ℕ → ℕ
  from hist k = joint_stand s k hist

  module _ (c : Channel) where
    abbrev own : List ℕ
    own = channel c older

    same : length own ≡ length older
    same = length-channel c older

    beside-own : length ms ≡ length own
    beside-own = beside ∙ sym same

    begun : from hist (suc (length own)) ≡ (if stands.first || stands.before then suc (length own) else 0)
    begun =
        subst (λ (v : ℕ). from hist (suc v) ≡ (if stands_now s hist || joint_dip_or_swell s older then suc v else 0))
        (sym same)
        (kept-begins (stands_now s) (joint_first_stand s) (λ k. refl) (λ k r older. refl) (joint_dip_or_swell s) r older)

    grows : (k : ℕ) → 0 < k → k ≤ length own → from hist k ≡ (if 0 <ᵇ from older k then from older k else if stands.first then suc (length own) else 0)
    grows k some h = rw same (kept-grows (stands_now s) (joint_first_stand s) (λ k. refl) (λ k r older. refl) (joint_dip_or_swell s) k r older some (omega (arith, same)))

    valid : ValidSignal n (length own) (signal_of was)
    valid = rw same (valid-is n (length older) was (joint-valid s older))

    abbrev gone : Bool → OwnMoved
    gone b = own_moved_by n (entering c) b (own_of s c older ms)

    phase-is : (b : Bool) → (gone b).own.phase ≡ phase_under s (channel c hist) now (from hist) (turned n i b was)
    phase-is b =
        ap (λ (v : ℕ). (moved_by n (joining_of n v (window_of n own) (window_of n ms) (at c r) stands) b (phase_under s own ms (from older) was)).phase) (sym same)
        ∙ phase-under s (at c r) own clipped ms beside-own stands (from older) (from hist) begun grows b was valid
        ∙ ap (λ (v : ℕ). phase_under s (channel c hist) now (from hist) (turned n (suc v) b was)) same

    own_is : (gone (entered_true entered)).own ≡ own_of s c hist now
    own_is =
        let phase = phase-is (entered_true entered) ∙ ap (phase_under s (channel c hist) now (from hist)) (sym (joint-is (entered_true entered) (sym all-is))) in
        λ j. record { signal = signal-is c j; phase = phase j }

    ended_is : (b : Bool) → (gone b).ended ≡ ended_under s (channel c hist) now (from hist) b was
    ended_is b =
        ap (λ (v : ℕ). (moved_by n (joining_of n v (window_of n own) (window_of n ms) (at c r) stands) b (phase_under s own ms (from older) was)).ended) (sym same)
        ∙ ended-under s (at c r) own clipped ms beside-own stands (from older) (from hist) begun grows b was valid

  -- the change that ends: of the three, each magnitude by itself the worse
  abbrev worst-ended : (Channel → Option Record) → List Record
  worst-ended e = list_of (worse_ended (e on_a) (worse_ended (e on_b) (e on_c)))

  change-over : (p : Signal) (b : Bool) → was ≡ p → all_true s hist ≡ b →
      worst-ended (λ c. ended_under s (channel c hist) now (from hist) b p) ≡ map (record_of now) (joint_change_over s hist p (turned n i b p))
  change-over filling true e f = refl
  change-over filling false e f = refl
  change-over unsettled true e f = refl
  change-over unsettled false e f = refl
  change-over steady true e f = refl
  change-over steady false e f = refl
  change-over (changing k) true e f =
      let seen = subst (joint.ValidSignal n (length older)) e (joint-valid s older) in
      let late = change-lasts s r older k e f in
      change-listed s hist now (omega arith) k (omega (arith, seen.0)) (omega (arith, late))
  change-over (changing k) false e f = refl

  change-due : worst-ended (λ c. (gone c (entered_true entered)).ended) ≡ map (record_of now) (joint_change_due s hist)
  change-due =
      let b = entered_true entered in
      (λ j. list_of (worse_ended (ended_is on_a b j) (worse_ended (ended_is on_b b j) (ended_is on_c b j))))
      ∙ change-over was b refl (sym all-is)
      ∙ ap (λ (p : Signal). map (record_of now) (joint_change_over s hist was p)) (sym (joint-is b (sym all-is)))

  -- the whole step
  abbrev entered_by : Stands → Three Entering
  entered_by stands = entered_of s x before (windows_of n older) (window_of n ms) stands

  pub joint-follows : joint_after s x (joint_of s older ms) (windows_of (window_length_of s) older) (window_of (window_length_of s) ms) ≡ joint_of s (r ∷ older) (flag clipped ∷ ms)
  unfolding joint_after
  joint-follows =
      (λ j. after_from i (record { dip = steps Dip j; swell = steps Swell j; interruption = steps Interruption j }) (all_moved_by n (entered_by (stands-is j)) before))
      ∙ (λ j. record {
        own = record { a = own_is on_a j; b = own_is on_b j; c = own_is on_c j };
        count = i;
        standings = record { dip = joint_standing s Dip hist now; swell = joint_standing s Swell hist now; interruption = joint_standing s Interruption hist now };
      })

  pub joint-due-follows : joint_due_at s x (joint_of s older ms) (windows_of (window_length_of s) older) (window_of (window_length_of s) ms)
      ≡ map (record_of (flag clipped ∷ ms)) (joint_due s (r ∷ older))
  unfolding joint_due_by joint_due_at
  joint-due-follows =
      (λ j. records_of (due_from i (record { dip = steps Dip j; swell = steps Swell j; interruption = steps Interruption j }) (all_moved_by n (entered_by (stands-is j)) before) before))
      ∙ joins (joint_threshold_due s Dip hist) (joint_threshold_due s Swell hist ++ (joint_threshold_due s Interruption hist ++ joint_change_due s hist)) (ended Dip)
      (joins (joint_threshold_due s Swell hist) (joint_threshold_due s Interruption hist ++ joint_change_due s hist) (ended Swell)
      (joins (joint_threshold_due s Interruption hist) (joint_change_due s hist) (ended Interruption) change-due))
    where
      joins : (a b : List Event) {xs ys : List Record} → xs ≡ map (record_of now) a → ys ≡ map (record_of now) b → xs ++ ys ≡ map (record_of now) (a ++ b)
      joins a b p q = ap₂ ◌++◌ p q ∙ sym (map-append (record_of now) a b)
