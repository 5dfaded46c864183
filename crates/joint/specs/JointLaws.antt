-- The code's step of three channels, from its parts: what is ready for all three is ready for each, and the parts together are `joint_tried_by`.
use Rattle.std.specs.Prelude.{◌≡◌, refl, Bool, List, ℕ, suc, ◌+◌, ◌-◌, take, drop, if◌then◌else◌}
use Rattle.std.proofs.Common.{◌∙◌, ap}
use Rattle.numbers.specs.Notation.{◌<ᵇ◌}
use Rattle.settings.specs.declared.Settings.{Settings}
use Rattle.settings.specs.declared.Scaled.{Scaled}
use Rattle.settings.specs.Settings.{window_length_of}
use Rattle.rms.specs.declared.Marked.{Marked}
use Rattle.window.specs.declared.Sums.{Sums}
use Rattle.window.specs.WindowValid.{leaving-le}
use Rattle.rvc.specs.declared.Signal.{Signal}
use Rattle.rvc.specs.declared.Stands.{Stands}
use Rattle.rvc.specs.Signal.{steady_by, signal_after, TestReady}
use Rattle.rvc.specs.Phase.{joining_of}
use Rattle.records.specs.declared.Due.{Due}
use Rattle.detection.specs.declared.Joined.{Joined}
use Rattle.detection.specs.Detection.{stands_at, sums_of, joined_of, WindowReady}
use Rattle.detection.specs.DetectionLaws.{part-is, test-ready-at, steady-at}
use Rattle.three_reading.specs.declared.Three.{Three}
use Rattle.three_reading.specs.Three.{Channel, at}
use Rattle.three_reading.specs.Three.Channel.{on_a, on_b, on_c}
use Rattle.joint.specs.declared.Values.{Values}
use Rattle.joint.specs.declared.Own.{Own}
use Rattle.joint.specs.declared.Joint.{Joint}
use Rattle.joint.specs.declared.JointSums.{JointSums}
use Rattle.joint.specs.declared.JointTried.{JointTried}
use Rattle.joint.specs.declared.Entering.{Entering}
use Rattle.joint.specs.declared.OwnMoved.{OwnMoved}
use Rattle.joint.specs.declared.Standings.{Standings}
use Rattle.joint.specs.Joint.{marked_at, sums_at, standings_by, standings_after, entering_of, entering_at, entered_of, EnteredSmall}
use Rattle.joint.specs.Joint.{all_moved_by, all_moved_of, after_from, due_from, sums_from, joint_after, joint_due_by, joint_sums_of, joint_tried_by}
use Rattle.joint.specs.Joint.{EnterReady, JointReady}

-- one channel, whose window of n the value y joins after v others
module _ {s : Settings} {t : Scaled} {v : ℕ} {w ms : List ℕ} {a : Sums} {y : Marked} {o : Own} (ready : EnterReady s t v w ms a y o)
    {n : ℕ} (n-is : n ≡ window_length_of s) where
  pub enters-window : WindowReady n v w ms a y
  enters-window = rw n-is ready.window-ready

  module _ {stands : Stands} {joined : Joined} (joined_is : joined ≡ joined_of n v w ms y stands) where
    joining-is : joined.joining ≡ joining_of n v w ms y.value stands
    joining-is = ap (λ (k : Joined). k.joining) joined_is

    pub enters-test : TestReady t n joined.joining.after o.signal
    enters-test = test-ready-at ready.settings-valid ready.scaled-is ready.window-ready n-is joining-is o.signal

    pub entering-is : {first : ℕ} {truth : Bool} {after : Signal} → first ≡ (if v <ᵇ n then 0 else 1) →
        (let k = joined.joining in truth ≡ steady_by t n (take (first + (n - 1) - first) (drop first w)) k.number k.value k.after o.signal) →
        after ≡ signal_after n joined.joining.number truth o.signal →
        ◌≡◌ {A = Entering} (record { joining = joined.joining; sums = joined.sums; signal = after }) (entering_of s v w ms y stands o)
    entering-is {first} first-is truth-is after_is =
        let j = joined.joining in
        let p = o.signal in
        let J : joined ≡ joined_of (window_length_of s) v w ms y stands = joined_is ∙ (λ k. joined_of (n-is k) v w ms y stands) in
        let T =
        truth-is
        ∙ ((λ k. steady_by t n (part-is first n v w first-is k) j.number j.value j.after p)
        ∙ steady-at ready.settings-valid ready.scaled-is ready.window-ready n-is joining-is p ready.signal-valid) in
        let A = after_is ∙ (λ k. signal_after (n-is k) (J k).joining.number (T k) p) in
        λ k. record { joining = (J k).joining; sums = (J k).sums; signal = A k }

-- the three, with the windows ws and the marks of the joint values before the values x
module _ {s : Settings} {t : Scaled} {j : Joint} {ws : Three (List ℕ)} {ms : List ℕ} {a : JointSums} {x : Values} (ready : JointReady s t j ws ms a x) where
  sums_at_lem : (c : Channel) → sums_at c (joint_sums_of ws ms) ≡ sums_of (at c ws) ms
  sums_at_lem on_a = refl
  sums_at_lem on_b = refl
  sums_at_lem on_c = refl

  pub enter-ready : (c : Channel) {b : Sums} {y : Marked} → b ≡ sums_at c a → y ≡ marked_at c x → EnterReady s t j.count (at c ws) ms b y (at c j.own)
  enter-ready c b-is y-is = record {
    settings-valid = ready.settings-valid;
    scaled-is = ready.scaled-is;
    window-ready = record {
      window-valid = ready.window-valid c;
      marks-valid = ready.marks-valid;
      sums-are = b-is ∙ (ap (sums_at c) ready.sums-are ∙ sums_at_lem c);
      value-le = rw y-is (ready.values-le c);
    };
    signal-valid = ready.joint-valid.signal-valid c;
    count-lt = ready.count-lt;
  }

  entered-at : (stands : Stands) (c : Channel) → at c (entered_of s x j ws ms stands) ≡ entering_at s x j ws ms stands c
  entered-at stands on_a = refl
  entered-at stands on_b = refl
  entered-at stands on_c = refl

  pub entered-small : {stands : Stands} {e : Three Entering} → e ≡ entered_of s x j ws ms stands → EnteredSmall e
  entered-small {stands} e-is c = rw (e-is, entered-at stands c) (leaving-le (window_length_of s) j.count (at c ws) (ready.window-valid c))

  -- the whole step, from its parts
  pub tried-is : {i n : ℕ} {stands : Stands} {p : Standings} {e : Three Entering} {w : Three OwnMoved} {after : Joint} {due : Due} {sums : JointSums} →
      i ≡ suc j.count → p ≡ standings_by t i x j.standings → stands ≡ stands_at i j.standings.dip j.standings.swell p.dip p.swell → e ≡ entered_of s x j ws ms stands → n ≡ window_length_of s →
      w ≡ all_moved_by n e j → due ≡ due_from i p w j → after ≡ after_from i p w → sums ≡ sums_from e →
      ◌≡◌ {A = JointTried} (record { after = after; due = due; sums = sums }) (joint_tried_by s x j ws ms)
  unfolding joint_after joint_due_by
  tried-is i-is p-is stands-is e-is n-is w-is due-is after_is sums-is =
      let P : _ ≡ standings_after s x j ws ms = p-is ∙ (λ k. standings_by (ready.scaled-is k) (i-is k) x j.standings) in
      let S = stands-is ∙ (λ k. stands_at (i-is k) j.standings.dip j.standings.swell (P k).dip (P k).swell) in
      let E = e-is ∙ (λ k. entered_of s x j ws ms (S k)) in
      let W : _ ≡ all_moved_of s x j ws ms = w-is ∙ (λ k. all_moved_by (n-is k) (E k) j) in
      let A = after_is ∙ (λ k. after_from (i-is k) (P k) (W k)) in
      let D = due-is ∙ (λ k. due_from (i-is k) (P k) (W k) j) in
      let U = sums-is ∙ (λ k. sums_from (E k)) in
      λ k. record { after = A k; due = D k; sums = U k }
