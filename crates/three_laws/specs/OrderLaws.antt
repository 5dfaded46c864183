-- Channels in another order have the same records: nothing joint tells one channel from another.
use Rattle.std.specs.Prelude.{◌≡◌, refl, Bool, true, false, ◌&&◌, ◌||◌, List, [], ◌∷◌, ◌++◌, map, ℕ, zero, suc, ◌+◌, ◌-◌, length, drop, ℤ, if◌then◌else◌}
use Rattle.std.proofs.Common.{sym, ◌∙◌, ap, ap₂, arith}
use Rattle.std.proofs.lemmas.List.{length-map}
use Rattle.settings.specs.declared.Settings.{Settings}
use Rattle.settings.specs.Settings.{window_length_of}
use Rattle.numbers.specs.Notation.{◌≤ᵇ◌, ◌<ᵇ◌, ◌≡ᵇ◌, flag}
use Rattle.reading.specs.declared.Kind.{Kind}
use Rattle.reading.specs.declared.Kind.TheVariants.{Dip, Swell, Interruption}
use Rattle.reading.specs.declared.Event.{Event}
use Rattle.reading.specs.Values.{value, value_count, since, up_to}
use Rattle.reading.specs.Clipping.{value_clipped, record_of}
use Rattle.reading.specs.Thresholds.{begins, ends, magnitude, kind_number}
use Rattle.reading.specs.Changes.{window_sum, gap, Signal, signal, sum_before, greatest_difference}
use Rattle.reading.specs.Changes.Signal.{filling, unsettled, steady, changing}
use Rattle.three_reading.specs.declared.Three.{Three}
use Rattle.three_reading.specs.Three.{each, any_of, all_of, Channel, at, channel, channels, joint_count, joint_history, joint_marks}
use Rattle.three_reading.specs.Three.Channel.{on_a, on_b, on_c}
use Rattle.three_reading.specs.JointEvents.{joint_begins, joint_ends, joint_since, worst, joint_threshold_due}
use Rattle.three_reading.specs.JointChanges.{is_true, joint_next, signals, joint_first_stand, joint_dip_or_swell, joint_stood_before, greatest_of, joint_change_event, joint_change_over, joint_change_due}
use Rattle.three_reading.specs.JointRecords.{joint_due, joint_records_at}
use Rattle.three_reading.specs.ThreeFeed.{joint_due_after, joint_records}
use Rattle.three_laws.specs.ChannelLaws.{at_each, at-channels}
use Rattle.three_laws.specs.RecordingsLaws.{count-channel}
use Rattle.three_laws.specs.SignalsLaws.{own-signals, all_true}

-- what channels x, y and z have, as a, b and c
abbrev pub ordered : {X : Type 0} → Channel → Channel → Channel → Three X → Three X
ordered x y z t = record { a = at x t; b = at y t; c = at z t }

-- an order in which any and all of the three, and the worst of them, are as they were
pub record Fair (x y z : Channel) : Type 0 where
  pub any-fair : (t : Three Bool) → any_of (ordered x y z t) ≡ any_of t
  pub all_fair : (t : Three Bool) → all_of (ordered x y z t) ≡ all_of t
  pub worst-fair : (kind : Kind) (t : Three ℕ) → worst kind (ordered x y z t) ≡ worst kind t
  pub greatest-fair : (t : Three ℕ) → greatest_of (ordered x y z t) ≡ greatest_of t

pub ab-fair : Fair on_b on_a on_c
ab-fair = record {
  any-fair = λ t. any t.a t.b t.c;
  all_fair = λ t. all t.a t.b t.c;
  worst-fair = λ kind t. of kind t.a t.b t.c;
  greatest-fair = λ t. of Swell t.a t.b t.c;
}
  where
    any : (a b c : Bool) → (b || (a || c)) ≡ (a || (b || c))
    any true true c = refl
    any true false c = refl
    any false true c = refl
    any false false c = refl

    all : (a b c : Bool) → (b && (a && c)) ≡ (a && (b && c))
    all true true c = refl
    all true false c = refl
    all false true c = refl
    all false false c = refl

    of : (kind : Kind) (a b c : ℕ) → magnitude kind (b ∷ a ∷ c ∷ []) ≡ magnitude kind (a ∷ b ∷ c ∷ [])
    of Dip a b c = omega arith
    of Swell a b c = omega arith
    of Interruption a b c = omega arith

pub bc-fair : Fair on_a on_c on_b
bc-fair = record {
  any-fair = λ t. any t.a t.b t.c;
  all_fair = λ t. all t.a t.b t.c;
  worst-fair = λ kind t. of kind t.a t.b t.c;
  greatest-fair = λ t. of Swell t.a t.b t.c;
}
  where
    any : (a b c : Bool) → (a || (c || b)) ≡ (a || (b || c))
    any true b c = refl
    any false true true = refl
    any false true false = refl
    any false false true = refl
    any false false false = refl

    all : (a b c : Bool) → (a && (c && b)) ≡ (a && (b && c))
    all false b c = refl
    all true true true = refl
    all true true false = refl
    all true false true = refl
    all true false false = refl

    of : (kind : Kind) (a b c : ℕ) → magnitude kind (a ∷ c ∷ b ∷ []) ≡ magnitude kind (a ∷ b ∷ c ∷ [])
    of Dip a b c = omega arith
    of Swell a b c = omega arith
    of Interruption a b c = omega arith

module _ {x y z : Channel} (fair : Fair x y z) where
  -- each of the three and each channel, in the order
  abbrev o : {X : Type 0} → Three X → Three X
  o t = ordered x y z t

  each-ordered : {X Y : Type 0} (f : X → Y) (t : Three X) → each f (o t) ≡ o (each f t)
  each-ordered f t = sym (λ i. record { a = at_each x f t i; b = at_each y f t i; c = at_each z f t i })

  channel-ordered : {X : Type 0} (c d : Channel) → ((t : Three X) → at c (o t) ≡ at d t) → (l : List (Three X)) → channel c (map o l) ≡ channel d l
  channel-ordered c d e [] = refl
  channel-ordered c d e (t ∷ ts) = ap₂ ◌∷◌ (e t) (channel-ordered c d e ts)

  channels-ordered : {X : Type 0} (l : List (Three X)) → channels (map o l) ≡ o (channels l)
  channels-ordered {X} l = λ i. record { a = go on_a x (λ t. refl) i; b = go on_b y (λ t. refl) i; c = go on_c z (λ t. refl) i }
    where
      go : (c d : Channel) → ((t : Three X) → at c (o t) ≡ at d t) → channel c (map o l) ≡ at d (channels l)
      go c d e = channel-ordered c d e l ∙ sym (at-channels d l)

  each-channel-ordered : {X Y : Type 0} (f : List X → Y) (l : List (Three X)) → each f (channels (map o l)) ≡ o (each f (channels l))
  each-channel-ordered f l = ap (each f) (channels-ordered l) ∙ each-ordered f (channels l)

  drop-ordered : {X : Type 0} (n : ℕ) (l : List (Three X)) → drop n (map o l) ≡ map o (drop n l)
  drop-ordered zero l = refl
  drop-ordered (suc n) [] = refl
  drop-ordered (suc n) (t ∷ ts) = drop-ordered n ts

  -- a test of any or of all, the worst and the greatest
  any-each : {X : Type 0} (f : X → Bool) (t : Three X) → any_of (each f (o t)) ≡ any_of (each f t)
  any-each f t = ap any_of (each-ordered f t) ∙ fair.any-fair (each f t)

  all-each : {X : Type 0} (f : X → Bool) (t : Three X) → all_of (each f (o t)) ≡ all_of (each f t)
  all-each f t = ap all_of (each-ordered f t) ∙ fair.all_fair (each f t)

  worst-all : (kind : Kind) (hist : List (Three ℕ)) → map (worst kind) (map o hist) ≡ map (worst kind) hist
  worst-all kind [] = refl
  worst-all kind (r ∷ older) = ap₂ ◌∷◌ (fair.worst-fair kind r) (worst-all kind older)

  greatest-each : (f : List ℕ → ℕ) (hist : List (Three ℕ)) → greatest_of (each f (channels (map o hist))) ≡ greatest_of (each f (channels hist))
  greatest-each f hist = ap greatest_of (each-channel-ordered f hist) ∙ fair.greatest-fair (each f (channels hist))

  module _ (s : Settings) where
    begins-ordered : (kind : Kind) (r : Three ℕ) → joint_begins s kind (o r) ≡ joint_begins s kind r
    begins-ordered Dip r = any-each (begins s Dip) r
    begins-ordered Swell r = any-each (begins s Swell) r
    begins-ordered Interruption r = all-each (begins s Interruption) r

    ends-ordered : (kind : Kind) (r : Three ℕ) → joint_ends s kind (o r) ≡ joint_ends s kind r
    ends-ordered Dip r = all-each (ends s Dip) r
    ends-ordered Swell r = all-each (ends s Swell) r
    ends-ordered Interruption r = any-each (ends s Interruption) r

    since-ordered : (kind : Kind) (hist : List (Three ℕ)) → joint_since s kind (map o hist) ≡ joint_since s kind hist
    since-ordered kind [] = refl
    since-ordered kind (r ∷ older) = λ i.
        if begins-ordered kind r i then (if since-ordered kind older i ≡ᵇ 0 then suc (length-map older (o {X = ℕ}) i) else since-ordered kind older i)
        else if ends-ordered kind r i then 0
        else since-ordered kind older i

    threshold-ordered : (kind : Kind) (hist : List (Three ℕ)) → joint_threshold_due s kind (map o hist) ≡ joint_threshold_due s kind hist
    threshold-ordered kind [] = refl
    threshold-ordered kind (r ∷ older) = λ i.
        let a = since-ordered kind older i in
        let b = suc (length-map older (o {X = ℕ}) i) in
        let e : Event = record { kind = kind_number kind; start = a; duration = b - a; first = magnitude kind (since a (worst-all kind older i)); second = 0 } in
        if 0 <ᵇ a && since-ordered kind (r ∷ older) i ≡ᵇ 0 then e ∷ [] else []

    -- the own signals are in the order, and so the joint one is the same
    own-ordered : (hist : List (Three ℕ)) → (signals s (map o hist)).own ≡ o (signals s hist).own
    own-ordered hist = own-signals s (map o hist) ∙ (each-channel-ordered (signal s) hist ∙ ap o (sym (own-signals s hist)))

    all-true-ordered : (hist : List (Three ℕ)) → all_true s (map o hist) ≡ all_true s hist
    all-true-ordered hist = ap (λ (t : Three Signal). all_of (each is_true t)) (own-ordered hist) ∙ all-each is_true (signals s hist).own

    joint-ordered : (hist : List (Three ℕ)) → (signals s (map o hist)).joint ≡ (signals s hist).joint
    joint-ordered [] = refl
    joint-ordered (r ∷ older) = λ i. joint_next s (suc (length-map older (o {X = ℕ}) i)) (all-true-ordered (r ∷ older) i) (joint-ordered older i)

    first-stand-ordered : (k : ℕ) (hist : List (Three ℕ)) → joint_first_stand s k (map o hist) ≡ joint_first_stand s k hist
    first-stand-ordered k [] = refl
    first-stand-ordered k (r ∷ older) = λ i.
        let v = suc (length-map older (o {X = ℕ}) i) in
        let before = first-stand-ordered k older i in
        let here = k ≤ᵇ v && (since-ordered Dip (r ∷ older) i ≡ᵇ v || since-ordered Swell (r ∷ older) i ≡ᵇ v) in
        if 0 <ᵇ before then before else if here then v else 0

    stood-ordered : (k : ℕ) (hist : List (Three ℕ)) → joint_stood_before s k (map o hist) ≡ joint_stood_before s k hist
    stood-ordered k hist =
        let older = up_to (k - 1) hist in
        let same-older : up_to (k - 1) (map o hist) ≡ map o older
        = ap (λ (v : ℕ). drop (v - (k - 1)) (map o hist)) (length-map hist (o {X = ℕ})) ∙ drop-ordered (length hist - (k - 1)) hist in
        ap (joint_dip_or_swell s) same-older ∙ (λ i. 0 <ᵇ since-ordered Dip older i || 0 <ᵇ since-ordered Swell older i)

    change-ordered : (k : ℕ) (hist : List (Three ℕ)) → joint_change_event s k (map o hist) ≡ joint_change_event s k hist
    change-ordered k hist =
        let n = window_length_of s in
        let stand : joint_first_stand s k (drop n (map o hist)) ≡ joint_first_stand s k (drop n hist)
        = ap (joint_first_stand s k) (drop-ordered n hist) ∙ first-stand-ordered k (drop n hist) in
        λ i.
        let e : Event = record {
          kind = 4;
          start = k;
          duration = (length-map hist (o {X = ℕ}) i - n) - k;
          first = greatest-each (greatest_difference s k) hist i;
          second = greatest-each (λ (own : List ℕ). gap (window_sum s own) (sum_before s k own)) hist i;
        } in
        if stood-ordered k hist i || 0 <ᵇ stand i then [] else e ∷ []

    over-ordered : (hist : List (Three ℕ)) (p q : Signal) → joint_change_over s (map o hist) p q ≡ joint_change_over s hist p q
    over-ordered hist filling q = refl
    over-ordered hist unsettled q = refl
    over-ordered hist steady q = refl
    over-ordered hist (changing k) filling = refl
    over-ordered hist (changing k) unsettled = refl
    over-ordered hist (changing k) steady = change-ordered k hist
    over-ordered hist (changing k) (changing j) = refl

    change-due-ordered : (hist : List (Three ℕ)) → joint_change_due s (map o hist) ≡ joint_change_due s hist
    change-due-ordered [] = refl
    change-due-ordered (r ∷ older) =
        (λ i. joint_change_over s (map o (r ∷ older)) (joint-ordered older i) (joint-ordered (r ∷ older) i))
        ∙ over-ordered (r ∷ older) (signals s older).joint (signals s (r ∷ older)).joint

    due-ordered : (hist : List (Three ℕ)) → joint_due s (map o hist) ≡ joint_due s hist
    due-ordered hist = λ i.
        threshold-ordered Dip hist i ++ (threshold-ordered Swell hist i ++ (threshold-ordered Interruption hist i ++ change-due-ordered hist i))

    -- and so with recordings
    module _ (rec : List (Three ℤ)) where
      history-ordered : (i : ℕ) → joint_history s (map o rec) i ≡ map o (joint_history s rec i)
      history-ordered zero = refl
      history-ordered (suc i) = ap₂ ◌∷◌ (each-channel-ordered (λ (own : List ℤ). value s own (suc i)) rec) (history-ordered i)

      marks-ordered : (i : ℕ) → joint_marks s (map o rec) i ≡ joint_marks s rec i
      marks-ordered zero = refl
      marks-ordered (suc i) =
          let f : List ℤ → Bool = λ (own : List ℤ). value_clipped s own (suc i) in
          ap₂ ◌∷◌ (ap flag (ap any_of (each-channel-ordered f rec) ∙ fair.any-fair (each f (channels rec)))) (marks-ordered i)

      records-at-ordered : (i : ℕ) → joint_records_at s (map o rec) i ≡ joint_records_at s rec i
      records-at-ordered i =
          (λ j. map (record_of (marks-ordered i j)) (joint_due s (history-ordered i j)))
          ∙ ap (map (record_of (joint_marks s rec i))) (due-ordered (joint_history s rec i))

      due-after-ordered : (v c : ℕ) → joint_due_after s (map o rec) v c ≡ joint_due_after s rec v c
      due-after-ordered v zero = refl
      due-after-ordered v (suc c) = ap₂ ◌++◌ (due-after-ordered v c) (records-at-ordered (v + suc c))

      count-ordered : joint_count s (map o rec) ≡ joint_count s rec
      count-ordered = ap (value_count s) (channel-ordered on_a x (λ t. refl) rec) ∙ count-channel s rec x

      pub records-ordered : joint_records s (map o rec) ≡ joint_records s rec
      records-ordered = ap (joint_due_after s (map o rec) 0) count-ordered ∙ due-after-ordered 0 (joint_count s rec)
