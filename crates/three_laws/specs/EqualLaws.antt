-- Three equal channels are read as the one channel that they are.
use Rattle.std.specs.Prelude.{◌≡◌, refl, Bool, true, false, ◌&&◌, ◌||◌, List, [], ◌∷◌, ◌++◌, map, ℕ, zero, suc, ◌+◌, ◌-◌, ◌≤◌, length, drop, ℤ, if◌then◌else◌}
use Rattle.std.proofs.Common.{sym, ◌∙◌, ap, ap₂, arith, drop_of_length-le}
use Rattle.std.proofs.Math.Decide.{dec_le}
use Rattle.std.proofs.lemmas.List.{length-map}
use Rattle.settings.specs.declared.Settings.{Settings}
use Rattle.settings.specs.Settings.{window_length_of}
use Rattle.numbers.specs.Notation.{◌≤ᵇ◌, ◌<ᵇ◌, ◌≡ᵇ◌, flag}
use Rattle.reading.specs.declared.Kind.{Kind}
use Rattle.reading.specs.declared.Kind.TheVariants.{Dip, Swell, Interruption}
use Rattle.reading.specs.declared.Event.{Event}
use Rattle.reading.specs.Values.{value, value_count, history, since, up_to}
use Rattle.reading.specs.Clipping.{value_clipped, marks, record_of}
use Rattle.reading.specs.Thresholds.{begins, ends, stands_since, magnitude, kind_number, threshold_due}
use Rattle.reading.specs.Changes.{calm, window_sum, gap, Signal, next, signal, first_stand, stood_before, sum_before, greatest_difference, change_event, change_over, change_due}
use Rattle.reading.specs.Changes.Signal.{filling, unsettled, steady, changing}
use Rattle.reading.specs.Records.{due, records_at}
use Rattle.reading.specs.Feed.{due_after, records}
use Rattle.three_reading.specs.Three.{each, any_of, all_of, Channel, at, channel, channels, joint_history, joint_marks}
use Rattle.three_reading.specs.Three.Channel.{on_a, on_b, on_c}
use Rattle.three_reading.specs.JointEvents.{joint_begins, joint_ends, joint_since, worst, joint_threshold_due}
use Rattle.three_reading.specs.JointChanges.{is_true, joint_next, signals, joint_first_stand, joint_dip_or_swell, joint_stood_before, greatest_of, joint_change_event, joint_change_over, joint_change_due}
use Rattle.three_reading.specs.JointRecords.{joint_due, joint_records_at}
use Rattle.three_reading.specs.ThreeFeed.{joint_due_after, joint_records}
use Rattle.three_laws.specs.ThreeSentences.{same, equally}
use Rattle.three_laws.specs.ChannelLaws.{three-same, at-each-channel}
use Rattle.three_laws.specs.SignalsLaws.{own-signal}

-- any and all of equal tests, the worst of equal values
any_same : (b : Bool) → any_of (same b) ≡ b
any_same true = refl
any_same false = refl

all_same : (b : Bool) → all_of (same b) ≡ b
all_same true = refl
all_same false = refl

worst-same : (kind : Kind) (r : ℕ) → worst kind (same r) ≡ r
worst-same Dip r = omega arith
worst-same Swell r = omega arith
worst-same Interruption r = omega arith

greatest-same : (x : ℕ) → greatest_of (same x) ≡ x
greatest-same x = omega arith

-- each channel is the one
at_same : {X : Type 0} (c : Channel) (x : X) → at c (same x) ≡ x
at_same on_a x = refl
at_same on_b x = refl
at_same on_c x = refl

channel-same : {X : Type 0} (c : Channel) (l : List X) → channel c (equally l) ≡ l
channel-same c [] = refl
channel-same c (x ∷ xs) = ap₂ ◌∷◌ (at_same c x) (channel-same c xs)

each_same : {X Y : Type 0} (f : List X → Y) (l : List X) → each f (channels (equally l)) ≡ same (f l)
each_same f l = three-same (λ c. at-each-channel c f (equally l) ∙ (ap f (channel-same c l) ∙ sym (at_same c (f l))))

drop-same : {X : Type 0} (n : ℕ) (l : List X) → drop n (equally l) ≡ equally (drop n l)
drop-same zero l = refl
drop-same (suc n) [] = refl
drop-same (suc n) (x ∷ xs) = drop-same n xs

worst-all-same : (kind : Kind) (hist : List ℕ) → map (worst kind) (equally hist) ≡ hist
worst-all-same kind [] = refl
worst-all-same kind (r ∷ older) = ap₂ ◌∷◌ (worst-same kind r) (worst-all-same kind older)

-- a history up to N values before its end, in both words
settled : (n : ℕ) (hist : List ℕ) → up_to (length hist - n) hist ≡ drop n hist
settled n hist = go (dec_le n (length hist))
  where
    go : Dec (n ≤ length hist) → up_to (length hist - n) hist ≡ drop n hist
    go (yes h) = let e : length hist - (length hist - n) ≡ n = omega arith in ap (λ (k : ℕ). drop k hist) e
    go (no f) =
        let e : length hist ≤ length hist - (length hist - n) = omega (arith, f) in
        let few : length hist ≤ n = omega (arith, f) in
        drop_of_length-le hist e ∙ sym (drop_of_length-le hist few)

module _ (s : Settings) where
  begins-same : (kind : Kind) (r : ℕ) → joint_begins s kind (same r) ≡ begins s kind r
  begins-same Dip r = any_same (begins s Dip r)
  begins-same Swell r = any_same (begins s Swell r)
  begins-same Interruption r = all_same (begins s Interruption r)

  ends_same : (kind : Kind) (r : ℕ) → joint_ends s kind (same r) ≡ ends s kind r
  ends_same Dip r = all_same (ends s Dip r)
  ends_same Swell r = all_same (ends s Swell r)
  ends_same Interruption r = any_same (ends s Interruption r)

  since-same : (kind : Kind) (hist : List ℕ) → joint_since s kind (equally hist) ≡ stands_since s kind hist
  since-same kind [] = refl
  since-same kind (r ∷ older) = λ i.
      if begins-same kind r i then (if since-same kind older i ≡ᵇ 0 then suc (length-map older (same {X = ℕ}) i) else since-same kind older i)
      else if ends_same kind r i then 0
      else since-same kind older i

  threshold-same : (kind : Kind) (hist : List ℕ) → joint_threshold_due s kind (equally hist) ≡ threshold_due s kind hist
  threshold-same kind [] = refl
  threshold-same kind (r ∷ older) = λ i.
      let a = since-same kind older i in
      let b = suc (length-map older (same {X = ℕ}) i) in
      let e : Event = record { kind = kind_number kind; start = a; duration = b - a; first = magnitude kind (since a (worst-all-same kind older i)); second = 0 } in
      if 0 <ᵇ a && since-same kind (r ∷ older) i ≡ᵇ 0 then e ∷ [] else []

  -- the joint signal goes on as the own ones
  goes_on : (hist : List ℕ) (p : Signal) → joint_next s (length hist) (is_true (next s hist p)) p ≡ next s hist p
  goes_on hist filling = go (length hist <ᵇ window_length_of s) (calm s s.limit hist) refl
    where
      go : (b c : Bool) → (length hist <ᵇ window_length_of s) ≡ b
          → joint_next s (length hist) (is_true (if b then filling else if c then steady else unsettled)) filling ≡ (if b then filling else if c then steady else unsettled)
      go true c e = ap (λ (x : Bool). if x then filling else unsettled) e
      go false true e = refl
      go false false e = ap (λ (x : Bool). if x then filling else unsettled) e
  goes_on hist unsettled = go (calm s s.limit hist)
    where
      go : (c : Bool) → joint_next s (length hist) (is_true (if c then steady else unsettled)) unsettled ≡ (if c then steady else unsettled)
      go true = refl
      go false = refl
  goes_on hist steady = go (calm s s.limit hist)
    where
      go : (c : Bool) → joint_next s (length hist) (is_true (if c then steady else changing (length hist))) steady ≡ (if c then steady else changing (length hist))
      go true = refl
      go false = refl
  goes_on hist (changing k) = go (length hist ≤ᵇ k + window_length_of s) (calm s (s.limit - s.reduction) hist)
    where
      go : (b c : Bool) → joint_next s (length hist) (is_true (if b then changing k else if c then steady else changing k)) (changing k)
          ≡ (if b then changing k else if c then steady else changing k)
      go true c = refl
      go false true = refl
      go false false = refl

  own_same : (hist : List ℕ) → (signals s (equally hist)).own ≡ same (signal s hist)
  own_same hist = three-same (λ c. own-signal s c (equally hist) ∙ (ap (signal s) (channel-same c hist) ∙ sym (at_same c (signal s hist))))

  pub joint-same : (hist : List ℕ) → (signals s (equally hist)).joint ≡ signal s hist
  joint-same [] = refl
  joint-same (r ∷ older) =
      (λ i. joint_next s (suc (length-map older (same {X = ℕ}) i)) (all_of (each is_true (own_same (r ∷ older) i))) (joint-same older i))
      ∙ (ap (λ (b : Bool). joint_next s (suc (length older)) b (signal s older)) (all_same (is_true (signal s (r ∷ older)))) ∙ goes_on (r ∷ older) (signal s older))

  first-stand-same : (k : ℕ) (hist : List ℕ) → joint_first_stand s k (equally hist) ≡ first_stand s k hist
  first-stand-same k [] = refl
  first-stand-same k (r ∷ older) = λ i.
      let v = suc (length-map older (same {X = ℕ}) i) in
      let before = first-stand-same k older i in
      let here = k ≤ᵇ v && (since-same Dip (r ∷ older) i ≡ᵇ v || since-same Swell (r ∷ older) i ≡ᵇ v) in
      if 0 <ᵇ before then before else if here then v else 0

  stood-same : (k : ℕ) (hist : List ℕ) → joint_stood_before s k (equally hist) ≡ stood_before s k hist
  stood-same k hist =
      let older = up_to (k - 1) hist in
      let same-older : up_to (k - 1) (equally hist) ≡ equally older
      = ap (λ (v : ℕ). drop (v - (k - 1)) (equally hist)) (length-map hist (same {X = ℕ})) ∙ drop-same (length hist - (k - 1)) hist in
      ap (joint_dip_or_swell s) same-older ∙ (λ i. 0 <ᵇ since-same Dip older i || 0 <ᵇ since-same Swell older i)

  greatest-each : (f : List ℕ → ℕ) (hist : List ℕ) → greatest_of (each f (channels (equally hist))) ≡ f hist
  greatest-each f hist = ap greatest_of (each_same f hist) ∙ greatest-same (f hist)

  change-same : (k : ℕ) (hist : List ℕ) → joint_change_event s k (equally hist) ≡ change_event s k hist
  change-same k hist =
      let n = window_length_of s in
      let dropped : drop n (equally hist) ≡ equally (up_to (length hist - n) hist) = drop-same n hist ∙ ap equally (sym (settled n hist)) in
      let stand : joint_first_stand s k (drop n (equally hist)) ≡ first_stand s k (up_to (length hist - n) hist)
      = ap (joint_first_stand s k) dropped ∙ first-stand-same k (up_to (length hist - n) hist) in
      λ i.
      let e : Event = record {
        kind = 4;
        start = k;
        duration = (length-map hist (same {X = ℕ}) i - n) - k;
        first = greatest-each (greatest_difference s k) hist i;
        second = greatest-each (λ (own : List ℕ). gap (window_sum s own) (sum_before s k own)) hist i;
      } in
      if stood-same k hist i || 0 <ᵇ stand i then [] else e ∷ []

  over-same : (hist : List ℕ) (p q : Signal) → joint_change_over s (equally hist) p q ≡ change_over s hist p q
  over-same hist filling q = refl
  over-same hist unsettled q = refl
  over-same hist steady q = refl
  over-same hist (changing k) filling = refl
  over-same hist (changing k) unsettled = refl
  over-same hist (changing k) steady = change-same k hist
  over-same hist (changing k) (changing j) = refl

  change-due-same : (hist : List ℕ) → joint_change_due s (equally hist) ≡ change_due s hist
  change-due-same [] = refl
  change-due-same (r ∷ older) =
      (λ i. joint_change_over s (equally (r ∷ older)) (joint-same older i) (joint-same (r ∷ older) i)) ∙ over-same (r ∷ older) (signal s older) (signal s (r ∷ older))

  due-same : (hist : List ℕ) → joint_due s (equally hist) ≡ due s hist
  due-same hist = λ i. threshold-same Dip hist i ++ (threshold-same Swell hist i ++ (threshold-same Interruption hist i ++ change-due-same hist i))

  -- and so with recordings
  module _ (rec : List ℤ) where
    history-same : (i : ℕ) → joint_history s (equally rec) i ≡ equally (history s rec i)
    history-same zero = refl
    history-same (suc i) = ap₂ ◌∷◌ (each_same (λ (own : List ℤ). value s own (suc i)) rec) (history-same i)

    marks-same : (i : ℕ) → joint_marks s (equally rec) i ≡ marks s rec i
    marks-same zero = refl
    marks-same (suc i) =
        ap₂ ◌∷◌ (ap flag (ap any_of (each_same (λ (own : List ℤ). value_clipped s own (suc i)) rec) ∙ any_same (value_clipped s rec (suc i)))) (marks-same i)

    records-at-same : (i : ℕ) → joint_records_at s (equally rec) i ≡ records_at s rec i
    records-at-same i = (λ j. map (record_of (marks-same i j)) (joint_due s (history-same i j))) ∙ ap (map (record_of (marks s rec i))) (due-same (history s rec i))

    due-after-same : (v c : ℕ) → joint_due_after s (equally rec) v c ≡ due_after s rec v c
    due-after-same v zero = refl
    due-after-same v (suc c) = ap₂ ◌++◌ (due-after-same v c) (records-at-same (v + suc c))

    pub records-same : joint_records s (equally rec) ≡ records s rec
    records-same = ap (λ (own : List ℤ). joint_due_after s (equally rec) 0 (value_count s own)) (channel-same on_a rec) ∙ due-after-same 0 (value_count s rec)
