-- 02, N2: rapid voltage changes of three channels, with N5's recovery from a long dip.
use Rattle.std.specs.Prelude.{Bool, true, false, ◌&&◌, ◌||◌, List, [], ◌∷◌, ℕ, suc, ◌-◌, length, drop, if◌then◌else◌}
use Rattle.settings.specs.declared.Settings.{Settings}
use Rattle.numbers.specs.Notation.{◌≤ᵇ◌, ◌<ᵇ◌, ◌≡ᵇ◌}
use Rattle.settings.specs.Settings.{window_length_of}
use Rattle.reading.specs.declared.Kind.TheVariants.{Dip, Swell}
use Rattle.reading.specs.declared.Event.{Event}
use Rattle.reading.specs.Values.{up_to}
use Rattle.reading.specs.Thresholds.{greatest}
use Rattle.reading.specs.Changes.{window_sum, gap, Signal, next, sum_before, greatest_difference}
use Rattle.reading.specs.Changes.Signal.{filling, unsettled, steady, changing}
use Rattle.three_reading.specs.declared.Three.{Three}
use Rattle.three_reading.specs.Three.{each, all_of, Channel, at, channel, channels}
use Rattle.three_reading.specs.Three.Channel.{on_a, on_b, on_c}
use Rattle.three_reading.specs.JointEvents.{joint_since}

-- each channel's own signal, with its own k; and the joint one, with the joint k
pub record Signals : Type 0 where
  pub own : Three Signal
  pub joint : Signal

abbrev pub is_true : Signal → Bool
is_true filling = false
is_true unsettled = false
is_true steady = true
is_true (changing k) = false

-- the joint signal at value i, which is true when all three own ones are: fewer than N values; never yet true; true; false since value k
abbrev pub joint_next : Settings → ℕ → Bool → Signal → Signal
joint_next s i true before = steady
joint_next s i false filling = if i <ᵇ window_length_of s then filling else unsettled
joint_next s i false unsettled = unsettled
joint_next s i false steady = changing i
joint_next s i false (changing k) = changing k

-- a channel's own signal goes on as 01 has it (`own-signals` of `ThreeSentences`)
abbrev pub own_next : Settings → Channel → List (Three ℕ) → Three Signal → Signal
own_next s c hist before = next s (channel c hist) (at c before)

abbrev pub signals_next : Settings → List (Three ℕ) → Signals → Signals
signals_next s hist before =
    let own : Three Signal = record { a = own_next s on_a hist before.own; b = own_next s on_b hist before.own; c = own_next s on_c hist before.own } in
    record { own = own; joint = joint_next s (length hist) (all_of (each is_true own)) before.joint }

-- the signals of a history
abbrev pub signals : Settings → List (Three ℕ) → Signals
signals s [] = record { own = record { a = filling; b = filling; c = filling }; joint = filling }
signals s (r ∷ older) = signals_next s (r ∷ older) (signals s older)

-- the first value from k on at which the joint dip or swell first stands, 0 where there is none
abbrev pub joint_first_stand : Settings → ℕ → List (Three ℕ) → ℕ
joint_first_stand s k [] = 0
joint_first_stand s k (r ∷ older) =
    let i = suc (length older) in
    let before = joint_first_stand s k older in
    let here = k ≤ᵇ i && (joint_since s Dip (r ∷ older) ≡ᵇ i || joint_since s Swell (r ∷ older) ≡ᵇ i) in
    if 0 <ᵇ before then before else if here then i else 0

-- whether the joint dip or swell stands at the newest value
abbrev pub joint_dip_or_swell : Settings → List (Three ℕ) → Bool
joint_dip_or_swell s hist = 0 <ᵇ joint_since s Dip hist || 0 <ᵇ joint_since s Swell hist

-- 02, N5: whether it stands at value k − 1
abbrev pub joint_stood_before : Settings → ℕ → List (Three ℕ) → Bool
joint_stood_before s k hist = joint_dip_or_swell s (up_to (k - 1) hist)

-- the worst channel's of a change's magnitudes
abbrev pub greatest_of : Three ℕ → ℕ
greatest_of t = greatest (t.a ∷ t.b ∷ t.c ∷ [])

-- the record of a change that runs from the joint k to the newest value, m: its magnitudes are each by itself the worst channel's, each channel against its own
-- A(k − 1); none if the joint dip or swell stands at k − 1, or first stands at k to m − N
abbrev pub joint_change_event : Settings → ℕ → List (Three ℕ) → List Event
joint_change_event s k hist =
    let n = window_length_of s in
    let last = length hist - n in
    let e : Event = record {
      kind = 4;
      start = k;
      duration = last - k;
      first = greatest_of (each (greatest_difference s k) (channels hist));
      second = greatest_of (each (λ (own : List ℕ). gap (window_sum s own) (sum_before s k own)) (channels hist));
    } in
    if joint_stood_before s k hist || 0 <ᵇ joint_first_stand s k (drop n hist) then [] else e ∷ []

-- due at the newest value: the change in progress before it, where the joint signal is true again
abbrev pub joint_change_over : Settings → List (Three ℕ) → Signal → Signal → List Event
joint_change_over s hist filling now = []
joint_change_over s hist unsettled now = []
joint_change_over s hist steady now = []
joint_change_over s hist (changing k) filling = []
joint_change_over s hist (changing k) unsettled = []
joint_change_over s hist (changing k) steady = joint_change_event s k hist
joint_change_over s hist (changing k) (changing j) = []

abbrev pub joint_change_due : Settings → List (Three ℕ) → List Event
joint_change_due s [] = []
joint_change_due s (r ∷ older) =
    let before = signals s older in
    joint_change_over s (r ∷ older) before.joint (signals_next s (r ∷ older) before).joint
