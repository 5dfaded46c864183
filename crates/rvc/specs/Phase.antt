-- One value's step of the phase, under any signal and under its own, and what a history and its marks leave of it.
use Rattle.std.specs.Prelude.{Bool, true, false, ◌&&◌, ◌||◌, List, [], ◌∷◌, ℕ, suc, ◌-◌, ◌*◌, ◌≤◌, max, length, take, if◌then◌else◌, Option, Some, None}
use Rattle.numbers.specs.Notation.{◌≤ᵇ◌, ◌<ᵇ◌, ◌≡ᵇ◌, flag}
use Rattle.numbers.specs.Rules.{Holds}
use Rattle.settings.specs.declared.Settings.{Settings}
use Rattle.settings.specs.declared.Scaled.{Scaled}
use Rattle.settings.specs.Settings.{window_length_of}
use Rattle.reading.specs.declared.Kind.TheVariants.{Dip, Swell}
use Rattle.reading.specs.declared.Event.{Event}
use Rattle.reading.specs.declared.Record.{Record}
use Rattle.reading.specs.Clipping.{clipped_from}
use Rattle.reading.specs.Thresholds.{stands_since}
use Rattle.reading.specs.Changes.{sum, window_sum, gap, Signal as ReadSignal, signal, dip_or_swell, sum_before, greatest_difference}
use Rattle.reading.specs.Changes.Signal.{filling, unsettled, steady, changing}
use Rattle.reading.specs.Image.{stand_number}
use Rattle.reading.specs.Restore.{change_rule, phase_rule}
use Rattle.window.specs.Window.{pushed, leaving, window_of}
use Rattle.rvc.specs.declared.Change.{Change}
use Rattle.rvc.specs.declared.Phase.{Phase}
use Rattle.rvc.specs.declared.Phase.TheVariants.{Filling, Unsettled, Steady, Changing}
use Rattle.rvc.specs.declared.Stands.{Stands}
use Rattle.rvc.specs.declared.Joining.{Joining}
use Rattle.rvc.specs.declared.Moved.{Moved}
use Rattle.rvc.specs.declared.Signal.{Signal}
use Rattle.rvc.specs.declared.Signal.TheVariants.{Filling as IsFilling, Unsettled as IsUnsettled, Steady as IsSteady, Changing as IsChanging}
use Rattle.rvc.specs.Signal.{steady_by, steady_after, TestReady}

-- the signal that a phase stands under
abbrev pub signal_in : Phase → Signal
signal_in Filling = IsFilling
signal_in Unsettled = IsUnsettled
signal_in Steady = IsSteady
signal_in (Changing c) = IsChanging c.start

-- a change that begins with the value j
abbrev pub change_from : Joining → Change
change_from j =
    let stand = if j.stands.first || j.stands.before then j.number else 0 in
    record { start = j.number; sum = j.before; difference = 0; stand = stand; clipped = false }

-- one in progress, with the value j that joins the window of n
abbrev pub grown : ℕ → Joining → Change → Change
grown n j c = record {
  start = c.start;
  sum = c.sum;
  difference = if j.number - c.start <ᵇ n then c.difference else max (gap (n * j.leaving) c.sum) c.difference;
  stand = if 0 <ᵇ c.stand then c.stand else if j.stands.first then j.number else 0;
  clipped = if j.number - c.start <ᵇ n then c.clipped else j.mark ≡ᵇ 1 || c.clipped;
}

-- the record of one that is over with j; none where the stand that it keeps is before the window
abbrev pub closing : ℕ → Joining → Change → Option Record
closing n j c =
    let settled = j.number - n in
    let e : Event = record { kind = 4; start = c.start; duration = settled - c.start; first = c.difference; second = gap j.after c.sum } in
    if 0 <ᵇ c.stand && c.stand ≤ᵇ settled then None else Some (record { event = e; clipped = c.clipped })

-- after a value at which the signal is false; and the record that ends with one at which it is true
abbrev pub onward : ℕ → Joining → Phase → Phase
onward n j Filling = if j.number <ᵇ n then Filling else Unsettled
onward n j Unsettled = Unsettled
onward n j Steady = Changing (change_from j)
onward n j (Changing c) = Changing (grown n j c)

abbrev pub ended_of : ℕ → Joining → Phase → Option Record
ended_of n j Filling = None
ended_of n j Unsettled = None
ended_of n j Steady = None
ended_of n j (Changing c) = closing n j (grown n j c)

-- what the code's step of a change needs of the window's length and of j: that their product fits. It is no part of j's type: `joining_of` reads any window
abbrev pub ChangeReady : ℕ → Joining → Type 0
ChangeReady n j = (n ≤ 120) × (j.leaving ≤ 524288)

-- the phase after the value j, at which the signal is true or not, and the record that ends with it
abbrev pub moved_by : ℕ → Joining → Bool → Phase → Moved
moved_by n j is_steady p = record { phase = if is_steady then Steady else onward n j p; ended = if is_steady then ended_of n j p else None }

-- the same under its own signal, as the code tests it, where part are the other values of the window
abbrev pub moved_on : Scaled → ℕ → List ℕ → Joining → Phase → Moved
moved_on t n part j p = moved_by n j (steady_by t n part j.number j.value j.after (signal_in p)) p

-- value r after v values, from the window w of n and its marks before it; and the step under the phase's own signal, by the reading's calm
abbrev pub joining_of : ℕ → ℕ → List ℕ → List ℕ → ℕ → Stands → Joining
joining_of n v w ms r stands = record {
  number = suc v;
  value = r;
  leaving = leaving n v w;
  mark = leaving n v ms;
  before = sum (take n w);
  after = sum (take n (pushed n v w r));
  stands = stands;
}

abbrev pub moved_after : Settings → ℕ → List ℕ → List ℕ → ℕ → Stands → Phase → Moved
moved_after s v w ms r stands p = let n = window_length_of s in moved_by n (joining_of n v w ms r stands) (steady_after s v w r (signal_in p)) p

-- the newest value of a history, as it joins the window of the older ones, whose marks are ms
abbrev pub joining_newest : Settings → ℕ → List ℕ → List ℕ → Stands → Joining
joining_newest s r older ms stands = let n = window_length_of s in joining_of n (length older) (window_of n older) (window_of n ms) r stands

-- what a history and its marks leave: of a change since k that keeps the stand f; of a phase under any signal, where `stand` tells it of k; and under its own
abbrev pub change_under : Settings → List ℕ → List ℕ → ℕ → ℕ → Change
change_under s hist ms k f = record { start = k; sum = sum_before s k hist; difference = greatest_difference s k hist; stand = f; clipped = clipped_from s k ms }

abbrev pub phase_under : Settings → List ℕ → List ℕ → (ℕ → ℕ) → ReadSignal → Phase
phase_under s hist ms stand filling = Filling
phase_under s hist ms stand unsettled = Unsettled
phase_under s hist ms stand steady = Steady
phase_under s hist ms stand (changing k) = Changing (change_under s hist ms k (stand k))

abbrev pub phase_on : Settings → List ℕ → List ℕ → ReadSignal → Phase
phase_on s hist ms p = phase_under s hist ms (λ k. stand_number s k hist) p

abbrev pub phase_of : Settings → List ℕ → List ℕ → Phase
phase_of s hist ms = phase_on s hist ms (signal s hist)

-- the event of a change since k that is over with the newest value, 01's m; whether the stand f that it keeps is one up to m − N; its record then; and what ends with
-- the newest value, at which the signal is true or not
abbrev pub change_up_to : Settings → List ℕ → ℕ → Event
change_up_to s hist k =
    record { kind = 4; start = k; duration = length hist - window_length_of s - k; first = greatest_difference s k hist; second = gap (window_sum s hist) (sum_before s k hist) }

abbrev pub dropped : Settings → List ℕ → ℕ → Bool
dropped s hist f = 0 <ᵇ f && f ≤ᵇ length hist - window_length_of s

abbrev pub change_ended : Settings → List ℕ → List ℕ → ℕ → ℕ → Option Record
change_ended s hist ms k f = if dropped s hist f then None else Some (record { event = change_up_to s hist k; clipped = clipped_from s k ms })

abbrev pub ended_under : Settings → List ℕ → List ℕ → (ℕ → ℕ) → Bool → ReadSignal → Option Record
ended_under s hist ms stand false p = None
ended_under s hist ms stand true filling = None
ended_under s hist ms stand true unsettled = None
ended_under s hist ms stand true steady = None
ended_under s hist ms stand true (changing k) = change_ended s hist ms k (stand k)

-- whether a dip or a swell first stands at the newest value
abbrev pub stands_first : Settings → List ℕ → Bool
stands_first s hist = stands_since s Dip hist ≡ᵇ length hist || stands_since s Swell hist ≡ᵇ length hist

-- the dips and swells at it
abbrev pub stands_newest : Settings → ℕ → List ℕ → Stands
stands_newest s r older = record { first = stands_first s (r ∷ older); before = dip_or_swell s older }

-- what the code's step needs
pub record Joins (t : Scaled) (n : ℕ) (j : Joining) (p : Phase) : Type 0 where
  pub test-ready : TestReady t n j.after (signal_in p)
  pub leaving-le : j.leaving ≤ 524288

-- a change and a phase in the numbers of body 4
abbrev pub change_row : Change → List ℕ
change_row c = c.start ∷ c.sum ∷ c.difference ∷ c.stand ∷ []

abbrev pub phase_row : Phase → List ℕ
phase_row Filling = 0 ∷ 0 ∷ 0 ∷ 0 ∷ 0 ∷ []
phase_row Unsettled = 1 ∷ 0 ∷ 0 ∷ 0 ∷ 0 ∷ []
phase_row Steady = 2 ∷ 0 ∷ 0 ∷ 0 ∷ 0 ∷ []
phase_row (Changing c) = 3 ∷ change_row c

-- and their mark
abbrev pub phase_mark : Phase → ℕ
phase_mark Filling = 0
phase_mark Unsettled = 0
phase_mark Steady = 0
phase_mark (Changing c) = flag c.clipped

-- what refusal 11 allows of them, in a window of n values, after v of them
abbrev pub ValidChange : ℕ → ℕ → Change → Type 0
ValidChange n v c = Holds (change_rule n v (change_row c) (flag c.clipped))

abbrev pub ValidPhase : ℕ → ℕ → Phase → Type 0
ValidPhase n v p = Holds (phase_rule n v (phase_row p) (phase_mark p))
