-- The steady signal as the code keeps it: the limit in force, where it is held, whether it is true at a value, and what it is after one; and the same of the
-- reading's signal, for any truth.
use Rattle.std.specs.Prelude.{Bool, true, false, List, ℕ, suc, ◌-◌, ◌≤◌, ◌<◌, length, if◌then◌else◌}
use Rattle.numbers.specs.Notation.{◌≤ᵇ◌, ◌<ᵇ◌}
use Rattle.settings.specs.declared.Settings.{Settings}
use Rattle.settings.specs.declared.Scaled.{Scaled}
use Rattle.settings.specs.Settings.{window_length_of}
use Rattle.reading.specs.Changes.{calm, Signal as ReadSignal}
use Rattle.reading.specs.Changes.Signal.{filling, unsettled, steady, changing}
use Rattle.window.specs.Window.{pushed}
use Rattle.window.specs.Range.{calm_with}
use Rattle.rvc.specs.declared.Signal.{Signal}
use Rattle.rvc.specs.declared.Signal.TheVariants.{Filling, Unsettled, Steady, Changing}

-- the limit in force: T, or T − H in a change; and scaled
abbrev pub limit_in : Settings → Signal → ℕ
limit_in s Filling = s.limit
limit_in s Unsettled = s.limit
limit_in s Steady = s.limit
limit_in s (Changing k) = s.limit - s.reduction

abbrev pub limit_of : Scaled → Signal → ℕ
limit_of t Filling = t.limit
limit_of t Unsettled = t.limit
limit_of t Steady = t.limit
limit_of t (Changing k) = t.limit - t.reduction

-- whether the signal is false at value i, whatever the window: while it fills, and up to k + n in a change since k
abbrev pub held_at : ℕ → ℕ → Signal → Bool
held_at n i Filling = i <ᵇ n
held_at n i Unsettled = false
held_at n i Steady = false
held_at n i (Changing k) = i - k ≤ᵇ n

-- whether it is true at value i, which is r, as the code tests it: a is the sum of the window of n, and part are its other values
abbrev pub steady_by : Scaled → ℕ → List ℕ → ℕ → ℕ → ℕ → Signal → Bool
steady_by t n part i r a p = if held_at n i p then false else calm_with n a (limit_of t p) part r

-- and by the reading's calm, after v values whose window is w
abbrev pub steady_after : Settings → ℕ → List ℕ → ℕ → Signal → Bool
steady_after s v w r p = let n = window_length_of s in if held_at n (suc v) p then false else calm s (limit_in s p) (pushed n v w r)

-- the signal after value i, at which it is true or not
abbrev pub signal_after : ℕ → ℕ → Bool → Signal → Signal
signal_after n i true p = Steady
signal_after n i false Filling = if i <ᵇ n then Filling else Unsettled
signal_after n i false Unsettled = Unsettled
signal_after n i false Steady = Changing i
signal_after n i false (Changing k) = Changing k

-- the reading's signal, as the code keeps it; whether it is true at the newest value of a history; and after value i, at which it is true or not
abbrev pub signal_of : ReadSignal → Signal
signal_of filling = Filling
signal_of unsettled = Unsettled
signal_of steady = Steady
signal_of (changing k) = Changing k

abbrev pub true_at : Settings → List ℕ → ReadSignal → Bool
true_at s hist p = if held_at (window_length_of s) (length hist) (signal_of p) then false else calm s (limit_in s (signal_of p)) hist

abbrev pub turned : ℕ → ℕ → Bool → ReadSignal → ReadSignal
turned n i true p = steady
turned n i false filling = if i <ᵇ n then filling else unsettled
turned n i false unsettled = unsettled
turned n i false steady = changing i
turned n i false (changing k) = changing k

-- what the signal says of the number of values v: a change starts after the first window
abbrev pub ValidSignal : ℕ → ℕ → Signal → Type 0
ValidSignal n v Filling = v < n
ValidSignal n v Unsettled = n ≤ v
ValidSignal n v Steady = n ≤ v
ValidSignal n v (Changing k) = (n < k) × (k ≤ v)

-- what the code's test needs
pub record TestReady (t : Scaled) (n a : ℕ) (p : Signal) : Type 0 where
  pub some : 0 < n
  pub most : n ≤ 120
  pub sum-le : a ≤ 62914560
  pub limit-le : limit_of t p ≤ 62914560
