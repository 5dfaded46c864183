-- What the signal says of the number of values is kept by its step, from every signal of which it holds, also from one that no recording gives.
use Rattle.std.specs.Prelude.{◌≡◌, refl, Bool, true, false, ℕ, suc, ◌≤◌, if◌then◌else◌}
use Rattle.std.proofs.Common.{arith, ltb-true, ltb-false}
use Rattle.numbers.specs.Notation.{◌<ᵇ◌}
use Rattle.rvc.specs.declared.Signal.{Signal}
use Rattle.rvc.specs.declared.Signal.TheVariants.{Filling, Unsettled, Steady, Changing}
use Rattle.rvc.specs.Signal.{signal_after, ValidSignal}

-- a signal that is true has a full window
pub after-valid : (n v : ℕ) (b : Bool) (p : Signal) → (b ≡ true → n ≤ suc v) → ValidSignal n v p → ValidSignal n (suc v) (signal_after n (suc v) b p)
after-valid n v true p full h = full refl
after-valid n v false Filling full h = fills (suc v <ᵇ n) refl
  where
    fills : (few : Bool) → (suc v <ᵇ n) ≡ few → ValidSignal n (suc v) (if few then Filling else Unsettled)
    fills true e = ltb-true (suc v) n e
    fills false e = ltb-false (suc v) n e
after-valid n v false Unsettled full h = omega arith
after-valid n v false Steady full h = (omega arith, omega arith)
after-valid n v false (Changing k) full h = (h.0, omega (arith, h.1))
