-- The code's test of the signal, from the values that stay in the window and the scaled limits, is that of the reading's calm.
use Rattle.std.specs.Prelude.{◌≡◌, refl, Bool, true, false, List, ℕ, suc, ◌+◌, ◌-◌, ◌*◌, ◌/◌, ◌≤◌, ◌<◌, length, take, if◌then◌else◌}
use Rattle.std.proofs.Common.{sym, ◌∙◌, true≢false, arith, mul-le-mul, le_refl, ltb-false, leb-false}
use Rattle.settings.specs.declared.Settings.{Settings}
use Rattle.settings.specs.Settings.{window_length_of, scaled_of, ValidSettings}
use Rattle.settings.specs.SettingsLaws.{window_length_of-some, window_length_of-most}
use Rattle.reading.specs.Changes.{sum, calm}
use Rattle.window.specs.Window.{pushed, staying, ValidWindow}
use Rattle.window.specs.WindowLaws.{sum-after}
use Rattle.window.specs.WindowValid.{pushed-valid, sum-le}
use Rattle.window.specs.Range.{calm_with}
use Rattle.window.specs.RangeLaws.{calm-pushed}
use Rattle.rvc.specs.declared.Signal.{Signal}
use Rattle.rvc.specs.declared.Signal.TheVariants.{Filling, Unsettled, Steady, Changing}
use Rattle.rvc.specs.Signal.{limit_in, limit_of, held_at, steady_by, steady_after, ValidSignal, TestReady}

-- the limit in force, scaled
limit_of-is : (s : Settings) (p : Signal) → limit_of (scaled_of s) p ≡ limit_in s p * window_length_of s * s.declared / 10000
limit_of-is s Filling = refl
limit_of-is s Unsettled = refl
limit_of-is s Steady = refl
limit_of-is s (Changing k) =
    let n = window_length_of s in
    let u = s.declared in
    let less : (s.limit - s.reduction) * n * u ≤ s.limit * n * u = mul-le-mul (mul-le-mul {n₁ = s.limit - s.reduction} {n₂ = s.limit} (omega arith) (le_refl n)) (le_refl u) in
    omega (arith, less)

-- no limit is above the whole voltage, 10,000 hundredths of a percent
limit_of-le : (s : Settings) (p : Signal) → ValidSettings s → limit_of (scaled_of s) p ≤ 62914560
limit_of-le s p valid = rw (limit_of-is s p) (omega (arith, mul-le-mul (mul-le-mul (most p) (window_length_of-most s)) valid.declared-valid.1))
  where
    most : (p : Signal) → limit_in s p ≤ 10000
    most Filling = omega (arith, valid.limit-valid.1.0)
    most Unsettled = omega (arith, valid.limit-valid.1.0)
    most Steady = omega (arith, valid.limit-valid.1.0)
    most (Changing k) = omega (arith, valid.limit-valid.1.0)

-- where the window is looked at, it is full
module _ (n v : ℕ) where
  pub asked-full : (p : Signal) → ValidSignal n v p → held_at n (suc v) p ≡ false → n ≤ suc v
  asked-full Filling h e = ltb-false (suc v) n e
  asked-full Unsettled h e = omega arith
  asked-full Steady h e = omega arith
  asked-full (Changing k) h e = omega (arith, h.0, h.1)

  pub true-full : (p : Signal) (calm : Bool) → ValidSignal n v p → (if held_at n (suc v) p then false else calm) ≡ true → n ≤ suc v
  true-full p calm h e = go (held_at n (suc v) p) refl e
    where
      go : (held : Bool) → held_at n (suc v) p ≡ held → (if held then false else calm) ≡ true → n ≤ suc v
      go true e f = absurd (true≢false (sym f))
      go false e f = asked-full p h e

-- in a change it is true after k + n only
pub true-late : (n i k : ℕ) (calm : Bool) → (if held_at n i (Changing k) then false else calm) ≡ true → k + n < i
true-late n i k calm e = go (held_at n i (Changing k)) refl e
  where
    go : (held : Bool) → held_at n i (Changing k) ≡ held → (if held then false else calm) ≡ true → k + n < i
    go true e f = absurd (true≢false (sym f))
    go false e f = omega (arith, leb-false (i - k) n e)

-- two tests that agree where the signal is not held
pub unless-held : (held : Bool) {a b : Bool} → (held ≡ false → a ≡ b) → (if held then false else a) ≡ (if held then false else b)
unless-held true f = refl
unless-held false f = f refl

module _ (s : Settings) (v : ℕ) (w : List ℕ) (r : ℕ) (window : ValidWindow 524288 (window_length_of s) v w) where
  abbrev n : ℕ
  n = window_length_of s

  -- the sum of the window with value r
  abbrev after : ℕ
  after = sum (take (window_length_of s) (pushed (window_length_of s) v w r))

  pub test-ready : (p : Signal) → ValidSettings s → r ≤ 524288 → TestReady (scaled_of s) n after p
  test-ready p settings small = record {
    some = window_length_of-some s;
    most = window_length_of-most s;
    sum-le = omega (
      arith,
      window_length_of-most s,
      sum-le n (suc v) (pushed n v w r) (window_length_of-most s) (pushed-valid n v r w (window_length_of-some s) (window_length_of-most s) small window),
    );
    limit-le = limit_of-le s p settings;
  }

  calm-is : (p : Signal) → n ≤ suc v → calm_with n after (limit_of (scaled_of s) p) (staying n v w) r ≡ calm s (limit_in s p) (pushed n v w r)
  calm-is p full =
      let long : n ≤ length w = omega (arith, window.size, window_length_of-most s) in
      (λ i. calm_with n (sum-after n v r w (window_length_of-some s) full long i) (limit_of-is s p i) (staying n v w) r) ∙ sym (calm-pushed s (limit_in s p) v r w full long)

  pub steady-is : (p : Signal) → ValidSignal n v p → steady_by (scaled_of s) n (staying n v w) (suc v) r after p ≡ steady_after s v w r p
  steady-is p h = unless-held (held_at n (suc v) p) (λ e. calm-is p (asked-full n v p h e))
