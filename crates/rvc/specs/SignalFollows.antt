-- The signal follows the history of its channel: it turns by its truth alone, and from the code's signal and window of the older values its truth at a value and
-- what it is after it are those of the reading.
use Rattle.std.specs.Prelude.{◌≡◌, refl, Bool, true, false, List, [], ◌∷◌, ℕ, suc, ◌+◌, ◌-◌, ◌≤◌, ◌<◌, length, if◌then◌else◌}
use Rattle.std.proofs.Common.{sym, ◌∙◌, ap, subst, arith, le-leb, leb-true, leb-false}
use Rattle.std.proofs.lemmas.Bool.{lt-leb}
use Rattle.numbers.specs.Notation.{◌≤ᵇ◌, ◌<ᵇ◌}
use Rattle.settings.specs.declared.Settings.{Settings}
use Rattle.settings.specs.Settings.{window_length_of}
use Rattle.settings.specs.SettingsLaws.{window_length_of-some, window_length_of-most}
use Rattle.reading.specs.Changes.{calm, Signal, next, signal}
use Rattle.reading.specs.Changes.Signal.{filling, unsettled, steady, changing}
use Rattle.window.specs.Window.{window_of}
use Rattle.window.specs.WindowFollows.{window-follows, calm-window_of}
use Rattle.rvc.specs.Signal.{limit_in, held_at, steady_after, signal_after, signal_of, true_at, turned, ValidSignal}
use Rattle.rvc.specs.SignalLaws.{asked-full, true-full, unless-held}
use Rattle.rvc.specs.SignalValid.{after-valid}

-- for any truth: what the signal is after a value, as the code keeps it
module _ (n i : ℕ) where
  pub turned-is : (b : Bool) (p : Signal) → signal_of (turned n i b p) ≡ signal_after n i b (signal_of p)
  turned-is true p = refl
  turned-is false filling = fills (i <ᵇ n)
    where
      fills : (few : Bool) → signal_of (if few then filling else unsettled) ≡ (if few then signal_of filling else signal_of unsettled)
      fills true = refl
      fills false = refl
  turned-is false unsettled = refl
  turned-is false steady = refl
  turned-is false (changing k) = refl

pub turned-valid : (n v : ℕ) (b : Bool) (p : Signal) → (b ≡ true → n ≤ suc v) → ValidSignal n v (signal_of p) → ValidSignal n (suc v) (signal_of (turned n (suc v) b p))
turned-valid n v b p full h = subst (ValidSignal n (suc v)) (sym (turned-is n (suc v) b p)) (after-valid n v b (signal_of p) full h)

-- i − k ≤ n is i ≤ k + n
age-is : (i k n : ℕ) → (i - k ≤ᵇ n) ≡ (i ≤ᵇ k + n)
age-is i k n = go (i ≤ᵇ k + n) refl
  where
    go : (b : Bool) → (i ≤ᵇ k + n) ≡ b → (i - k ≤ᵇ n) ≡ b
    go true e = let g : i ≤ k + n = leb-true i (k + n) e in le-leb (i - k) n (omega arith)
    go false e = let g : k + n < i = leb-false i (k + n) e in lt-leb (i - k) n (omega arith)

-- the reading's signal turns by its truth
pub next-turned : (s : Settings) (hist : List ℕ) (p : Signal) → next s hist p ≡ turned (window_length_of s) (length hist) (true_at s hist p) p
next-turned s hist filling = fills (length hist <ᵇ window_length_of s) (calm s s.limit hist) refl
  where
    fills : (b c : Bool) → (length hist <ᵇ window_length_of s) ≡ b →
        (if b then filling else if c then steady else unsettled) ≡ turned (window_length_of s) (length hist) (if b then false else c) filling
    fills true c e = rw e
    fills false true e = refl
    fills false false e = rw e
next-turned s hist unsettled = settles (calm s s.limit hist)
  where
    settles : (c : Bool) → (if c then steady else unsettled) ≡ turned (window_length_of s) (length hist) c unsettled
    settles true = refl
    settles false = refl
next-turned s hist steady = leaves (calm s s.limit hist)
  where
    leaves : (c : Bool) → (if c then steady else changing (length hist)) ≡ turned (window_length_of s) (length hist) c steady
    leaves true = refl
    leaves false = refl
next-turned s hist (changing k) = rw (age-is (length hist) k (window_length_of s)) (stays (length hist ≤ᵇ k + window_length_of s) (calm s (s.limit - s.reduction) hist))
  where
    stays : (b c : Bool) → (if b then changing k else if c then steady else changing k) ≡ turned (window_length_of s) (length hist) (if b then false else c) (changing k)
    stays true c = refl
    stays false true = refl
    stays false false = refl

module _ (s : Settings) where
  abbrev n : ℕ
  n = window_length_of s

  pub signal-valid : (hist : List ℕ) → ValidSignal (window_length_of s) (length hist) (signal_of (signal s hist))
  signal-valid [] = window_length_of-some s
  signal-valid (r ∷ older) =
      let p = signal s older in
      let h = signal-valid older in
      let full = true-full n (length older) (signal_of p) (calm s (limit_in s (signal_of p)) (r ∷ older)) h in
      subst (λ (q : Signal). ValidSignal n (suc (length older)) (signal_of q)) (sym (next-turned s (r ∷ older) p))
      (turned-valid n (length older) (true_at s (r ∷ older) p) p full h)

  -- a value r after older ones
  module _ (r : ℕ) (older : List ℕ) where
    pub true-follows : (p : Signal) → ValidSignal (window_length_of s) (length older) (signal_of p) →
        steady_after s (length older) (window_of (window_length_of s) older) r (signal_of p) ≡ true_at s (r ∷ older) p
    true-follows p h =
        rw (window-follows n r older (window_length_of-some s) (window_length_of-most s))
        (unless-held (held_at n (suc (length older)) (signal_of p))
        (λ e. calm-window_of s (limit_in s (signal_of p)) (r ∷ older) (asked-full n (length older) (signal_of p) h e)))

    -- the channel's own signal: its truth at r, and the signal after it
    abbrev own : Bool
    own = steady_after s (length older) (window_of (window_length_of s) older) r (signal_of (signal s older))

    pub signal-follows : signal_after (window_length_of s) (suc (length older)) own (signal_of (signal s older)) ≡ signal_of (signal s (r ∷ older))
    signal-follows =
        let p = signal s older in
        ap (λ (b : Bool). signal_after n (suc (length older)) b (signal_of p)) (true-follows p (signal-valid older))
        ∙ sym (ap signal_of (next-turned s (r ∷ older) p) ∙ turned-is n (suc (length older)) (true_at s (r ∷ older) p) p)
