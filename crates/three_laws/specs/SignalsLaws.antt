-- The signals of three channels: each own one is 01's, and a change of the joint one lasts more than N values.
use Rattle.std.specs.Prelude.{◌≡◌, refl, ◌⊎◌, Bool, true, false, List, [], ◌∷◌, ℕ, suc, ◌+◌, ◌-◌, ◌≤◌, ◌<◌, length, if◌then◌else◌}
use Rattle.std.proofs.Common.{sym, ◌∙◌, ap, inl, inr, arith, ltb-true, ltb-false, leb-false}
use Rattle.std.proofs.Math.Decide.{dec_le}
use Rattle.std.proofs.lemmas.Bool.{eqb-false}
use Rattle.settings.specs.declared.Settings.{Settings}
use Rattle.settings.specs.Settings.{window_length_of}
use Rattle.settings.specs.SettingsLaws.{window_length_of-some}
use Rattle.numbers.specs.Notation.{◌≤ᵇ◌, ◌<ᵇ◌, ◌≡ᵇ◌}
use Rattle.reading.specs.Changes.{calm, Signal, next, signal}
use Rattle.reading.specs.Changes.Signal.{filling, unsettled, steady, changing}
use Rattle.reading.specs.Image.{phase_number}
use Rattle.reading_laws.specs.Sentences.{truth}
use Rattle.reading_laws.specs.SignalLaws.{false-before-N}
use Rattle.three_reading.specs.declared.Three.{Three}
use Rattle.three_reading.specs.Three.{each, all_of, Channel, at, channel, channels}
use Rattle.three_reading.specs.Three.Channel.{on_a, on_b, on_c}
use Rattle.three_reading.specs.JointChanges.{is_true, joint_next, signals}
use Rattle.three_laws.specs.ChannelLaws.{never, three-same, at_each, at-each-channel, length-channel, all-at, not-all-at}

-- signals told apart
clash : {A : Type 0} (p q : Signal) → p ≡ q → (phase_number p ≡ᵇ phase_number q) ≡ false → A
clash p q e f = absurd (eqb-false (phase_number p) (phase_number q) f (ap phase_number e))

abbrev turn_of : Signal → ℕ
turn_of filling = 0
turn_of unsettled = 0
turn_of steady = 0
turn_of (changing k) = k

true-steady : (p : Signal) → is_true p ≡ true → p ≡ steady
true-steady filling e = never (sym e)
true-steady unsettled e = never (sym e)
true-steady steady e = refl
true-steady (changing k) e = never (sym e)

-- what a signal knows of the count v: a change starts after the first window of n
abbrev pub ValidSignal : ℕ → ℕ → Signal → Type 0
ValidSignal n v filling = v < n
ValidSignal n v unsettled = n ≤ v
ValidSignal n v steady = n ≤ v
ValidSignal n v (changing k) = (n < k) × (k ≤ v)

module _ (s : Settings) where
  -- any channel's own signal is that of its own history
  pub own-signal : (c : Channel) (hist : List (Three ℕ)) → at c (signals s hist).own ≡ signal s (channel c hist)
  own-signal on_a [] = refl
  own-signal on_b [] = refl
  own-signal on_c [] = refl
  own-signal c (r ∷ older) = go c ∙ ap (next s (channel c (r ∷ older))) (own-signal c older)
    where
      go : (c : Channel) → at c (signals s (r ∷ older)).own ≡ next s (channel c (r ∷ older)) (at c (signals s older).own)
      go on_a = refl
      go on_b = refl
      go on_c = refl

  pub own-signals : (hist : List (Three ℕ)) → (signals s hist).own ≡ each (signal s) (channels hist)
  own-signals hist = three-same (λ c. own-signal c hist ∙ sym (at-each-channel c (signal s) hist))

  -- all three own signals are true at the newest value
  abbrev pub all_true : List (Three ℕ) → Bool
  all_true hist = all_of (each is_true (signals s hist).own)

  -- then each of them is, and so there are N values
  pub own-true : (hist : List (Three ℕ)) → all_true hist ≡ true → (c : Channel) → signal s (channel c hist) ≡ steady
  own-true hist e c =
      let own = (signals s hist).own in
      sym (own-signal c hist) ∙ true-steady (at c own) (sym (at_each c is_true own) ∙ all-at (each is_true own) e c)

  pub true-full : (hist : List (Three ℕ)) → all_true hist ≡ true → window_length_of s ≤ length hist
  true-full hist e = go (dec_le (window_length_of s) (length hist))
    where
      go : Dec (window_length_of s ≤ length hist) → window_length_of s ≤ length hist
      go (yes h) = h
      go (no f) = never (sym (ap truth (own-true hist e on_a)) ∙ false-before-N s (channel on_a hist) (omega (arith, f, length-channel on_a hist)))

  own-false : (hist : List (Three ℕ)) → all_true hist ≡ false → (c : Channel) × (is_true (signal s (channel c hist)) ≡ false)
  own-false hist e =
      let own = (signals s hist).own in
      let there : (c : Channel) × (at c (each is_true own) ≡ false) = not-all-at (each is_true own) e in
      (there.0, ap is_true (sym (own-signal there.0 hist)) ∙ (sym (at_each there.0 is_true own) ∙ there.1))

  -- the joint signal is true where all own ones are, and nowhere else
  pub joint-all : (hist : List (Three ℕ)) → is_true (signals s hist).joint ≡ all_true hist
  joint-all [] = refl
  joint-all (r ∷ older) = go (all_true (r ∷ older)) (signals s older).joint
    where
      fill : (b : Bool) → is_true (if b then filling else unsettled) ≡ false
      fill true = refl
      fill false = refl

      go : (b : Bool) (p : Signal) → is_true (joint_next s (suc (length older)) b p) ≡ b
      go true p = refl
      go false filling = fill (suc (length older) <ᵇ window_length_of s)
      go false unsettled = refl
      go false steady = refl
      go false (changing k) = refl

  pub joint-true : (hist : List (Three ℕ)) → (signals s hist).joint ≡ steady → all_true hist ≡ true
  joint-true hist e = sym (joint-all hist) ∙ ap is_true e

  pub joint-valid : (hist : List (Three ℕ)) → ValidSignal (window_length_of s) (length hist) (signals s hist).joint
  joint-valid [] = window_length_of-some s
  joint-valid (r ∷ older) = go (all_true (r ∷ older)) refl (signals s older).joint (joint-valid older)
    where
      n : ℕ
      n = window_length_of s

      v : ℕ
      v = length older

      fill : (b : Bool) → (suc v <ᵇ n) ≡ b → ValidSignal n (suc v) (if b then filling else unsettled)
      fill true e = ltb-true (suc v) n e
      fill false e = ltb-false (suc v) n e

      go : (b : Bool) → all_true (r ∷ older) ≡ b → (p : Signal) → ValidSignal n v p → ValidSignal n (suc v) (joint_next s (suc v) b p)
      go true e p was = true-full (r ∷ older) e
      go false e filling was = fill (suc v <ᵇ n) refl
      go false e unsettled was = omega arith
      go false e steady was = (omega arith, omega arith)
      go false e (changing k) was = (was.0, omega (arith, was.1))

  -- an own signal that turns false, and one that is false since k
  turns : (hist : List ℕ) → is_true (next s hist steady) ≡ false → next s hist steady ≡ changing (length hist)
  turns hist e = go (calm s s.limit hist) e
    where
      go : (b : Bool) → is_true (if b then steady else changing (length hist)) ≡ false → (if b then steady else changing (length hist)) ≡ changing (length hist)
      go true e = never e
      go false e = refl

  held : (hist : List ℕ) (k : ℕ) → (next s hist (changing k) ≡ changing k) ⊎ (k + window_length_of s < length hist)
  held hist k = go (length hist ≤ᵇ k + window_length_of s) refl
    where
      go : (b : Bool) → (length hist ≤ᵇ k + window_length_of s) ≡ b
          → ((if b then changing k else if calm s (s.limit - s.reduction) hist then steady else changing k) ≡ changing k) ⊎ (k + window_length_of s < length hist)
      go true e = inl refl
      go false e = inr (leb-false (length hist) (k + window_length_of s) e)

  -- where the joint signal is false since k, some own one is too, or k + N is past
  abbrev pub Runs : List (Three ℕ) → ℕ → Type 0
  Runs hist k = ((c : Channel) × (signal s (channel c hist) ≡ changing k)) ⊎ (k + window_length_of s < length hist)

  runs_on : (r : Three ℕ) (older : List (Three ℕ)) (k : ℕ) → Runs older k → Runs (r ∷ older) k
  runs_on r older k (inr h) = inr (omega arith)
  runs_on r older k (inl there) = go (held (channel there.0 (r ∷ older)) k)
    where
      go : (next s (channel there.0 (r ∷ older)) (changing k) ≡ changing k) ⊎ (k + window_length_of s < length (channel there.0 (r ∷ older))) → Runs (r ∷ older) k
      go (inl e) = inl (there.0, ap (next s (channel there.0 (r ∷ older))) there.1 ∙ e)
      go (inr h) = inr (omega (arith, h, length-channel there.0 (r ∷ older)))

  pub joint-runs : (hist : List (Three ℕ)) (k : ℕ) → (signals s hist).joint ≡ changing k → Runs hist k
  joint-runs [] k e = clash filling (changing k) e refl
  joint-runs (r ∷ older) k e = go (all_true (r ∷ older)) refl (signals s older).joint refl e (joint-runs older k)
    where
      i : ℕ
      i = suc (length older)

      fill : (b : Bool) → (if b then filling else unsettled) ≡ changing k → Runs (r ∷ older) k
      fill true e = clash filling (changing k) e refl
      fill false e = clash unsettled (changing k) e refl

      begins : all_true (r ∷ older) ≡ false → all_true older ≡ true → i ≡ k → Runs (r ∷ older) k
      begins now was e =
          let there : (c : Channel) × (is_true (signal s (channel c (r ∷ older))) ≡ false) = own-false (r ∷ older) now in
          let hist = channel there.0 (r ∷ older) in
          let stepped : signal s hist ≡ next s hist steady = ap (next s hist) (own-true older was there.0) in
          let n : length hist ≡ k = length-channel there.0 (r ∷ older) ∙ e in
          inl (there.0, stepped ∙ (turns hist (sym (ap is_true stepped) ∙ there.1) ∙ ap changing n))

      go : (b : Bool) → all_true (r ∷ older) ≡ b → (p : Signal) → (signals s older).joint ≡ p → joint_next s i b p ≡ changing k
          → ((signals s older).joint ≡ changing k → Runs older k) → Runs (r ∷ older) k
      go true now p was e before = clash steady (changing k) e refl
      go false now filling was e before = fill (i <ᵇ window_length_of s) e
      go false now unsettled was e before = clash unsettled (changing k) e refl
      go false now steady was e before = begins now (joint-true older was) (ap turn_of e)
      go false now (changing j) was e before = runs_on r older k (before (was ∙ e))

  -- so it is true again after k + N at the earliest
  pub change-lasts : (r : Three ℕ) (older : List (Three ℕ)) (k : ℕ) → (signals s older).joint ≡ changing k → all_true (r ∷ older) ≡ true
      → k + window_length_of s < length (r ∷ older)
  change-lasts r older k was now = go (runs_on r older k (joint-runs older k was))
    where
      go : Runs (r ∷ older) k → k + window_length_of s < length (r ∷ older)
      go (inl there) = clash steady (changing k) (sym (own-true (r ∷ older) now there.0) ∙ there.1) refl
      go (inr h) = h
