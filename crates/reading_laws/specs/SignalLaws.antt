-- 01's sentence on the steady signal: each phase of the reading's signal says what its truth value has been, and so which case of the sentence holds.
use Rattle.std.specs.Prelude.{◌≡◌, refl, ◌⊎◌, Bool, true, false, List, [], ◌∷◌, ℕ, suc, ◌+◌, ◌-◌, ◌≤◌, ◌<◌, length, if◌then◌else◌}
use Rattle.std.proofs.Common.{sym, ◌∙◌, ap, inl, inr, arith, le_antisymm, ltb-true, lt-ltb, le-ltb, le-leb}
use Rattle.std.proofs.Math.Decide.{dec_le, dec_lt}
use Rattle.std.proofs.Math.Seq.{drop-nil}
use Rattle.std.proofs.lemmas.Bool.{lt-leb}
use Rattle.settings.specs.declared.Settings.{Settings}
use Rattle.settings.specs.Settings.{window_length_of}
use Rattle.settings.specs.SettingsLaws.{window_length_of-some}
use Rattle.numbers.specs.Notation.{◌≤ᵇ◌, ◌<ᵇ◌}
use Rattle.reading.specs.Values.{up_to}
use Rattle.reading.specs.Changes.{calm, Signal, next, signal}
use Rattle.reading.specs.Changes.Signal.{filling, unsettled, steady, changing}
use Rattle.reading.specs.Image.{phase_number}
use Rattle.reading_laws.specs.Sentences.{truth, is_steady, NeverTrue, LastTurnedFalse, PhaseSays}

-- a history after its newest value, and after an earlier one
up_to-newest : (hist : List ℕ) → up_to (length hist) hist ≡ hist
up_to-newest hist = let e : length hist - length hist ≡ 0 = omega arith in rw e

pub up_to-older : {X : Type 0} (i : ℕ) (r : X) (older : List X) → i ≤ length older → up_to i (r ∷ older) ≡ up_to i older
up_to-older i r older h = let e : suc (length older) - i ≡ suc (length older - i) = omega arith in rw e

both : {b : Bool} → b ≡ true → b ≡ false → ⊥
both p q = let z : ◌≡◌ {A = ℕ} 0 1 = cc in omega arith

truth-if : (c : Bool) (p : Signal) → truth p ≡ false → truth (if c then steady else p) ≡ c
truth-if true p e = refl
truth-if false p e = e

module _ (s : Settings) where
  -- what a phase says of the past
  abbrev Past : List ℕ → Signal → Type 0
  Past hist filling = NeverTrue s hist
  Past hist unsettled = NeverTrue s hist
  Past hist steady = is_steady s hist ≡ true
  Past hist (changing k) = LastTurnedFalse s hist k

  -- the past with one value more, at which the signal is false
  module _ (r : ℕ) (older : List ℕ) where
    false-at : (i : ℕ) → i ≤ suc (length older) → (i ≤ length older → is_steady s (up_to i older) ≡ false) → is_steady s (r ∷ older) ≡ false
        → is_steady s (up_to i (r ∷ older)) ≡ false
    false-at i h was now = go (dec_le i (length older))
      where
        go : Dec (i ≤ length older) → is_steady s (up_to i (r ∷ older)) ≡ false
        go (yes l) = rw (up_to-older i r older l) (was l)
        go (no f) = let e : i ≡ suc (length older) = omega (arith, f) in rw (e, up_to-newest (r ∷ older)) now

    never-still : NeverTrue s older → is_steady s (r ∷ older) ≡ false → NeverTrue s (r ∷ older)
    never-still was now = λ i h. false-at i h (was i) now

    turned-still : {k : ℕ} → LastTurnedFalse s older k → is_steady s (r ∷ older) ≡ false → LastTurnedFalse s (r ∷ older) k
    turned-still {k} was now = record {
      there = omega arith;
      before = rw (up_to-older (k - 1) r older (omega arith)) was.before;
      since = λ i g h. false-at i h (was.since i g) now;
    }

    turned-now : is_steady s older ≡ true → is_steady s (r ∷ older) ≡ false → LastTurnedFalse s (r ∷ older) (suc (length older))
    turned-now was now = record {
      there = omega arith;
      before = let e : suc (length older) - (suc (length older) - 1) ≡ 1 = omega arith in rw e was;
      since = λ i g h. false-at i h (λ l. absurd (omega arith)) now;
    }

    -- a next phase with the signal's truth value says what is so
    abbrev Says : Signal → Type 0
    Says p = is_steady s (r ∷ older) ≡ truth p → Past (r ∷ older) p

    either : (b : Bool) (p q : Signal) → Says p → Says q → Says (if b then p else q)
    either true p q f g = f
    either false p q f g = g

    settles : (c : Bool) (p : Signal) → Says p → Says (if c then steady else p)
    settles c p f = either c steady p (λ now. now) f

    next-says : (p : Signal) → Past older p → Says (next s (r ∷ older) p)
    next-says filling was =
        let c = calm s s.limit (r ∷ older) in
        either (length (r ∷ older) <ᵇ window_length_of s) filling (if c then steady else unsettled) (never-still was) (settles c unsettled (never-still was))
    next-says unsettled was = settles (calm s s.limit (r ∷ older)) unsettled (never-still was)
    next-says steady was = settles (calm s s.limit (r ∷ older)) (changing (suc (length older))) (turned-now was)
    next-says (changing k) was =
        let c = calm s (s.limit - s.reduction) (r ∷ older) in
        either (length (r ∷ older) ≤ᵇ k + window_length_of s) (changing k) (if c then steady else changing k)
        (turned-still was)
        (settles c (changing k) (turned-still was))

  past : (hist : List ℕ) → Past hist (signal s hist)
  past [] = λ i h. rw drop-nil
  past (r ∷ older) = next-says r older (signal s older) (past older) refl

  -- one of the three cases holds
  pub signal-was : (hist : List ℕ) → (is_steady s hist ≡ true) ⊎ NeverTrue s hist ⊎ ((k : ℕ) × LastTurnedFalse s hist k)
  signal-was hist = go (signal s hist) (past hist)
    where
      go : (p : Signal) → Past hist p → (is_steady s hist ≡ true) ⊎ NeverTrue s hist ⊎ ((k : ℕ) × LastTurnedFalse s hist k)
      go filling never = inr (inl never)
      go unsettled never = inr (inl never)
      go steady now = inl now
      go (changing k) turned = inr (inr (k, turned))

  -- no two of them do, and there is one such k
  module _ (hist : List ℕ) where
    true-or-never : is_steady s hist ≡ true → NeverTrue s hist → ⊥
    true-or-never now never = both now (rw up_to-newest at (never (length hist) (omega arith)))

    true-or-turned : (k : ℕ) → is_steady s hist ≡ true → LastTurnedFalse s hist k → ⊥
    true-or-turned k now turned = both now (rw up_to-newest at (turned.since (length hist) turned.there (omega arith)))

    never-or-turned : (k : ℕ) → NeverTrue s hist → LastTurnedFalse s hist k → ⊥
    never-or-turned k never turned = both turned.before (never (k - 1) (omega arith))

    turned-last : (j k : ℕ) → LastTurnedFalse s hist j → LastTurnedFalse s hist k → j ≤ k
    turned-last j k at_j at-k = go (dec_le j k)
      where
        go : Dec (j ≤ k) → j ≤ k
        go (yes l) = l
        go (no f) = absurd (both at_j.before (at-k.since (j - 1) (omega (arith, f)) (omega arith)))

    turned-once : (j k : ℕ) → LastTurnedFalse s hist j → LastTurnedFalse s hist k → j ≡ k
    turned-once j k at_j at-k = le_antisymm (turned-last j k at_j at-k) (turned-last k j at-k at_j)

  -- the sentence, case by case
  few-values : (hist : List ℕ) → length hist < window_length_of s → signal s hist ≡ filling
  few-values [] h = refl
  few-values (r ∷ older) h = rw (few-values older (omega arith), lt-ltb (length (r ∷ older)) (window_length_of s) h)

  pub false-before-N : (hist : List ℕ) → length hist < window_length_of s → is_steady s hist ≡ false
  false-before-N hist h = ap truth (few-values hist h)

  module _ (r : ℕ) (older : List ℕ) where
    pub calm-after-true : is_steady s older ≡ true → is_steady s (r ∷ older) ≡ calm s s.limit (r ∷ older)
    calm-after-true was = go (signal s older) was
      where
        go : (p : Signal) → truth p ≡ true → truth (next s (r ∷ older) p) ≡ calm s s.limit (r ∷ older)
        go filling e = absurd (both e refl)
        go unsettled e = absurd (both e refl)
        go steady e = truth-if (calm s s.limit (r ∷ older)) (changing (suc (length older))) refl
        go (changing k) e = absurd (both e refl)

    pub calm-if-never : window_length_of s ≤ length (r ∷ older) → NeverTrue s older → is_steady s (r ∷ older) ≡ calm s s.limit (r ∷ older)
    calm-if-never h never = go (signal s older) (past older)
      where
        go : (p : Signal) → Past older p → truth (next s (r ∷ older) p) ≡ calm s s.limit (r ∷ older)
        go filling was = rw (le-ltb (length (r ∷ older)) (window_length_of s) h) (truth-if (calm s s.limit (r ∷ older)) unsettled refl)
        go unsettled was = truth-if (calm s s.limit (r ∷ older)) unsettled refl
        go steady was = absurd (true-or-never older was never)
        go (changing k) was = absurd (never-or-turned older k never was)

    module _ (k : ℕ) (turned : LastTurnedFalse s older k) where
      in-change : signal s older ≡ changing k
      in-change = go (signal s older) (past older)
        where
          go : (p : Signal) → Past older p → p ≡ changing k
          go filling was = absurd (never-or-turned older k was turned)
          go unsettled was = absurd (never-or-turned older k was turned)
          go steady was = absurd (true-or-turned older k was turned)
          go (changing j) was = ap changing (turned-once older j k was turned)

      pub false-in-change : length (r ∷ older) ≤ k + window_length_of s → is_steady s (r ∷ older) ≡ false
      false-in-change h = rw (in-change, le-leb (length (r ∷ older)) (k + window_length_of s) h)

      pub calm-in-change : k + window_length_of s < length (r ∷ older) → is_steady s (r ∷ older) ≡ calm s (s.limit - s.reduction) (r ∷ older)
      calm-in-change h =
          rw (in-change, lt-leb (length (r ∷ older)) (k + window_length_of s) h)
          (truth-if (calm s (s.limit - s.reduction) (r ∷ older)) (changing k) refl)

  pub calm-at-N : (hist : List ℕ) → length hist ≡ window_length_of s → is_steady s hist ≡ calm s s.limit hist
  calm-at-N [] h = absurd (omega (arith, window_length_of-some s))
  calm-at-N (r ∷ older) h = calm-if-never r older (omega arith) (rw (few-values older (omega arith)) at (past older))

  -- what the phase says
  not-filling : (c : Bool) (p q : Signal) → (p ≡ filling → ⊥) → (q ≡ filling → ⊥) → (if c then p else q) ≡ filling → ⊥
  not-filling true p q f g e = f e
  not-filling false p q f g e = g e

  other : (p : Signal) → 0 < phase_number p → p ≡ filling → ⊥
  other p some e = omega (arith, some, ap phase_number e)

  filling-few : (hist : List ℕ) → signal s hist ≡ filling → length hist < window_length_of s
  filling-few [] e = window_length_of-some s
  filling-few (r ∷ older) e = go (signal s older) e
    where
      hist : List ℕ
      hist = r ∷ older

      few : (b c : Bool) → (length hist <ᵇ window_length_of s) ≡ b → (if b then filling else if c then steady else unsettled) ≡ filling → length hist < window_length_of s
      few true c t f = ltb-true (length hist) (window_length_of s) t
      few false c t f = absurd (not-filling c steady unsettled (other steady (omega arith)) (other unsettled (omega arith)) f)

      go : (p : Signal) → next s hist p ≡ filling → length hist < window_length_of s
      go filling f = few (length hist <ᵇ window_length_of s) (calm s s.limit hist) refl f
      go unsettled f = absurd (not-filling (calm s s.limit hist) steady unsettled (other steady (omega arith)) (other unsettled (omega arith)) f)
      go steady f = absurd (not-filling (calm s s.limit hist) steady (changing (length hist)) (other steady (omega arith)) (other (changing (length hist)) (omega arith)) f)
      go (changing k) f =
          absurd (not-filling (length hist ≤ᵇ k + window_length_of s) (changing k) _ (other (changing k) (omega arith))
          (not-filling (calm s (s.limit - s.reduction) hist) steady (changing k) (other steady (omega arith)) (other (changing k) (omega arith))) f)

  pub phase-says : (hist : List ℕ) → PhaseSays s hist (signal s hist)
  phase-says hist = go (signal s hist) refl (past hist)
    where
      full : signal s hist ≡ unsettled → Dec (length hist < window_length_of s) → window_length_of s ≤ length hist
      full e (yes few) = absurd (other unsettled (omega arith) (sym e ∙ few-values hist few))
      full e (no f) = omega (arith, f)

      go : (p : Signal) → signal s hist ≡ p → Past hist p → PhaseSays s hist p
      go filling e was = filling-few hist e
      go unsettled e was = (full e (dec_lt (length hist) (window_length_of s)), was)
      go steady e was = was
      go (changing k) e was = was
