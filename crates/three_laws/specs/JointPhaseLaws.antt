-- The joint phase says what the joint signal has been, and each phase says another thing.
use Rattle.std.specs.Prelude.{◌≡◌, refl, Bool, true, false, List, [], ◌∷◌, ℕ, suc, ◌-◌, ◌≤◌, length, drop, if◌then◌else◌}
use Rattle.std.proofs.Common.{sym, ◌∙◌, ap, arith, le_antisymm, length-drop}
use Rattle.std.proofs.Math.Decide.{dec_le}
use Rattle.std.proofs.Math.Seq.{drop-nil}
use Rattle.settings.specs.declared.Settings.{Settings}
use Rattle.settings.specs.Settings.{window_length_of}
use Rattle.numbers.specs.Notation.{◌<ᵇ◌}
use Rattle.reading.specs.Changes.{Signal}
use Rattle.reading.specs.Changes.Signal.{filling, unsettled, steady, changing}
use Rattle.three_reading.specs.declared.Three.{Three}
use Rattle.three_reading.specs.JointChanges.{is_true, joint_next, signals}
use Rattle.three_laws.specs.ThreeSentences.{joint_true, JointNever, JointTurned, JointSays}
use Rattle.three_laws.specs.ChannelLaws.{never}
use Rattle.three_laws.specs.SignalsLaws.{ValidSignal, all_true, true-full, joint-all, joint-valid}

-- a history at its newest value, and at an earlier one
at-newest : (hist : List (Three ℕ)) → drop (length hist - length hist) hist ≡ hist
at-newest hist = let e : length hist - length hist ≡ 0 = omega arith in rw e

at-older : (i : ℕ) (r : Three ℕ) (older : List (Three ℕ)) → i ≤ length older → drop (length (r ∷ older) - i) (r ∷ older) ≡ drop (length older - i) older
at-older i r older h = let e : suc (length older) - i ≡ suc (length older - i) = omega arith in rw e

module _ (s : Settings) where
  -- what a phase says of the past
  abbrev Was : List (Three ℕ) → Signal → Type 0
  Was hist filling = JointNever s hist
  Was hist unsettled = JointNever s hist
  Was hist steady = joint_true s hist (length hist) ≡ true
  Was hist (changing k) = JointTurned s hist k

  newest : (hist : List (Three ℕ)) → joint_true s hist (length hist) ≡ all_true s hist
  newest hist = ap (λ (h : List (Three ℕ)). is_true (signals s h).joint) (at-newest hist) ∙ joint-all s hist

  -- the past with one value more, at which the signal is false
  module _ (r : Three ℕ) (older : List (Three ℕ)) where
    as_it_was : (i : ℕ) → i ≤ length older → joint_true s (r ∷ older) i ≡ joint_true s older i
    as_it_was i h = ap (λ (l : List (Three ℕ)). is_true (signals s l).joint) (at-older i r older h)

    module _ (now : all_true s (r ∷ older) ≡ false) where
      false-at : (i : ℕ) → i ≤ suc (length older) → (i ≤ length older → joint_true s older i ≡ false) → joint_true s (r ∷ older) i ≡ false
      false-at i h was = go (dec_le i (length older))
        where
          go : Dec (i ≤ length older) → joint_true s (r ∷ older) i ≡ false
          go (yes l) = as_it_was i l ∙ was l
          go (no f) = let e : i ≡ suc (length older) = omega (arith, f) in ap (joint_true s (r ∷ older)) e ∙ (newest (r ∷ older) ∙ now)

      never-still : JointNever s older → JointNever s (r ∷ older)
      never-still was = λ i h. false-at i h (was i)

      turned-still : {k : ℕ} → JointTurned s older k → JointTurned s (r ∷ older) k
      turned-still {k} was = record {
        there = omega arith;
        before = as_it_was (k - 1) (omega arith) ∙ was.before;
        since = λ i g h. false-at i h (was.since i g);
      }

      turned-now : joint_true s older (length older) ≡ true → JointTurned s (r ∷ older) (suc (length older))
      turned-now was = record {
        there = omega arith;
        before = let e : suc (length older) - 1 ≡ length older = omega arith in ap (joint_true s (r ∷ older)) e ∙ (as_it_was (length older) (omega arith) ∙ was);
        since = λ i g h. false-at i h (λ l. absurd (omega arith));
      }

      either : (b : Bool) → JointNever s older → Was (r ∷ older) (if b then filling else unsettled)
      either true was = never-still was
      either false was = never-still was

    next-says : (b : Bool) → all_true s (r ∷ older) ≡ b → (p : Signal) → Was older p → Was (r ∷ older) (joint_next s (suc (length older)) b p)
    next-says true now p was = newest (r ∷ older) ∙ now
    next-says false now filling was = either now (suc (length older) <ᵇ window_length_of s) was
    next-says false now unsettled was = never-still now was
    next-says false now steady was = turned-now now was
    next-says false now (changing k) was = turned-still now was

  joint-was : (hist : List (Three ℕ)) → Was hist (signals s hist).joint
  joint-was [] = λ i h. rw drop-nil
  joint-was (r ∷ older) = next-says r older (all_true s (r ∷ older)) refl (signals s older).joint (joint-was older)

  pub joint-says : (hist : List (Three ℕ)) → JointSays s hist (signals s hist).joint
  joint-says hist = go (signals s hist).joint (joint-valid s hist) (joint-was hist)
    where
      go : (p : Signal) → ValidSignal (window_length_of s) (length hist) p → Was hist p → JointSays s hist p
      go filling n was = n
      go unsettled n was = (n, was)
      go steady n was = was
      go (changing k) n was = was

  -- no two phases say what is so
  module _ (hist : List (Three ℕ)) where
    both : {A : Type 0} (i : ℕ) → joint_true s hist i ≡ true → joint_true s hist i ≡ false → A
    both i p q = never (sym p ∙ q)

    -- where it is true there are N values
    enough : (i : ℕ) → joint_true s hist i ≡ true → window_length_of s ≤ length hist
    enough i e =
        let early = drop (length hist - i) hist in
        omega (arith, true-full s early (sym (joint-all s early) ∙ e), length-drop (length hist - i) hist)

    turned-last : (j k : ℕ) → JointTurned s hist j → JointTurned s hist k → j ≤ k
    turned-last j k at_j at-k = go (dec_le j k)
      where
        go : Dec (j ≤ k) → j ≤ k
        go (yes l) = l
        go (no f) = both (j - 1) at_j.before (at-k.since (j - 1) (omega (arith, f)) (omega arith))

    one-phase : (p q : Signal) → JointSays s hist p → JointSays s hist q → p ≡ q
    one-phase filling filling x y = refl
    one-phase filling unsettled x y = absurd (omega (arith, y.0))
    one-phase filling steady x y = absurd (omega (arith, enough (length hist) y))
    one-phase filling (changing k) x y = absurd (omega (arith, enough (k - 1) y.before))
    one-phase unsettled filling x y = absurd (omega (arith, x.0))
    one-phase unsettled unsettled x y = refl
    one-phase unsettled steady x y = both (length hist) y (x.1 (length hist) (omega arith))
    one-phase unsettled (changing k) x y = both (k - 1) y.before (x.1 (k - 1) (omega (arith, y.there)))
    one-phase steady filling x y = absurd (omega (arith, enough (length hist) x))
    one-phase steady unsettled x y = both (length hist) x (y.1 (length hist) (omega arith))
    one-phase steady steady x y = refl
    one-phase steady (changing k) x y = both (length hist) x (y.since (length hist) y.there (omega arith))
    one-phase (changing k) filling x y = absurd (omega (arith, enough (k - 1) x.before))
    one-phase (changing k) unsettled x y = both (k - 1) x.before (y.1 (k - 1) (omega (arith, x.there)))
    one-phase (changing k) steady x y = both (length hist) y (x.since (length hist) x.there (omega arith))
    one-phase (changing j) (changing k) x y = ap changing (le_antisymm (turned-last j k x y) (turned-last k j y x))

    pub joint-only : (p : Signal) → JointSays s hist p → (signals s hist).joint ≡ p
    joint-only p x = one-phase (signals s hist).joint p (joint-says hist) x
