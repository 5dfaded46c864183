-- The joint events: when they stand, and that at most three records are due at one value.
use Rattle.std.specs.Prelude.{◌≡◌, refl, ◌⊎◌, Bool, true, false, ◌&&◌, ◌||◌, List, [], ◌∷◌, ◌++◌, ℕ, suc, ◌+◌, ◌-◌, ◌*◌, ◌≤◌, ◌<◌, length, drop, ℤ, if◌then◌else◌}
use Rattle.std.proofs.Common.{sym, ◌∙◌, inl, inr, arith, mul-le-mul, le_refl, length-append, ltb-true, leb-false}
use Rattle.std.proofs.lemmas.List.{length-map}
use Rattle.settings.specs.declared.Settings.{Settings}
use Rattle.settings.specs.Settings.{window_length_of, ValidSettings}
use Rattle.numbers.specs.Notation.{◌<ᵇ◌, ◌≡ᵇ◌, flag}
use Rattle.numbers.specs.NotationLaws.{flag-most}
use Rattle.reading.specs.declared.Kind.{Kind}
use Rattle.reading.specs.declared.Kind.TheVariants.{Dip, Swell, Interruption}
use Rattle.reading.specs.declared.Event.{Event}
use Rattle.reading.specs.Clipping.{record_of}
use Rattle.reading.specs.Thresholds.{begins, ends}
use Rattle.reading.specs.Changes.{Signal}
use Rattle.reading.specs.Changes.Signal.{filling, unsettled, steady, changing}
use Rattle.three_reading.specs.declared.Three.{Three}
use Rattle.three_reading.specs.Three.{each, Channel, at, joint_history, joint_marks}
use Rattle.three_reading.specs.JointEvents.{joint_begins, joint_ends, joint_since, joint_threshold_due}
use Rattle.three_reading.specs.JointChanges.{joint_first_stand, joint_stood_before, joint_change_event, joint_change_over, joint_change_due, signals}
use Rattle.three_reading.specs.JointRecords.{joint_due, joint_records_at}
use Rattle.three_laws.specs.ChannelLaws.{at_each, all-at, not-all-at, any_at, not-any-at}

module _ (s : Settings) where
  pub joint_since-le : (kind : Kind) (hist : List (Three ℕ)) → joint_since s kind hist ≤ length hist
  joint_since-le kind [] = omega arith
  joint_since-le kind (r ∷ older) =
      go (joint_begins s kind r) (joint_ends s kind r) (joint_since s kind older ≡ᵇ 0) (joint_since s kind older) (joint_since-le kind older)
    where
      go : (b e z : Bool) (before : ℕ) → before ≤ length older
          → (if b then (if z then suc (length older) else before) else if e then 0 else before) ≤ suc (length older)
      go true e true before h = omega arith
      go true e false before h = omega arith
      go false true z before h = omega arith
      go false false z before h = omega arith

  -- where it stands, it begins or does not end
  stands_by : (kind : Kind) (r : Three ℕ) (older : List (Three ℕ)) → 0 < joint_since s kind (r ∷ older)
      → (joint_begins s kind r ≡ true) ⊎ (joint_ends s kind r ≡ false)
  stands_by kind r older h = go (joint_begins s kind r) (joint_ends s kind r) h
    where
      go : (b e : Bool) → 0 < (if b then (if joint_since s kind older ≡ᵇ 0 then suc (length older) else joint_since s kind older) else if e then 0 else joint_since s kind older)
          → (b ≡ true) ⊎ (e ≡ false)
      go true e h = inl refl
      go false true h = absurd (omega arith)
      go false false h = inr refl

  -- a swell stands only where some channel is above W − G, an interruption only where every one is below I + G
  swell-stands : (r : Three ℕ) (older : List (Three ℕ)) → 0 < joint_since s Swell (r ∷ older)
      → (c : Channel) × ((s.swell - s.hysteresis) * s.declared < 10000 * at c r)
  swell-stands r older h = go (stands_by Swell r older h)
    where
      low : (s.swell - s.hysteresis) * s.declared ≤ s.swell * s.declared
      low = mul-le-mul {n₁ = s.swell - s.hysteresis} {n₂ = s.swell} (omega arith) (le_refl s.declared)

      go : (joint_begins s Swell r ≡ true) ⊎ (joint_ends s Swell r ≡ false) → (c : Channel) × ((s.swell - s.hysteresis) * s.declared < 10000 * at c r)
      go (inl e) =
          let there : (c : Channel) × (at c (each (begins s Swell) r) ≡ true) = any_at (each (begins s Swell) r) e in
          let above : s.swell * s.declared < 10000 * at there.0 r = ltb-true _ _ (sym (at_each there.0 (begins s Swell) r) ∙ there.1) in
          (there.0, omega (arith, low, above))
      go (inr e) =
          let there : (c : Channel) × (at c (each (ends s Swell) r) ≡ false) = not-all-at (each (ends s Swell) r) e in
          (there.0, leb-false _ _ (sym (at_each there.0 (ends s Swell) r) ∙ there.1))

  interruption-stands : (r : Three ℕ) (older : List (Three ℕ)) → 0 < joint_since s Interruption (r ∷ older)
      → (c : Channel) → 10000 * at c r < (s.interruption + s.hysteresis) * s.declared
  interruption-stands r older h c = go (stands_by Interruption r older h)
    where
      high : s.interruption * s.declared ≤ (s.interruption + s.hysteresis) * s.declared
      high = mul-le-mul {n₁ = s.interruption} {n₂ = s.interruption + s.hysteresis} (omega arith) (le_refl s.declared)

      go : (joint_begins s Interruption r ≡ true) ⊎ (joint_ends s Interruption r ≡ false) → 10000 * at c r < (s.interruption + s.hysteresis) * s.declared
      go (inl e) =
          let below : 10000 * at c r < s.interruption * s.declared
          = ltb-true _ _ (sym (at_each c (begins s Interruption) r) ∙ all-at (each (begins s Interruption) r) e c) in
          omega (arith, high, below)
      go (inr e) = leb-false _ _ (sym (at_each c (ends s Interruption) r) ∙ not-any-at (each (ends s Interruption) r) e c)

  -- so not both stand, for W − G is not below I + G
  pub swell-or-interruption : ValidSettings s → (hist : List (Three ℕ)) → 0 < joint_since s Swell hist → 0 < joint_since s Interruption hist → ⊥
  swell-or-interruption valid [] swell outage = omega arith
  swell-or-interruption valid (r ∷ older) swell outage =
      let there : (c : Channel) × ((s.swell - s.hysteresis) * s.declared < 10000 * at c r) = swell-stands r older swell in
      let below : 10000 * at there.0 r < (s.interruption + s.hysteresis) * s.declared = interruption-stands r older outage there.0 in
      let order : s.interruption + s.hysteresis ≤ s.swell - s.hysteresis = omega (arith, valid.order-valid.0, valid.order-valid.1) in
      omega (arith, there.1, below, mul-le-mul order (le_refl s.declared))

  -- one record of a kind is due, and of a threshold's only where its event stood before
  one-or-none : (b : Bool) (e : Event) → length (if b then e ∷ [] else []) ≤ 1
  one-or-none true e = omega arith
  one-or-none false e = omega arith

  due-if-stood : (kind : Kind) (r : Three ℕ) (older : List (Three ℕ)) → length (joint_threshold_due s kind (r ∷ older)) ≤ flag (0 <ᵇ joint_since s kind older)
  due-if-stood kind r older = go (0 <ᵇ joint_since s kind older) (joint_since s kind (r ∷ older) ≡ᵇ 0) _
    where
      go : (b c : Bool) (e : Event) → length (if b && c then e ∷ [] else []) ≤ flag b
      go true c e = one-or-none c e
      go false c e = omega arith

  change-due-le : (hist : List (Three ℕ)) → length (joint_change_due s hist) ≤ 1
  change-due-le [] = omega arith
  change-due-le (r ∷ older) = go (signals s older).joint (signals s (r ∷ older)).joint
    where
      event-le : (k : ℕ) → length (joint_change_event s k (r ∷ older)) ≤ 1
      event-le k = drops (joint_stood_before s k (r ∷ older) || 0 <ᵇ joint_first_stand s k (drop (window_length_of s) (r ∷ older))) _
        where
          drops : (b : Bool) (e : Event) → length (if b then [] else e ∷ []) ≤ 1
          drops true e = omega arith
          drops false e = omega arith

      go : (p q : Signal) → length (joint_change_over s (r ∷ older) p q) ≤ 1
      go filling q = omega arith
      go unsettled q = omega arith
      go steady q = omega arith
      go (changing k) filling = omega arith
      go (changing k) unsettled = omega arith
      go (changing k) steady = event-le k
      go (changing k) (changing j) = omega arith

  -- at most three are due at one value
  pub joint_due-le : ValidSettings s → (hist : List (Three ℕ)) → length (joint_due s hist) ≤ 3
  joint_due-le valid [] = omega arith
  joint_due-le valid (r ∷ older) =
      let dips = joint_threshold_due s Dip (r ∷ older) in
      let swells = joint_threshold_due s Swell (r ∷ older) in
      let outages = joint_threshold_due s Interruption (r ∷ older) in
      let changes = joint_change_due s (r ∷ older) in
      omega (
        arith,
        length-append dips (swells ++ (outages ++ changes)),
        length-append swells (outages ++ changes),
        length-append outages changes,
        due-if-stood Dip r older,
        flag-most (0 <ᵇ joint_since s Dip older),
        due-if-stood Swell r older,
        due-if-stood Interruption r older,
        not-both (0 <ᵇ joint_since s Swell older) (0 <ᵇ joint_since s Interruption older) refl refl,
        change-due-le (r ∷ older),
      )
    where
      not-both : (b c : Bool) → (0 <ᵇ joint_since s Swell older) ≡ b → (0 <ᵇ joint_since s Interruption older) ≡ c → flag b + flag c ≤ 1
      not-both true true e f = absurd (swell-or-interruption valid older (ltb-true _ _ e) (ltb-true _ _ f))
      not-both true false e f = omega arith
      not-both false c e f = omega (arith, flag-most c)

  pub joint_records_at-le : ValidSettings s → (rec : List (Three ℤ)) (i : ℕ) → length (joint_records_at s rec i) ≤ 3
  joint_records_at-le valid rec i =
      omega (arith, length-map (joint_due s (joint_history s rec i)) (record_of (joint_marks s rec i)), joint_due-le valid (joint_history s rec i))
