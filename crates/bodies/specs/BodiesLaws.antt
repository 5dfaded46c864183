-- Each body there and back, both ways, over its numbers: an allowed state's numbers fit their row, are allowed, and are read back as that state; allowed numbers are
-- those of the state that is read from them, which is allowed. And the table's test passes for equal bytes, and for no others.
use Rattle.std.specs.Prelude.{◌≡◌, refl, true, List, [], ◌∷◌, ◌++◌, ℕ, zero, suc, ◌+◌, ◌≤◌, ◌<◌, ◌^◌, length, get_or, replicate}
use Rattle.std.proofs.Common.{sym, ap₂, subst, arith, eqb-true, eq-eqb}
use Rattle.octets.specs.Bytes.{numbers_in, fours, ones}
use Rattle.octets.specs.BytesLaws.{bytes-by}
use Rattle.octets.specs.RowLaws.{Fit, fits-fours, fits_ones, fit_append}
use Rattle.numbers.specs.Notation.{◌≡ᵇ◌, flag}
use Rattle.numbers.specs.NotationLaws.{and-true, and_left, and_right, flag-most, flag-back, back-flag}
use Rattle.numbers.specs.Rules.{Holds}
use Rattle.numbers.specs.Rules.Rule.{◌≡ʳ◌, all_zero, ◌and◌}
use Rattle.reading.specs.Layout.{places, gatherer_widths, values_widths_with, events_widths_with, events_widths}
use Rattle.reading.specs.Restore.{same_bytes, value_most, phase_rule, standing_rule, events_rule}
use Rattle.rms.specs.declared.Gatherer.{Gatherer}
use Rattle.rms.specs.Gather.{gatherer_row, ValidGatherer}
use Rattle.threshold.specs.declared.Standing.{Standing}
use Rattle.window.specs.Window.{ValidWindow}
use Rattle.rvc.specs.declared.Change.{Change}
use Rattle.rvc.specs.declared.Phase.{Phase}
use Rattle.rvc.specs.declared.Phase.TheVariants.{Filling, Unsettled, Steady, Changing}
use Rattle.rvc.specs.Phase.{change_row, phase_row, phase_mark, ValidPhase}
use Rattle.rvc.specs.PhaseRuleLaws.{Allowed, full, allowed-valid, valid-allowed}
use Rattle.detection.specs.declared.Detector.{Detector}
use Rattle.detection.specs.Detection.{ValidDetector}
use Rattle.bodies.specs.Bodies.{standing_row, detector_row, gatherer_from, phase_of_number, standing_from, detector_from}

-- the table
pub same-equal : (xs ys : List ℕ) → same_bytes xs ys ≡ true → xs ≡ ys
same-equal [] [] e = refl
same-equal [] (y ∷ ys) e = let z : ◌≡◌ {A = ℕ} 0 1 = cc in absurd (omega arith)
same-equal (x ∷ xs) [] e = let z : ◌≡◌ {A = ℕ} 0 1 = cc in absurd (omega arith)
same-equal (x ∷ xs) (y ∷ ys) e = ap₂ ◌∷◌ (eqb-true x y (and_left (x ≡ᵇ y) (same_bytes xs ys) e)) (same-equal xs ys (and_right (x ≡ᵇ y) (same_bytes xs ys) e))

pub same-itself : (xs : List ℕ) → same_bytes xs xs ≡ true
same-itself [] = refl
same-itself (x ∷ xs) = and-true (eq-eqb x x refl) (same-itself xs)

-- body 2
pub gatherer-fits : (m : ℕ) (g : Gatherer) → m ≤ 256 → ValidGatherer m g → Fit gatherer_widths (gatherer_row g)
gatherer-fits m g most valid = (omega arith, (omega arith, (omega arith, (omega arith, (omega arith, (omega arith, tt))))))

pub gatherer-back : (g : Gatherer) → gatherer_from (gatherer_row g) ≡ g
gatherer-back g = λ i. record {
  count = g.count;
  sum = g.sum;
  last = g.last;
  whole = flag-back g.whole i;
  clipped = flag-back g.clipped i;
  last_clipped = flag-back g.last_clipped i;
}

pub gatherer-again : (count sum last whole mark last-mark : ℕ) → whole ≤ 1 → mark ≤ 1 → last-mark ≤ 1 →
    let ns = count ∷ sum ∷ last ∷ whole ∷ mark ∷ last-mark ∷ [] in gatherer_row (gatherer_from ns) ≡ ns
gatherer-again count sum last whole mark last-mark h₀ h₁ h₂ =
    λ i. count ∷ sum ∷ last ∷ back-flag whole h₀ i ∷ back-flag mark h₁ i ∷ back-flag last-mark h₂ i ∷ []

-- body 3
pub values-fit : (c n v : ℕ) (w marks : List ℕ) → v < 256 ^ c → ValidWindow value_most n v w → ValidWindow 1 n v marks → Fit (values_widths_with c) (v ∷ (w ++ marks))
values-fit c n v w marks most valid marked =
    let values : Fit (fours w) w = fits-fours w (λ i. let h = valid.allowed.0 i in omega arith) in
    let bytes : Fit (ones marks) marks = fits_ones marks (bytes-by marks (λ i. let h = marked.allowed.0 i in omega arith)) in
    (omega arith, fit_append (replicate places 4) (replicate places 1) w marks (rw valid.size at values) (rw marked.size at bytes))

-- body 4
stood-le : {k v : ℕ} (x : ℕ) → (0 < x → (k ≤ x) × (x ≤ v)) → x ≤ v
stood-le zero h = omega arith
stood-le (suc x) h = (h (omega arith)).1

abbrev detector_with : ℕ → Standing → Standing → Standing → Phase → Detector
detector_with v dip swell interruption q = record { count = v; dip = dip; swell = swell; interruption = interruption; phase = q }

-- an event and a change, whose mark is read back from its number
abbrev reread : Standing → Standing
reread p = standing_from 0 2 (p.start ∷ p.magnitude ∷ flag p.clipped ∷ [])

standing-back : (p : Standing) → reread p ≡ p
standing-back p = λ i. record { start = p.start; magnitude = p.magnitude; clipped = flag-back p.clipped i }

change-back : (c : Change) → record { start = c.start; sum = c.sum; difference = c.difference; stand = c.stand; clipped = flag c.clipped ≡ᵇ 1 } ≡ c
change-back c = λ i. record { start = c.start; sum = c.sum; difference = c.difference; stand = c.stand; clipped = flag-back c.clipped i }

module _ (d : Detector) where
  abbrev with_phase : Phase → Detector
  with_phase q = detector_with d.count d.dip d.swell d.interruption q

  pub length-detector_row : length (detector_row d) ≡ length events_widths
  length-detector_row = go d.phase
    where
      go : (q : Phase) → length (detector_row (with_phase q)) ≡ length events_widths
      go Filling = refl
      go Unsettled = refl
      go Steady = refl
      go (Changing c) = refl

  pub detector-back : detector_from d.count (detector_row d) ≡ d
  detector-back = go d.phase
    where
      -- the events are back, and a phase that is
      with-events : {p q : Phase} → p ≡ q → detector_with d.count (reread d.dip) (reread d.swell) (reread d.interruption) p ≡ with_phase q
      with-events e = λ i. detector_with d.count (standing-back d.dip i) (standing-back d.swell i) (standing-back d.interruption i) (e i)

      go : (q : Phase) → detector_from d.count (detector_row (with_phase q)) ≡ with_phase q
      go Filling = with-events refl
      go Unsettled = with-events refl
      go Steady = with-events refl
      go (Changing c) = with-events (λ i. Changing (change-back c i))

  module _ (n : ℕ) (valid : ValidDetector n d) where
    -- in any edition whose width holds V
    pub detector-fits : (c : ℕ) → n ≤ 120 → d.count < 256 ^ c → Fit (events_widths_with c) (detector_row d)
    detector-fits c n-le most = go d.phase (valid-allowed n d.count d.phase valid.phase-valid)
      where
        -- the events, their marks and that of a change
        events : (mark : ℕ) → mark ≤ 1 → Fit (c ∷ 4 ∷ c ∷ 4 ∷ c ∷ 4 ∷ replicate 4 4) (standing_row d.dip ++ (standing_row d.swell ++ (standing_row d.interruption
            ++ (flag d.dip.clipped ∷ flag d.swell.clipped ∷ flag d.interruption.clipped ∷ mark ∷ []))))
        events mark mark-le =
            let dip = valid.dip-valid in
            let swell = valid.swell-valid in
            let interruption = valid.interruption-valid in
            (omega arith, (omega arith, (omega arith, (omega arith, (omega arith, (omega arith, (omega arith, (omega arith, (omega arith, (omega arith, tt))))))))))

        go : (q : Phase) → Allowed n d.count q → Fit (events_widths_with c) (detector_row (with_phase q))
        go Filling h = (omega arith, (omega arith, (omega arith, (omega arith, (omega arith, events 0 (omega arith))))))
        go Unsettled h = (omega arith, (omega arith, (omega arith, (omega arith, (omega arith, events 0 (omega arith))))))
        go Steady h = (omega arith, (omega arith, (omega arith, (omega arith, (omega arith, events 0 (omega arith))))))
        go (Changing x) h = (omega arith, (omega arith, (omega arith, (omega arith, (stand-lt, events (flag x.clipped) (flag-most x.clipped))))))
          where
            stand-lt : x.stand < 256 ^ c
            stand-lt = omega (arith, stood-le x.stand h.1.1.1.1.1.0)

    pub detector-allowed : Holds (events_rule n d.count (detector_row d))
    detector-allowed = go d.phase valid.phase-valid
      where
        go : (q : Phase) → ValidPhase n d.count q → Holds (events_rule n d.count (detector_row (with_phase q)))
        go Filling h = (h, (valid.dip-valid, (valid.swell-valid, valid.interruption-valid)))
        go Unsettled h = (h, (valid.dip-valid, (valid.swell-valid, valid.interruption-valid)))
        go Steady h = (h, (valid.dip-valid, (valid.swell-valid, valid.interruption-valid)))
        go (Changing c) h = (h, (valid.dip-valid, (valid.swell-valid, valid.interruption-valid)))

-- numbers that are allowed
pub record Again (n v : ℕ) (ns : List ℕ) : Type 0 where
  pub written : detector_row (detector_from v ns) ≡ ns
  pub valid : ValidDetector n (detector_from v ns)

-- the phase's number, a change's four, and its mark
module _ (n v k sum difference stand mark : ℕ) where
  abbrev change : Change
  change = record { start = k; sum = sum; difference = difference; stand = stand; clipped = mark ≡ᵇ 1 }

  record PhaseAgain (p : ℕ) : Type 0 where
    row_is : phase_row (phase_of_number p change) ≡ p ∷ change_row change
    mark_is : phase_mark (phase_of_number p change) ≡ mark
    valid : ValidPhase n v (phase_of_number p change)

  -- zeros are the numbers of no change
  no_change : (p : ℕ) → Holds (all_zero (change_row change) and mark ≡ʳ 0) → (p ∷ 0 ∷ 0 ∷ 0 ∷ 0 ∷ [] ≡ p ∷ change_row change) × (0 ≡ mark)
  no_change p z = (λ i. p ∷ sym (z.0 0) i ∷ sym (z.0 1) i ∷ sym (z.0 2) i ∷ sym (z.0 3) i ∷ [], sym z.1)

  phase-again : (p : ℕ) → Holds (phase_rule n v (p ∷ change_row change) mark) → PhaseAgain p
  phase-again zero h =
      let none = no_change 0 (h.1.1.1 (omega arith)) in
      record { row_is = none.0; mark_is = none.1; valid = allowed-valid n v Filling (h.1.0.0 refl) }
  phase-again (suc zero) h =
      let none = no_change 1 (h.1.1.1 (omega arith)) in
      record { row_is = none.0; mark_is = none.1; valid = allowed-valid n v Unsettled (full n v h.1.0.1) }
  phase-again (suc (suc zero)) h =
      let none = no_change 2 (h.1.1.1 (omega arith)) in
      record { row_is = none.0; mark_is = none.1; valid = allowed-valid n v Steady (full n v h.1.0.1) }
  phase-again (suc (suc (suc zero))) h =
      let mark_is = back-flag mark (h.1.1.0 refl).1.1.1.1.1.1.0 in
      record { row_is = refl; mark_is = mark_is; valid = subst (λ (m : ℕ). Holds (phase_rule n v (3 ∷ change_row change) m)) (sym mark_is) h }
  phase-again (suc (suc (suc (suc p)))) h = absurd (omega (arith, h.0))

-- an event's mark, in numbers that are allowed
module _ (v start magnitude mark : ℕ) (h : Holds (standing_rule v start magnitude mark)) where
  standing-mark : flag (mark ≡ᵇ 1) ≡ mark
  standing-mark = back-flag mark h.1.1.1.0

  standing-again : Holds (standing_rule v start magnitude (flag (mark ≡ᵇ 1)))
  standing-again = subst (λ (m : ℕ). Holds (standing_rule v start magnitude m)) (sym standing-mark) h

-- the numbers of body 4
module _ (n v : ℕ) (body : List ℕ) where
  abbrev ns : List ℕ
  ns = numbers_in events_widths body

  pub detector-again : Holds (events_rule n v ns) → Again n v ns
  detector-again h =
      let phase = phase-again n v _ _ _ _ _ (get_or ns 0 0) h.0 in
      let dip = standing-mark v _ _ _ h.1.0 in
      let swell = standing-mark v _ _ _ h.1.1.0 in
      let interruption = standing-mark v _ _ _ h.1.1.1 in
      let events : ℕ → List ℕ = λ j. get_or ns j 0 ∷ get_or ns (j + 1) 0 ∷ [] in
      record {
        written = λ i. phase.row_is i ++ (events 5 ++ (events 7 ++ (events 9 ++ (dip i ∷ swell i ∷ interruption i ∷ phase.mark_is i ∷ []))));
        valid = record {
          dip-valid = standing-again v _ _ _ h.1.0;
          swell-valid = standing-again v _ _ _ h.1.1.0;
          interruption-valid = standing-again v _ _ _ h.1.1.1;
          phase-valid = phase.valid;
        };
      }
