-- The walk over a block: what is fed so far, and the cut of what is left. A turn takes one half-cycle more; the walk ends with one that is not taken, or with
-- the rest.
use mathlib.Core.Path.{◌≡◌, refl, sym, ◌∙◌, ap, subst}
use mathlib.Core.Bool.{true, false}
use mathlib.Core.List.{List, [], ◌++◌}
use Prim.Native.Nat.{ℕ, zero, suc, ◌+◌, ◌-◌, ◌*◌, ◌^◌, ◌≤◌, ◌<◌}
use native.Mathlib.Omega.{arith}
use lib.ListN.{length, take, drop, length-drop, take-append-drop}
use lib.IntN.{ℤ}
use borrow.Rule.Slice.PartMut.{put_mid}
use Rattle.std.specs.Prelude.{Result, Ok, Err}
use Rattle.settings.specs.declared.Settings.{Settings}
use Rattle.reading.specs.declared.Stop.{Stop}
use Rattle.reading.specs.declared.Stop.TheVariants.{Room, End}
use Rattle.reading.specs.Told.{Told, stop_number}
use Rattle.reading.specs.Engineer.{room}
use Rattle.reading.specs.Layout.{record_length}
use Rattle.rms.specs.declared.Part.{Part}
use Rattle.rms.specs.declared.Gatherer.{Gatherer}
use Rattle.rms.specs.declared.Share.{Share}
use Rattle.rms.specs.Gather.{part_of, with_part, cut, PartFits}
use Rattle.rms.specs.GatherLaws.{part_of-fits}
use Rattle.rms.specs.CutLaws.{Within, cut-within}
use Rattle.window.specs.declared.Sums.{Sums}
use Rattle.detection.specs.declared.Detector.{Detector}
use Rattle.detection.specs.Detection.{sums_of}
use Rattle.greedy.specs.Greedy.{fed_by}
use Rattle.greedy.proofs.CutterLaws.{taken-if, feed-taken, feed-stops, feed-rest}
use Rattle.greedy.proofs.ProgressLaws.{Progress, progress-none, progress-more, progress-last, part-long, lent-behind, back-behind}
use Rattle.state.specs.declared.State.{State}
use Rattle.state.specs.State.{state_with, ValidState}
use Rattle.state.specs.Step.{half_due, half_joined, part_joined, passes_end, why_not, machine}
use Rattle.state.proofs.StepLaws.{cuts}
use Rattle.state.proofs.StepValid.{half_joined-valid, part_joined-valid}
use Rattle.state.specs.Calls.{fed_with}
use Rattle.feed.specs.declared.Half.{Half}
use Rattle.feed.specs.Feed.{HalfOutcome, half_by, half_outcome, half_of, fed_to, walked_with}

-- a part of a block, as the code takes it
part-of : (at n k : ℕ) (block : List ℤ) → k ≡ n → part_of (take k (drop at block)) ≡ part_of (take n (drop at block))
part-of at n k block e = ap (λ (j : ℕ). part_of (take j (drop at block))) e

-- what a taken half-cycle gives, and one that is not
half-taken : (y : ℕ) (o : HalfOutcome) (st : State) (p : Part) (lent : List ℕ) → o ≡ half_by y st p lent → o.why ≡ 0 → (y ≡ 0) × (o ≡ half_by 0 st p lent)
half-taken zero o st p lent e none = (refl, e)
half-taken (suc y) o st p lent e none = absurd (omega (arith, ap (λ (k : HalfOutcome). k.why) e))

half-refused : (y : ℕ) (o : HalfOutcome) (st : State) (p : Part) (lent : List ℕ) → o ≡ half_by y st p lent → 0 < o.why → (o.why ≡ y) × (o.after ≡ st) × (o.bytes ≡ lent)
half-refused zero o st p lent e some = absurd (omega (arith, ap (λ (k : HalfOutcome). k.why) e))
half-refused (suc y) o st p lent e some = (ap (λ (k : HalfOutcome). k.why) e, ap (λ (k : HalfOutcome). k.after) e, ap (λ (k : HalfOutcome). k.bytes) e)

stop-some : (stop : Stop) → 0 < stop_number stop
stop-some Room = omega arith
stop-some End = omega arith

-- what `end_walk` gives
abbrev pub WalkEnds : State → Gatherer → Detector → List ℤ → State → Type 0
WalkEnds kept g d samples end = (end ≡ walked_with kept g d (part_of samples)) × ((part_of samples).squares ≤ length samples * 2 ^ 30)

-- what `walk` gives
abbrev pub WalkIs : State → List ℤ → List ℕ → State → Told → List ℕ → Type 0
WalkIs st₀ block lent end told out = (fed_to end told out ≡ fed_with st₀ block lent) × ValidState end

-- the invariant of the walk: the state is kept in the gatherer and the detector that the walk goes on with, and in the other parts of the state that is lent
module _ (s : Settings) (st₀ : State) (block : List ℤ) (lent : List ℕ) where
  pub record Walking (kept : State) (out : List ℕ) (g : Gatherer) (d : Detector) (sums : Sums) (at written : ℕ) (share : Share) : Type 0 where
    pub so_far : Progress machine ValidState st₀ block lent (state_with s g d kept.window kept.marks) at written out
    pub settings-are : kept.settings ≡ s
    pub sums-are : sums ≡ sums_of kept.window kept.marks
    pub within : Within s.samples g (drop at block) share
    pub share-is : share ≡ cut s.samples g (drop at block)
    pub long : length out ≡ length lent
    pub fits : record_length * written ≤ length lent
    pub share_in : at + share.count ≤ length block
    pub samples-most : s.samples ≤ 256
    pub sum-le : g.sum ≤ g.count * 2 ^ 30

  walking : (kept : State) (out : List ℕ) (g : Gatherer) (d : Detector) (sums : Sums) (at written : ℕ) (share : Share) →
      Progress machine ValidState st₀ block lent (state_with s g d kept.window kept.marks) at written out → kept.settings ≡ s →
      sums ≡ sums_of kept.window kept.marks → share ≡ cut s.samples g (drop at block) → length out ≡ length lent →
      Walking kept out g d sums at written share
  walking kept out g d sums at written share so_far settings-are sums-are share-is long =
      let within : Within s.samples g (drop at block) share = rw share-is (cut-within s.samples (drop at block) g so_far.valid.gatherer-valid.0) in
      record {
        so_far = so_far;
        settings-are = settings-are;
        sums-are = sums-are;
        within = within;
        share-is = share-is;
        long = long;
        fits = omega (arith, so_far.fits);
        share_in = omega (arith, within.inside, so_far.at_in, length-drop at block);
        samples-most = so_far.valid.settings-valid.samples-valid.1;
        sum-le = so_far.valid.gatherer-valid.1.0;
      }

-- it starts
pub walk-starts : (st₀ : State) (block : List ℤ) (lent : List ℕ) → ValidState st₀ → (sums : Sums) (share : Share) → sums ≡ sums_of st₀.window st₀.marks →
    share ≡ cut st₀.settings.samples st₀.gatherer block → Walking st₀.settings st₀ block lent st₀ lent st₀.gatherer st₀.detector sums 0 0 share
walk-starts st₀ block lent ok sums share sums-are share-is =
    walking st₀.settings st₀ block lent st₀ lent st₀.gatherer st₀.detector sums 0 0 share (progress-none machine st₀ block lent ok) refl sums-are share-is refl

-- it turns and ends
module _ {s : Settings} {st₀ : State} {block : List ℤ} {lent : List ℕ} {kept : State} {out : List ℕ} {g : Gatherer} {d : Detector}
    {sums : Sums} {at written : ℕ} {share : Share} (inv : Walking s st₀ block lent kept out g d sums at written share) where
  abbrev w : List ℕ
  w = kept.window

  abbrev ms : List ℕ
  ms = kept.marks

  abbrev st : State
  st = state_with s g d w ms

  abbrev left : ℕ
  left = room lent - written

  abbrev behind : ℕ
  behind = record_length * written

  abbrev rest : List ℤ
  rest = drop at block

  -- the state that is lent, with another window
  abbrev shifted : List ℕ → List ℕ → State
  shifted w₁ ms₁ = state_with kept.settings kept.gatherer kept.detector w₁ ms₁

  -- the end of the walk, with a part that leaves the half-cycle in progress
  walk-last : (end : State) (p : Part) (taken why : ℕ) (out₁ : List ℕ) → PartFits s.samples g p → g.count + p.count < s.samples →
      end ≡ walked_with kept g d p → (k : ℕ) → taken ≡ at + k →
      fed_by machine st rest left ≡ record { after = part_joined st p; taken = k; records = []; why = why } → out₁ ≡ take behind out ++ drop behind out →
      WalkIs st₀ block lent end (record { taken = taken; written = written; why = why }) out₁
  unfolding fed_with
  walk-last end p taken why out₁ fits below ends k taken_is fed bytes-are =
      let none : written ≡ written + 0 = omega arith in
      let end_is : end ≡ part_joined st p = ends ∙ (λ i. state_with (inv.settings-are i) (with_part g p) d w ms) in (
        (λ i. fed_to (end_is i) (record { taken = taken_is i; written = none i; why = why }) out₁)
            ∙ progress-last inv.so_far (record { after = part_joined st p; taken = k; records = []; why = why }) out₁ fed bytes-are,
        subst ValidState (sym end_is) (part_joined-valid st p inv.so_far.valid fits below),
      )

  -- a half-cycle ends
  module _ (completes : share.completes ≡ true) where
    abbrev n : ℕ
    n = share.count

    abbrev p : Part
    p = part_of (take n rest)

    pub share-some : 0 < n
    share-some = inv.within.some completes

    module _ {q : Part} (q-of : (q ≡ part_of (take (at + n - at) rest)) × (q.squares ≤ q.count * 2 ^ 30)) where
      q-is : q ≡ p
      q-is = q-of.0 ∙ part-of at n (at + n - at) block (omega arith)

      p-fits : PartFits s.samples g p
      p-fits =
          let bound : p.squares ≤ p.count * 2 ^ 30 = omega (arith, q-of.1, ap (λ (k : Part). k.squares) q-is, ap (λ (k : Part). k.count) q-is) in
          part_of-fits s.samples g (take n rest) bound (omega (arith, part-long at n block inv.share_in, inv.within.fits))

      -- what `complete` gave, on the buffer behind the records written before
      abbrev Gives : Result Half Stop → List ℕ → List ℕ → List ℕ → Type 0
      Gives ended w₁ ms₁ part = half_of s g d sums ended w₁ ms₁ part ≡ half_outcome st q (take (length out - behind) (drop behind out))

      abbrev back : List ℕ → List ℕ
      back part = put_mid behind (length out - behind) out part

      back_is : (part : List ℕ) → back part ≡ take behind out ++ part
      back_is part = back-behind behind out part (omega (arith, inv.fits, inv.long))

      room-is : room (drop behind out) ≡ left
      room-is = omega (arith, length-drop behind out, inv.so_far.fits, inv.long)

      given : (ended : Result Half Stop) (w₁ ms₁ part : List ℕ) → Gives ended w₁ ms₁ part → half_of s g d sums ended w₁ ms₁ part ≡ half_by (why_not st p left) st p (drop behind out)
      unfolding half_outcome
      given ended w₁ ms₁ part is = is ∙ (λ i. half_outcome st (q-is i) (lent-behind behind out i)) ∙ ap (λ (k : ℕ). half_by (why_not st p k) st p (drop behind out)) room-is

      -- it is taken
      module _ (h : Half) {w₁ ms₁ part : List ℕ} (is : Gives (Ok h) w₁ ms₁ part) where
        took : (why_not st p left ≡ 0) × (half_of s g d sums (Ok h) w₁ ms₁ part ≡ half_by 0 st p (drop behind out))
        took = half-taken (why_not st p left) (half_of s g d sums (Ok h) w₁ ms₁ part) st p (drop behind out) (given (Ok h) w₁ ms₁ part is) refl

        after_is : half_joined st p ≡ state_with s h.gatherer h.detector w₁ ms₁
        after_is = sym (ap (λ (o : HalfOutcome). o.after) took.1)

        written_is : length (half_due st p) ≡ h.written
        written_is = sym (ap (λ (o : HalfOutcome). o.written) took.1)

        next : Progress machine ValidState st₀ block lent (state_with s h.gatherer h.detector w₁ ms₁) (at + n) (written + h.written) (back part)
        next =
            let t = taken-if (passes_end st p) (half_due st p) left took.0 in
            subst (λ (k : ℕ). Progress machine ValidState st₀ block lent (state_with s h.gatherer h.detector w₁ ms₁) (at + n) (written + k) (back part)) written_is
            (subst (λ (z : State). Progress machine ValidState st₀ block lent z (at + n) (written + length (half_due st p)) (back part)) after_is
            (progress-more inv.so_far n (half_due st p) (half_joined st p) (back part) inv.share_in t.1
            (half_joined-valid st p inv.so_far.valid p-fits t.0)
            (feed-taken cuts st rest left inv.so_far.valid.gatherer-valid.0 share inv.share-is completes took.0)
            (back_is part ∙ ap (λ (l : List ℕ). take behind out ++ l) (ap (λ (o : HalfOutcome). o.bytes) took.1))))

        pub taken-fits : written + h.written ≤ room lent
        taken-fits = next.fits

        pub taken-count : h.gatherer.count < s.samples
        taken-count = next.valid.gatherer-valid.0

        pub walk-turns : (share₁ : Share) → share₁ ≡ cut s.samples h.gatherer (take (length block - (at + n)) (drop (at + n) block)) →
            length (back part) ≡ length out →
            Walking s st₀ block lent (shifted w₁ ms₁) (back part) h.gatherer h.detector h.sums (at + n) (written + h.written) share₁
        walk-turns share₁ share-is long =
            walking s st₀ block lent (shifted w₁ ms₁) (back part) h.gatherer h.detector h.sums (at + n) (written + h.written) share₁ next inv.settings-are
            (ap (λ (o : HalfOutcome). o.sums) took.1 ∙ ap (λ (z : State). sums_of z.window z.marks) after_is)
            (share-is ∙ ap (cut s.samples h.gatherer) (lent-behind (at + n) block)) (long ∙ inv.long)

      -- it is not
      pub walk-stops : (stop : Stop) {w₁ ms₁ part : List ℕ} → Gives (Err stop) w₁ ms₁ part → (end : State) →
          WalkEnds (shifted w₁ ms₁) g d (take (at + n - 1 - at) rest) end →
          WalkIs st₀ block lent end (record { taken = at + n - 1; written = written; why = stop_number stop }) (back part)
      walk-stops stop {w₁} {ms₁} {part} is end ended =
          let some : 0 < stop_number stop = stop-some stop in
          let stopped = half-refused (why_not st p left) (half_of s g d sums (Err stop) w₁ ms₁ part) st p (drop behind out) (given (Err stop) w₁ ms₁ part is) some in
          let window-is : w₁ ≡ w = ap (λ (z : State). z.window) stopped.1 in
          let marks_are : ms₁ ≡ ms = ap (λ (z : State). z.marks) stopped.1 in
          let bytes-are : part ≡ drop behind out = stopped.2 in
          let less : Part = part_of (take (n - 1) rest) in
          let less-is : part_of (take (at + n - 1 - at) rest) ≡ less = part-of at (n - 1) (at + n - 1 - at) block (omega arith) in
          let some_in : 0 < n = share-some in
          let long : length (take (n - 1) rest) ≡ n - 1 = part-long at (n - 1) block (omega (arith, inv.share_in)) in
          let below : g.count + less.count < s.samples = omega (arith, inv.within.fits) in
          let bound : less.squares ≤ less.count * 2 ^ 30 = omega (arith, ended.1, ap (λ (k : Part). k.squares) less-is, ap (λ (k : Part). k.count) less-is) in
          walk-last end less (at + n - 1) (stop_number stop) (back part) (part_of-fits s.samples g (take (n - 1) rest) bound (omega arith)) below
          (ended.0 ∙ (λ i. state_with kept.settings (with_part g (less-is i)) d (window-is i) (marks_are i)))
          (n - 1) (omega arith) (feed-stops cuts st rest left inv.so_far.valid.gatherer-valid.0 share inv.share-is completes (stop_number stop) stopped.0 some)
          (back_is part ∙ ap (λ (l : List ℕ). take behind out ++ l) bytes-are)

  -- none ends
  pub walk_ends : share.completes ≡ false → (end : State) → WalkEnds kept g d (take (length block - at) rest) end →
      WalkIs st₀ block lent end (record { taken = length block; written = written; why = 0 }) out
  walk_ends leaves end ended =
      let all-is : part_of (take (length block - at) rest) ≡ part_of rest = ap part_of (lent-behind at block) in
      let below : g.count + length rest < s.samples = inv.within.below leaves in
      let bound : (part_of rest).squares ≤ length rest * 2 ^ 30 = omega (arith, ended.1, ap (λ (k : Part). k.squares) all-is, ap (λ (k : Part). k.count) all-is) in
      walk-last end (part_of rest) (length block) 0 out (part_of-fits s.samples g rest bound (omega arith)) below
      (ended.0 ∙ ap (walked_with kept g d) all-is)
      (length rest) (omega (arith, length-drop at block, inv.so_far.at_in))
      (feed-rest cuts st rest left inv.so_far.valid.gatherer-valid.0 share inv.share-is leaves) (sym (take-append-drop behind out))
