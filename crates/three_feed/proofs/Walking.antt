-- The walk through a block of triples: its invariant, which starts, turns and ends.
use Rattle.std.proofs.Common.{◌≡◌, refl, sym, ◌∙◌, ap, subst, true, false, List, [], ◌++◌, ℕ, zero, suc, ◌+◌, ◌-◌, ◌*◌, ◌/◌, ◌%◌, ◌≤◌, ◌<◌, arith, length, take, drop, length-drop, take-append-drop, ℤ, Result, Ok, Err}
use borrow.Rule.Slice.PartMut.{put_mid, same_len_mid}
use Rattle.settings.specs.declared.Settings.{Settings}
use Rattle.settings.specs.declared.Scaled.{Scaled}
use Rattle.settings.specs.Settings.{scaled_of}
use Rattle.reading.specs.declared.Stop.{Stop}
use Rattle.reading.specs.declared.Stop.TheVariants.{Room, End}
use Rattle.reading.specs.Told.{Told, stop_number}
use Rattle.reading.specs.Engineer.{room}
use Rattle.reading.specs.Layout.{record_length}
use Rattle.rms.specs.declared.Share.{Share}
use Rattle.rms.specs.Gather.{cut, PartFits}
use Rattle.rms.specs.CutLaws.{Within, cut-within}
use Rattle.greedy.specs.Greedy.{fed_by}
use Rattle.greedy.proofs.CutterLaws.{taken-if, feed-taken, feed-stops, feed-rest}
use Rattle.greedy.proofs.ProgressLaws.{Progress, progress-none, progress-more, progress-last, part-long, lent-behind, back-behind}
use Rattle.three_reading.specs.declared.Three.{Three}
use Rattle.three_reading.specs.Three.{Channel, at, triples_of, channel}
use Rattle.three_reading.specs.Three.Channel.{on_a, on_b, on_c}
use Rattle.three_laws.specs.ChannelLaws.{length-channel}
use Rattle.three_laws.specs.TriplesLaws.{length-triples, triples-drop, triples-part}
use Rattle.joint.specs.declared.Joint.{Joint}
use Rattle.joint.specs.declared.JointSums.{JointSums}
use Rattle.joint.specs.Joint.{joint_sums_of}
use Rattle.rms.specs.declared.Gatherer.{Gatherer}
use Rattle.rms.specs.declared.Part.{Part}
use Rattle.three_state.specs.declared.ThreeState.{ThreeState}
use Rattle.three_state.specs.ThreeState.{three_with, ValidThree}
use Rattle.three_state.specs.ThreeStep.{parts_of, with_parts, with_halves, three_passes, three_half_due, three_half, three_part, three_why_not, three_machine}
use Rattle.three_state.proofs.ThreeStepLaws.{three_cuts}
use Rattle.three_state.specs.ThreeStepValid.{three_part-valid, three_half-valid}
use Rattle.three_state.specs.ThreeFed.{three_fed_with}
use Rattle.lanes.specs.Lanes.{SquaresFit, PartsAre}
use Rattle.three_half.specs.declared.Half.{Half}
use Rattle.three_half.specs.Halves.{HalfReady, HalfOutcome, half_by, half_outcome, half_of}
use Rattle.three_feed.specs.Feed.{fed_to, walked_with, RoomFor}
use Rattle.three_feed.proofs.EachPart.{count_at, parts-fit}

-- the triples of a part of a block, as the code takes it: up to triple e, and all behind triple a
triples-between : (a n e : ℕ) (block : List ℤ) → e ≡ a + n → triples_of (take (3 * e - 3 * a) (drop (3 * a) block)) ≡ take n (drop a (triples_of block))
triples-between a n e block is =
    let long : 3 * e - 3 * a ≡ 3 * n = omega arith in
    ap (λ (k : ℕ). triples_of (take k (drop (3 * a) block))) long ∙ triples-part a n block

triples-behind : (a : ℕ) (block : List ℤ) → triples_of (take (length block - 3 * a) (drop (3 * a) block)) ≡ drop a (triples_of block)
triples-behind a block = ap triples_of (lent-behind (3 * a) block) ∙ triples-drop a block

-- what a taken half-cycle gives, and one that is not
half-taken : (y : ℕ) (o : HalfOutcome) (st : ThreeState) (p : Three Part) (lent : List ℕ) → o ≡ half_by y st p lent → o.why ≡ 0 → (y ≡ 0) × (o ≡ half_by 0 st p lent)
half-taken zero o st p lent e none = (refl, e)
half-taken (suc y) o st p lent e none = absurd (omega (arith, ap (λ (k : HalfOutcome). k.why) e))

half-refused : (y : ℕ) (o : HalfOutcome) (st : ThreeState) (p : Three Part) (lent : List ℕ) → o ≡ half_by y st p lent → 0 < o.why →
    (o.why ≡ y) × (o.after ≡ st) × (o.bytes ≡ lent)
half-refused zero o st p lent e some = absurd (omega (arith, ap (λ (k : HalfOutcome). k.why) e))
half-refused (suc y) o st p lent e some = (ap (λ (k : HalfOutcome). k.why) e, ap (λ (k : HalfOutcome). k.after) e, ap (λ (k : HalfOutcome). k.bytes) e)

stop-some : (stop : Stop) → 0 < stop_number stop
stop-some Room = omega arith
stop-some End = omega arith

-- what `cut_of`, `end_walk` and `walk` give, and what a walk has of the lanes
abbrev CutIs : Settings → Three Gatherer → List (Three ℤ) → Share → Type 0
CutIs s g xs share = share ≡ cut s.samples g.a (channel on_a xs)

abbrev WalkEnds : ThreeState → Three Gatherer → Joint → List (Three ℤ) → ThreeState → Type 0
WalkEnds kept g j xs end = (end ≡ walked_with kept g j xs) × SquaresFit xs

abbrev WalkIs : ThreeState → List (Three ℤ) → List ℕ → ThreeState → Told → List ℕ → Type 0
WalkIs st₀ xs lent end told out = (fed_to end told out ≡ three_fed_with st₀ xs lent) × ValidThree end

abbrev LanesLong : Three (List ℤ) → Type 0
LanesLong lanes = (c : Channel) → length (at c lanes) ≡ 256

pub three-long : (lanes : Three (List ℤ)) → length lanes.a ≡ 256 → length lanes.b ≡ 256 → length lanes.c ≡ 256 → LanesLong lanes
three-long lanes p q r on_a = p
three-long lanes p q r on_b = q
three-long lanes p q r on_c = r

-- the invariant of the walk: the state is kept in the gatherers and the joint part that the walk goes on with, and in the other parts of the state that is lent
module _ (s : Settings) (st₀ : ThreeState) (block : List ℤ) (lent : List ℕ) where
  abbrev all : List (Three ℤ)
  all = triples_of block

  pub record Walking (kept : ThreeState) (out : List ℕ) (lanes : Three (List ℤ)) (g : Three Gatherer) (j : Joint) (sums : JointSums) (from written : ℕ)
      (share : Share) : Type 0 where
    pub so_far : Progress three_machine ValidThree st₀ all lent (three_with s g j kept.windows kept.marks) from written out
    pub settings-are : kept.settings ≡ s
    pub sums-are : sums ≡ joint_sums_of kept.windows kept.marks
    pub within : Within s.samples g.a (channel on_a (drop from all)) share
    pub cut-is : CutIs s g (drop from all) share
    pub lanes-long : LanesLong lanes
    pub long : length out ≡ length lent
    pub size : length block ≡ 3 * length all
    pub fits : record_length * written ≤ length lent
    pub share_in : from + share.count ≤ length all
    pub share-most : share.count ≤ 256
    pub samples-most : s.samples ≤ 256

  walking : (kept : ThreeState) (out : List ℕ) (lanes : Three (List ℤ)) (g : Three Gatherer) (j : Joint) (sums : JointSums) (from written : ℕ) (share : Share) →
      Progress three_machine ValidThree st₀ all lent (three_with s g j kept.windows kept.marks) from written out → kept.settings ≡ s →
      sums ≡ joint_sums_of kept.windows kept.marks → CutIs s g (drop from all) share → LanesLong lanes → length out ≡ length lent → length block % 3 ≡ 0 →
      Walking kept out lanes g j sums from written share
  walking kept out lanes g j sums from written share so_far settings-are sums-are cut-is lanes-long long whole =
      let rest = drop from all in
      let within : Within s.samples g.a (channel on_a rest) share =
      rw cut-is (cut-within s.samples (channel on_a rest) g.a (so_far.valid.gatherer-valid on_a).0) in
      let most : s.samples ≤ 256 = so_far.valid.settings-valid.samples-valid.1 in
      record {
        so_far = so_far;
        settings-are = settings-are;
        sums-are = sums-are;
        within = within;
        cut-is = cut-is;
        lanes-long = lanes-long;
        long = long;
        size = omega (arith, length-triples block);
        fits = omega (arith, so_far.fits);
        share_in = omega (arith, within.inside, length-channel on_a rest, so_far.at_in, length-drop from all);
        share-most = omega (arith, within.fits);
        samples-most = most;
      }

-- it starts
pub walk-starts : (st₀ : ThreeState) (block : List ℤ) (lent : List ℕ) → ValidThree st₀ → length block % 3 ≡ 0 → (sums : JointSums) (share : Share)
    (lanes : Three (List ℤ)) → sums ≡ joint_sums_of st₀.windows st₀.marks → CutIs st₀.settings st₀.gatherers (triples_of block) share → LanesLong lanes →
    Walking st₀.settings st₀ block lent st₀ lent lanes st₀.gatherers st₀.joint sums 0 0 share
walk-starts st₀ block lent ok whole sums share lanes sums-are cut-is lanes-long =
    walking st₀.settings st₀ block lent st₀ lent lanes st₀.gatherers st₀.joint sums 0 0 share
    (progress-none three_machine st₀ (triples_of block) lent ok) refl sums-are cut-is lanes-long refl whole

-- it turns and ends
module _ {s : Settings} {st₀ : ThreeState} {block : List ℤ} {lent : List ℕ} {kept : ThreeState} {out : List ℕ} {lanes : Three (List ℤ)} {g : Three Gatherer} {j : Joint}
    {sums : JointSums} {from written : ℕ} {share : Share} (inv : Walking s st₀ block lent kept out lanes g j sums from written share) where
  abbrev ws : Three (List ℕ)
  ws = kept.windows

  abbrev ms : List ℕ
  ms = kept.marks

  abbrev st : ThreeState
  st = three_with s g j ws ms

  abbrev xs : List (Three ℤ)
  xs = triples_of block

  abbrev left : ℕ
  left = room lent - written

  abbrev behind : ℕ
  behind = record_length * written

  abbrev rest : List (Three ℤ)
  rest = drop from xs

  -- what is lent stays as long as it was
  same-records : (part : List ℕ) → length part ≡ length (take (length out - behind) (drop behind out)) →
      length (put_mid behind (length out - behind) out part) ≡ length lent
  same-records part kept = same_len_mid behind (length out - behind) out part kept ∙ inv.long

  whole-triples : length block % 3 ≡ 0
  whole-triples = omega (arith, inv.size)

  -- every channel has as many samples of the half-cycle in progress as channel a
  same : (c : Channel) → (at c g).count ≡ g.a.count
  same = inv.so_far.valid.same_count

  -- n triples more, which fit the gatherers where they fit channel a's
  room_for : (n : ℕ) → g.a.count + n ≤ s.samples → RoomFor g n
  room_for n h c = (omega (arith, same c, inv.samples-most), (inv.so_far.valid.gatherer-valid c).1.0)

  fits_all : (ys : List (Three ℤ)) → SquaresFit ys → g.a.count + length ys ≤ s.samples → (c : Channel) →
      PartFits s.samples (at c g) (at c (parts_of ys))
  fits_all ys small h = parts-fit s.samples g ys small (λ c. omega (arith, same c))

  -- a part of the block: k triples, and all that are left behind triple e
  between-long : (k e : ℕ) → e ≡ from + k → e ≤ length xs → length (take (3 * e - 3 * from) (drop (3 * from) block)) ≡ 3 * k
  between-long k e is inside = part-long (3 * from) (3 * e - 3 * from) block (omega (arith, inv.size)) ∙ omega arith

  behind-long : (e : ℕ) → e ≤ length xs → length (take (length block - 3 * e) (drop (3 * e) block)) ≡ 3 * (length xs - e)
  behind-long e inside = part-long (3 * e) (length block - 3 * e) block (omega (arith, inv.size)) ∙ omega (arith, inv.size)

  -- the state that is lent, with other windows
  abbrev shifted : Three (List ℕ) → List ℕ → ThreeState
  shifted ws₁ ms₁ = three_with kept.settings kept.gatherers kept.joint ws₁ ms₁

  -- the end of the walk, with triples that leave the half-cycle in progress
  walk-last : (end : ThreeState) (ys zs : List (Three ℤ)) (taken why : ℕ) (ws₁ : Three (List ℕ)) (ms₁ out₁ : List ℕ) →
      WalkEnds (shifted ws₁ ms₁) g j zs end → zs ≡ ys → g.a.count + length ys < s.samples → ws₁ ≡ ws → ms₁ ≡ ms → (k : ℕ) → taken ≡ from + k →
      fed_by three_machine st rest left ≡ record { after = three_part st (parts_of ys); taken = k; records = []; why = why } →
      out₁ ≡ take behind out ++ drop behind out →
      WalkIs st₀ xs lent end (record { taken = taken; written = written; why = why }) out₁
  unfolding three_fed_with
  walk-last end ys zs taken why ws₁ ms₁ out₁ ended zs-are below windows-are marks_are k taken_is fed bytes-are =
      let none : written ≡ written + 0 = omega arith in
      let small : SquaresFit ys = subst SquaresFit zs-are ended.1 in
      let end_is : end ≡ three_part st (parts_of ys) =
      ended.0 ∙ (λ i. three_with (inv.settings-are i) (with_parts g (parts_of (zs-are i))) j (windows-are i) (marks_are i)) in
      let even : (c : Channel) → (at c (parts_of ys)).count ≡ (parts_of ys).a.count = λ c. count_at c ys ∙ sym (count_at on_a ys) in (
        (λ i. fed_to (end_is i) (record { taken = taken_is i; written = none i; why = why }) out₁)
            ∙ progress-last inv.so_far (record { after = three_part st (parts_of ys); taken = k; records = []; why = why }) out₁ fed bytes-are,
        subst ValidThree (sym end_is)
            (three_part-valid st (parts_of ys) inv.so_far.valid (fits_all ys small (omega arith)) even (omega (arith, count_at on_a ys))),
      )

  -- a half-cycle ends
  module _ (completes : share.completes ≡ true) where
    abbrev n : ℕ
    n = share.count

    abbrev half : List (Three ℤ)
    half = take n rest

    abbrev p : Three Part
    p = parts_of half

    pub share-some : 0 < n
    share-some = inv.within.some completes

    half-long : length half ≡ n
    half-long = part-long from n xs inv.share_in

    pub stop-ready : let own = take (3 * (from + n - 1) - 3 * from) (drop (3 * from) block) in (length own % 3 ≡ 0) × RoomFor g (length own / 3)
    stop-ready =
        let some : 0 < n = share-some in
        let long = between-long (n - 1) (from + n - 1) (omega arith) (omega (arith, inv.share_in)) in
        (omega arith, room_for _ (omega (arith, inv.within.fits)))

    module _ {q : Three Part} (are : PartsAre (triples_of (take (3 * (from + n) - 3 * from) (drop (3 * from) block))) q) where
      half_is : triples_of (take (3 * (from + n) - 3 * from) (drop (3 * from) block)) ≡ half
      half_is = triples-between from n (from + n) block refl

      q-is : q ≡ p
      q-is = are.0 ∙ ap parts_of half_is

      p-fits : (c : Channel) → PartFits s.samples (at c g) (at c p)
      p-fits = fits_all half (subst SquaresFit half_is are.1) (omega (arith, half-long, inv.within.fits))

      pub complete-ready : (t : Scaled) → t ≡ scaled_of s → HalfReady s t g j sums ws ms q
      complete-ready t scaled-is = record {
        valid = inv.so_far.valid;
        scaled-is = scaled-is;
        sums-are = inv.sums-are;
        part-fits = λ c. subst (λ (k : Three Part). PartFits s.samples (at c g) (at c k)) (sym q-is) (p-fits c);
      }

      -- what `complete` gave, on the buffer behind the records written before
      abbrev outcome : Result Half Stop → Three (List ℕ) → List ℕ → List ℕ → HalfOutcome
      outcome ended ws₁ ms₁ part = half_of s g j sums q ended ws₁ ms₁ part

      abbrev Gives : Result Half Stop → Three (List ℕ) → List ℕ → List ℕ → Type 0
      Gives ended ws₁ ms₁ part = outcome ended ws₁ ms₁ part ≡ half_outcome st q (take (length out - behind) (drop behind out))

      abbrev back : List ℕ → List ℕ
      back part = put_mid behind (length out - behind) out part

      back_is : (part : List ℕ) → back part ≡ take behind out ++ part
      back_is part = back-behind behind out part (omega (arith, inv.fits, inv.long))

      room-is : room (drop behind out) ≡ left
      room-is = omega (arith, length-drop behind out, inv.so_far.fits, inv.long)

      given : (ended : Result Half Stop) (ws₁ : Three (List ℕ)) (ms₁ part : List ℕ) → Gives ended ws₁ ms₁ part →
          outcome ended ws₁ ms₁ part ≡ half_by (three_why_not st p left) st p (drop behind out)
      unfolding half_outcome
      given ended ws₁ ms₁ part is =
          is ∙ (λ i. half_outcome st (q-is i) (lent-behind behind out i)) ∙ ap (λ (k : ℕ). half_by (three_why_not st p k) st p (drop behind out)) room-is

      -- it is taken
      module _ (h : Half) {ws₁ : Three (List ℕ)} {ms₁ part : List ℕ} (is : Gives (Ok h) ws₁ ms₁ part) {g₁ : Three Gatherer} (halves_are : g₁ ≡ with_halves g q) where
        abbrev after : ThreeState
        after = three_with s g₁ h.joint ws₁ ms₁

        took : (three_why_not st p left ≡ 0) × (outcome (Ok h) ws₁ ms₁ part ≡ half_by 0 st p (drop behind out))
        took = half-taken (three_why_not st p left) (outcome (Ok h) ws₁ ms₁ part) st p (drop behind out) (given (Ok h) ws₁ ms₁ part is) refl

        after_is : three_half st p ≡ after
        after_is = sym (ap (λ (o : HalfOutcome). o.after) took.1) ∙ sym (ap (λ (k : Three Gatherer). three_with s k h.joint ws₁ ms₁) halves_are)

        written_is : length (three_half_due st p) ≡ h.written
        written_is = sym (ap (λ (o : HalfOutcome). o.written) took.1)

        next : Progress three_machine ValidThree st₀ xs lent after (from + n) (written + h.written) (back part)
        next =
            let t = taken-if (three_passes st p) (three_half_due st p) left took.0 in
            subst (λ (k : ℕ). Progress three_machine ValidThree st₀ xs lent after (from + n) (written + k) (back part)) written_is
            (subst (λ (z : ThreeState). Progress three_machine ValidThree st₀ xs lent z (from + n) (written + length (three_half_due st p)) (back part)) after_is
            (progress-more inv.so_far n (three_half_due st p) (three_half st p) (back part) inv.share_in t.1
            (three_half-valid st p inv.so_far.valid p-fits t.0)
            (feed-taken three_cuts st rest left (inv.so_far.valid.gatherer-valid on_a).0 share inv.cut-is completes took.0)
            (back_is part ∙ ap (λ (l : List ℕ). take behind out ++ l) (ap (λ (o : HalfOutcome). o.bytes) took.1))))

        pub taken-fits : written + h.written ≤ room lent
        taken-fits = next.fits

        pub taken-count : g₁.a.count < s.samples
        taken-count = (next.valid.gatherer-valid on_a).0

        pub walk-turns : (share₁ : Share) (lanes₁ : Three (List ℤ)) →
            CutIs s g₁ (triples_of (take (length block - 3 * (from + n)) (drop (3 * (from + n)) block))) share₁ → LanesLong lanes₁ →
            length part ≡ length (take (length out - behind) (drop behind out)) →
            Walking s st₀ block lent (shifted ws₁ ms₁) (back part) lanes₁ g₁ h.joint h.sums (from + n) (written + h.written) share₁
        walk-turns share₁ lanes₁ cut-is lanes-long kept =
            walking s st₀ block lent (shifted ws₁ ms₁) (back part) lanes₁ g₁ h.joint h.sums (from + n) (written + h.written) share₁ next inv.settings-are
            (ap (λ (o : HalfOutcome). o.sums) took.1 ∙ ap (λ (z : ThreeState). joint_sums_of z.windows z.marks) after_is)
            (cut-is ∙ ap (λ (l : List (Three ℤ)). cut s.samples g₁.a (channel on_a l)) (triples-behind (from + n) block))
            lanes-long (same-records part kept) whole-triples

      -- it is not
      pub walk-stops : (stop : Stop) {ws₁ : Three (List ℕ)} {ms₁ part : List ℕ} → Gives (Err stop) ws₁ ms₁ part → (end : ThreeState) →
          WalkEnds (shifted ws₁ ms₁) g j (triples_of (take (3 * (from + n - 1) - 3 * from) (drop (3 * from) block))) end →
          WalkIs st₀ xs lent end (record { taken = from + n - 1; written = written; why = stop_number stop }) (back part)
      walk-stops stop {ws₁} {ms₁} {part} is end ended =
          let some : 0 < stop_number stop = stop-some stop in
          let stopped = half-refused (three_why_not st p left) (outcome (Err stop) ws₁ ms₁ part) st p (drop behind out) (given (Err stop) ws₁ ms₁ part is) some in
          let some_in : 0 < n = share-some in
          let long : length (take (n - 1) rest) ≡ n - 1 = part-long from (n - 1) xs (omega (arith, inv.share_in)) in
          walk-last end (take (n - 1) rest) _ (from + n - 1) (stop_number stop) ws₁ ms₁ (back part) ended (triples-between from (n - 1) (from + n - 1) block (omega arith))
          (omega (arith, inv.within.fits)) (ap (λ (z : ThreeState). z.windows) stopped.1) (ap (λ (z : ThreeState). z.marks) stopped.1) (n - 1) (omega arith)
          (feed-stops three_cuts st rest left (inv.so_far.valid.gatherer-valid on_a).0 share inv.cut-is completes (stop_number stop) stopped.0 some)
          (back_is part ∙ ap (λ (l : List ℕ). take behind out ++ l) stopped.2)

  -- none ends
  pub end-ready : share.completes ≡ false →
      let own = take (length block - 3 * from) (drop (3 * from) block) in (length own % 3 ≡ 0) × RoomFor g (length own / 3)
  end-ready leaves =
      let long = behind-long from inv.so_far.at_in in
      (omega arith, room_for _ (omega (arith, inv.within.below leaves, length-channel on_a rest, length-drop from xs)))

  pub walk_ends : share.completes ≡ false → (end : ThreeState) →
      WalkEnds kept g j (triples_of (take (length block - 3 * from) (drop (3 * from) block))) end →
      WalkIs st₀ xs lent end (record { taken = length block / 3; written = written; why = 0 }) out
  walk_ends leaves end ended =
      walk-last end rest _ (length block / 3) 0 ws ms out ended (triples-behind from block)
      (omega (arith, inv.within.below leaves, length-channel on_a rest)) refl refl
      (length rest) (omega (arith, length-drop from xs, inv.so_far.at_in, inv.size))
      (feed-rest three_cuts st rest left (inv.so_far.valid.gatherer-valid on_a).0 share inv.cut-is leaves) (sym (take-append-drop behind out))
