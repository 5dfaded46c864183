-- The laws of `fed_all_by`: a feed with room for a few records leaves the rest of it to take, and with room for four a turn is progress; and samples come to an end,
-- where what is left to V's end falls with each that is taken.
use Rattle.std.specs.Prelude.{◌≡◌, ◌≢◌, Bool, ℕ, suc, ◌+◌, ◌-◌, ◌*◌, ◌≤◌, ◌<◌, drop, ℤ, if◌then◌else◌}
use Rattle.std.proofs.Math.Path.{refl, subst⁻¹}
use Rattle.std.proofs.Common.{sym, ◌∙◌, ap, ltb-false, eq-eqb, ne_eqb}
use Rattle.std.proofs.Math.Bool.{true, false}
use mathlib.Core.List.{List, [], ◌∷◌}
use native.Mathlib.Omega.{arith}
use Rattle.std.proofs.Math.ListN.{length}
use Rattle.numbers.specs.Notation.{◌<ᵇ◌, ◌≡ᵇ◌}
use Rattle.reading.specs.Told.{Told}
use Rattle.reading.specs.Feed.{last_value}
use Rattle.reading.specs.Calls.{Outcome}
use Rattle.reading.specs.Engineer.{room}
use Rattle.reading.specs.Layout.{record_length}
use Rattle.rms.specs.declared.Gatherer.{Gatherer}
use Rattle.rms.specs.declared.Part.{Part}
use Rattle.rms.specs.Gather.{part_of, with_part, with_half, ends_with}
use Rattle.rms.specs.CutLaws.{next-below}
use Rattle.greedy.specs.Greedy.{Machine, Run, fed_by, fed_into}
use Rattle.greedy.proofs.GreedyLaws.{by_first}
use Rattle.greedy.proofs.ToldLaws.{ToldWithin}
use Rattle.greedy.specs.AllFed.{AllFed, fed_all_by}

module _ {X St : Type 0} (M : Machine X St) where
  -- samples that begin with x, by whether x would pass V's end
  abbrev by_end : St → X → List X → Bool → AllFed St
  by_end st x xs e = if e then record { after = st; why = 2 } else fed_all_by M (M.next st x) xs

  -- what a feed that took n samples leaves to take: the others where it stopped for want of room, else none
  abbrev pub rest_by : List X → St → ℕ → ℕ → AllFed St
  rest_by xs st n why = if why ≡ᵇ 1 then fed_all_by M st (drop n xs) else record { after = st; why = why }

  abbrev rest_of : List X → Run St → AllFed St
  rest_of xs r = rest_by xs r.after r.taken r.why

  taken-fed : (xs : List X) (st : St) (room : ℕ) → fed_all_by M st xs ≡ rest_of xs (fed_by M st xs room)
  unfolding fed_all_by fed_by
  taken-fed [] st room = refl
  taken-fed (x ∷ xs) st room =
      go (M.at_end st x) (room <ᵇ length (M.due_with st x)) refl (taken-fed xs (M.next st x) (room - length (M.due_with st x)))
    where
      later : Run St
      later = fed_by M (M.next st x) xs (room - length (M.due_with st x))

      go : (e f : Bool) → M.at_end st x ≡ e → fed_all_by M (M.next st x) xs ≡ rest_of xs later → by_end st x xs e ≡ rest_of (x ∷ xs) (by_first M st x xs room e f)
      go true f p ih = refl
      go false true p ih = sym (ap (by_end st x xs) p)
      go false false p ih = let n : suc later.taken ≡ 1 + later.taken = omega arith in ih ∙ (λ i. rest_by (x ∷ xs) later.after (n i) later.why)

  -- a turn: a feed of samples, with room for what it writes; where it stopped for want of room it leaves the rest to take, which is progress with room for four
  -- records; else it leaves what the samples leave
  pub record Turn (xs : List X) (lent : List ℕ) (st end : St) (told : Told) : Type 0 where
    pub fits : record_length * told.written ≤ length lent
    pub inside : told.taken ≤ length xs
    pub last : told.why ≢ 1 → record { after = end; why = told.why } ≡ fed_all_by M st xs
    pub rest : told.why ≡ 1 → fed_all_by M st xs ≡ fed_all_by M end (drop told.taken xs)
    pub some : told.why ≡ 1 → 4 * record_length ≤ length lent → 0 < told.taken

  module _ (xs : List X) (lent : List ℕ) (st : St) {o : Outcome St} (within : ToldWithin 4 xs lent (fed_into M st xs lent).told) (fed : o ≡ fed_into M st xs lent) where
    bounds : ToldWithin 4 xs lent o.told
    bounds = subst⁻¹ (ToldWithin 4 xs lent) (ap (λ (p : Outcome St). p.told) fed) within

    turn_rest : fed_all_by M st xs ≡ rest_by xs o.after o.told.taken o.told.why
    turn_rest = taken-fed xs st (room lent) ∙ ap (λ (p : Outcome St). rest_by xs p.after p.told.taken p.told.why) (sym fed)

    rest_at : (b : Bool) → (o.told.why ≡ᵇ 1) ≡ b
        → fed_all_by M st xs ≡ (if b then fed_all_by M o.after (drop o.told.taken xs) else record { after = o.after; why = o.told.why })
    rest_at b e = turn_rest ∙ ap (λ (c : Bool). if c then fed_all_by M o.after (drop o.told.taken xs) else record { after = o.after; why = o.told.why }) e

    pub turn : Turn xs lent st o.after o.told
    turn = record {
      fits = bounds.fits;
      inside = bounds.most;
      last = λ other. sym (rest_at false (ne_eqb o.told.why 1 other));
      rest = λ stopped. rest_at true (eq-eqb o.told.why 1 stopped);
      some = λ stopped four. bounds.some (omega (arith, four)) stopped;
    }

-- samples, where each that is taken leaves the state inside and lowers what is left
module _ {X St : Type 0} (M : Machine X St) (left : St → ℕ) (Inside : St → Type 0)
    (left-next : (st : St) (x : X) → Inside st → M.at_end st x ≡ false → Inside (M.next st x) × (left (M.next st x) < left st)) where
  left-taken : (xs : List X) (st : St) → Inside st → (fed_all_by M st xs).why ≡ 0 → left (fed_all_by M st xs).after + length xs ≤ left st
  unfolding fed_all_by
  left-taken [] st inside = λ all. omega arith
  left-taken (x ∷ xs) st inside = go (M.at_end st x) refl (left-taken xs (M.next st x))
    where
      go : (e : Bool) → M.at_end st x ≡ e
          → (Inside (M.next st x) → (by_end M st x xs false).why ≡ 0 → left (by_end M st x xs false).after + length xs ≤ left (M.next st x))
          → (by_end M st x xs e).why ≡ 0 → left (by_end M st x xs e).after + length (x ∷ xs) ≤ left st
      go true p ih all = absurd (omega arith)
      go false p ih all = let one = left-next st x inside p in omega (arith, one, ih one.0 all)

  -- samples that are all taken
  pub falls : (xs : List X) (st end : St) → Inside st → 0 < length xs → record { after = end; why = 0 } ≡ fed_all_by M st xs → left end < left st
  falls xs st end inside some is =
      let all = left-taken xs st inside (sym (ap (λ (u : AllFed St). u.why) is)) in
      omega (arith, all, some, ap (λ (u : AllFed St). left u.after) is)

-- no more samples than these are left to V's end after v values, with m samples in a half-cycle: 256 for each value and for the first half-cycle, and the
-- others of the half-cycle in progress
abbrev of_first : Bool → ℕ
of_first whole = if whole then 0 else 256

abbrev pub left_to : ℕ → ℕ → Gatherer → ℕ
left_to m v g = 256 * (last_value - v) + of_first g.whole + (m - g.count)

-- within a half-cycle
abbrev pub InHalf : ℕ → Gatherer → Type 0
InHalf m g = (m ≤ 256) × (g.count < m)

module _ (m v : ℕ) (g : Gatherer) (inside : InHalf m g) where
  -- a sample that leaves the half-cycle in progress; a part that ends the first, and one with which a value comes out
  pub left-part : (x : ℤ) → ends_with m g x ≡ false → let h = with_part g (part_of (x ∷ [])) in InHalf m h × (left_to m v h < left_to m v g)
  left-part x e = let more = next-below m g inside.1 x e in ((inside.0, more), omega arith)

  pub left-first : (p : Part) → g.whole ≡ false → InHalf m (with_half g p) × (left_to m v (with_half g p) < left_to m v g)
  left-first p w = ((inside.0, omega arith), omega (arith, ap of_first w))

  pub left-value : (p : Part) → (last_value <ᵇ 1 + v) ≡ false → InHalf m (with_half g p) × (left_to m (suc v) (with_half g p) < left_to m v g)
  left-value p below = ((inside.0, omega arith), omega (arith, ltb-false last_value (1 + v) below))
