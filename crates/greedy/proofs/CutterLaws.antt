-- The greedy feed of a block by its first half-cycle: not complete, taken, or not taken.
use Rattle.std.specs.Prelude.{◌≡◌, Bool, true, false, ℕ, zero, suc, ◌+◌, ◌-◌, ◌≤◌, ◌<◌, length, take, drop, if◌then◌else◌}
use Rattle.std.proofs.Math.Path.{refl}
use Rattle.std.proofs.Common.{sym, ◌∙◌, ap, arith, length-take-le, ltb-false, le-ltb}
use mathlib.Core.List.{List, [], ◌∷◌, ◌++◌}
use Rattle.numbers.specs.Notation.{◌<ᵇ◌}
use Rattle.reading.specs.declared.Record.{Record}
use Rattle.rms.specs.declared.Share.{Share}
use Rattle.rms.specs.CutLaws.{one_more}
use Rattle.greedy.specs.Greedy.{Machine, Run, stopped, joined, fed_by}
use Rattle.greedy.proofs.GreedyLaws.{fed_by-ends, fed_by-full, fed_by-takes}
use Rattle.greedy.specs.Cutter.{Cutter, why_not_by, ends_half, machine_of}

-- what the cut and the parts must be for it, of states within a half-cycle: the cut goes by one sample, and so does a part, whatever ends it
pub record Cuts {X St : Type 0} (C : Cutter X St) (Below : St → Type 0) : Type 0 where
  pub cut-none : (st : St) → Below st → C.cut st [] ≡ record { count = 0; completes = false }
  pub cut-cons : (st : St) → Below st → (x : X) (xs : List X)
      → C.cut st (x ∷ xs) ≡ (if ends_half C st x then record { count = 1; completes = true } else one_more (C.cut (C.part st (x ∷ [])) xs))
  pub cut_inside : (st : St) → Below st → (xs : List X) → (C.cut st xs).count ≤ length xs
  pub cut-some : (st : St) → Below st → (xs : List X) → (C.cut st xs).completes ≡ true → 0 < (C.cut st xs).count
  pub part-below : (st : St) → Below st → (x : X) → ends_half C st x ≡ false → Below (C.part st (x ∷ []))
  pub part_none : (st : St) → C.part st [] ≡ st
  pub part-adds : (st : St) (x : X) (xs : List X) → C.part (C.part st (x ∷ [])) xs ≡ C.part st (x ∷ xs)
  pub passes-adds : (st : St) (x : X) (xs : List X) → C.passes (C.part st (x ∷ [])) xs ≡ C.passes st (x ∷ xs)
  pub due-adds : (st : St) (x : X) (xs : List X) → C.due (C.part st (x ∷ [])) xs ≡ C.due st (x ∷ xs)
  pub half-adds : (st : St) (x : X) (xs : List X) → C.half (C.part st (x ∷ [])) xs ≡ C.half st (x ∷ xs)

module _ {X St : Type 0} {C : Cutter X St} {Below : St → Type 0} (cuts : Cuts C Below) where
  abbrev machine : Machine X St
  machine = machine_of C

  abbrev why : St → List X → ℕ → ℕ
  why st xs room = why_not_by (C.passes st xs) (C.due st xs) room

  -- a feed that ends with samples that leave the half-cycle in progress
  abbrev ends_in : St → List X → ℕ → Run St
  ends_in st xs y = record { after = C.part st xs; taken = length xs; records = []; why = y }

  -- a block whose first n samples end the half-cycle, by why they are not taken; a block by its cut
  abbrev by_why : St → List X → ℕ → ℕ → ℕ → Run St
  by_why st b room n zero = let half = take n b in joined n (C.due st half) (fed_by machine (C.half st half) (drop n b) (room - length (C.due st half)))
  by_why st b room n (suc y) = ends_in st (take (n - 1) b) (suc y)

  abbrev by_cut : St → List X → ℕ → Share → Run St
  by_cut st b room c = if c.completes then by_why st b room c.count (why st (take c.count b) room) else ends_in st b 0

  none_more : (st : St) (y : ℕ) → stopped st y ≡ ends_in st [] y
  none_more st y = λ i. stopped (sym (cuts.part_none st) i) y

  module _ (st : St) (x : X) where
    abbrev one : List X
    one = x ∷ []

    abbrev next : St
    next = C.part st one

    -- one sample that leaves the half-cycle in progress
    step-within : ends_half C st x ≡ false → (xs : List X) (room : ℕ) → fed_by machine st (x ∷ xs) room ≡ joined 1 [] (fed_by machine next xs room)
    step-within e xs room =
        let r : room - 0 ≡ room = omega arith in
        fed_by-takes machine st x xs room (λ i. if e i then C.passes st one else false)
        ((λ i. room <ᵇ length (if e i then C.due st one else [])) ∙ le-ltb room 0 (omega arith))
        ∙ ((λ i.
        let due : List Record = if e i then C.due st one else [] in joined 1 due (fed_by machine (if e i then C.half st one else next) xs (room - length due)))
        ∙ ap (λ (k : ℕ). joined 1 [] (fed_by machine next xs k)) r)

    -- one that ends it
    step-ends : ends_half C st x ≡ true → (xs : List X) (room : ℕ) → fed_by machine st (x ∷ xs) room ≡ by_why st (x ∷ xs) room 1 (why st one room)
    step-ends e xs room = go (C.passes st one) (room <ᵇ length (C.due st one)) refl refl
      where
        end_is : machine.at_end st x ≡ C.passes st one
        end_is = λ i. if e i then C.passes st one else false

        due-is : machine.due_with st x ≡ C.due st one
        due-is = λ i. if e i then C.due st one else []

        full_is : (room <ᵇ length (machine.due_with st x)) ≡ (room <ᵇ length (C.due st one))
        full_is = λ i. room <ᵇ length (due-is i)

        go : (past full : Bool) → C.passes st one ≡ past → (room <ᵇ length (C.due st one)) ≡ full
            → fed_by machine st (x ∷ xs) room ≡ by_why st (x ∷ xs) room 1 (if past then 2 else if full then 1 else 0)
        go true full q f = fed_by-ends machine st x xs room (end_is ∙ q) ∙ none_more st 2
        go false true q f = fed_by-full machine st x xs room (end_is ∙ q) (full_is ∙ f) ∙ none_more st 1
        go false false q f =
            fed_by-takes machine st x xs room (end_is ∙ q) (full_is ∙ f)
            ∙ (λ i. joined 1 (due-is i) (fed_by machine (if e i then C.half st one else next) xs (room - length (due-is i))))

    -- samples after it that leave the half-cycle in progress
    one-more : (ys : List X) (y : ℕ) → joined 1 [] (ends_in next ys y) ≡ ends_in st (x ∷ ys) y
    one-more ys y =
        let c : 1 + length ys ≡ length (x ∷ ys) = omega arith in
        λ i. record { after = cuts.part-adds st x ys i; taken = c i; records = []; why = y }

    -- a block after it
    module _ (xs : List X) (room : ℕ) where
      by-why : (n y : ℕ) → 0 < n → joined 1 [] (by_why next xs room n y) ≡ by_why st (x ∷ xs) room (suc n) y
      by-why zero y h = absurd (omega arith)
      by-why (suc n) zero h =
          let ys = take (suc n) xs in
          let due = C.due st (x ∷ ys) in
          let r : Run St = fed_by machine (C.half st (x ∷ ys)) (drop (suc n) xs) (room - length due) in
          let c : 1 + (suc n + r.taken) ≡ suc (suc n) + r.taken = omega arith in
          (λ i.
          let d : List Record = cuts.due-adds st x ys i in
          joined 1 [] (joined (suc n) d (fed_by machine (cuts.half-adds st x ys i) (drop (suc n) xs) (room - length d))))
          ∙ (λ i. record { after = r.after; taken = c i; records = due ++ r.records; why = r.why })
      by-why (suc n) (suc y) h =
          let e : suc n - 1 ≡ n = omega arith in
          let f : suc n ≡ suc (suc n) - 1 = omega arith in
          (λ i. joined 1 [] (ends_in next (take (e i) xs) (suc y))) ∙ (one-more (take n xs) (suc y) ∙ (λ i. ends_in st (take (f i) (x ∷ xs)) (suc y)))

      why-adds : (ys : List X) → why next ys room ≡ why st (x ∷ ys) room
      why-adds ys = λ i. why_not_by (cuts.passes-adds st x ys i) (cuts.due-adds st x ys i) room

      by-cut : (n : ℕ) (b : Bool) → (b ≡ true → 0 < n) →
          joined 1 [] (by_cut next xs room (record { count = n; completes = b })) ≡ by_cut st (x ∷ xs) room (record { count = suc n; completes = b })
      by-cut n true some = (λ i. joined 1 [] (by_why next xs room n (why-adds (take n xs) i))) ∙ by-why n (why st (x ∷ take n xs) room) (some refl)
      by-cut n false some = one-more xs 0

  feed-cut : (b : List X) (st : St) (room : ℕ) → Below st → fed_by machine st b room ≡ by_cut st b room (C.cut st b)
  unfolding fed_by
  feed-cut [] st room h = rw (cuts.cut-none st h) (none_more st 0)
  feed-cut (x ∷ xs) st room h = rw (cuts.cut-cons st h x xs) (go (ends_half C st x) refl (feed-cut xs (next st x) room))
    where
      c : Share
      c = C.cut (next st x) xs

      go : (b : Bool) → ends_half C st x ≡ b → (Below (next st x) → fed_by machine (next st x) xs room ≡ by_cut (next st x) xs room c)
          → fed_by machine st (x ∷ xs) room ≡ by_cut st (x ∷ xs) room (if b then record { count = 1; completes = true } else one_more c)
      go true e ih = step-ends st x e xs room
      go false e ih =
          let below = cuts.part-below st h x e in
          step-within st x e xs room ∙ (ap (joined 1 []) (ih below) ∙ by-cut st x xs room c.count c.completes (cuts.cut-some (next st x) below xs))

  -- a block with its cut: it leaves the half-cycle in progress, or ends it, and then the half-cycle is taken or not
  module _ (st : St) (b : List X) (room : ℕ) (h : Below st) (c : Share) (is : c ≡ C.cut st b) where
    fed-is : fed_by machine st b room ≡ by_cut st b room c
    fed-is = rw is (feed-cut b st room h)

    pub feed-rest : c.completes ≡ false → fed_by machine st b room ≡ record { after = C.part st b; taken = length b; records = []; why = 0 }
    feed-rest e = fed-is ∙ rw e

    module _ (ends : c.completes ≡ true) where
      abbrev n : ℕ
      n = c.count

      abbrev half : List X
      half = take n b

      half_is : fed_by machine st b room ≡ by_why st b room n (why st half room)
      half_is = fed-is ∙ rw ends

      pub feed-taken : why_not_by (C.passes st half) (C.due st half) room ≡ 0
          → fed_by machine st b room ≡ joined n (C.due st half) (fed_by machine (C.half st half) (drop n b) (room - length (C.due st half)))
      feed-taken none = half_is ∙ ap (by_why st b room n) none

      pub feed-stops : (y : ℕ) → y ≡ why_not_by (C.passes st half) (C.due st half) room → 0 < y
          → fed_by machine st b room ≡ record { after = C.part st (take (n - 1) b); taken = n - 1; records = []; why = y }
      feed-stops zero is-why some = absurd (omega arith)
      feed-stops (suc y) is-why some =
          let inside : n ≤ length b = rw is (cuts.cut_inside st h b) in
          let long = length-take-le (n - 1) b (omega arith) in
          half_is
          ∙ (sym (ap (by_why st b room n) is-why) ∙ (λ i. record { after = C.part st (take (n - 1) b); taken = long i; records = []; why = suc y }))

-- the end of a half-cycle is taken where it passes no end and its records fit
pub taken-if : (past : Bool) (due : List Record) (room : ℕ) → why_not_by past due room ≡ 0 → (past ≡ false) × (length due ≤ room)
taken-if past due room = go past (room <ᵇ length due) refl
  where
    go : (past full : Bool) → (room <ᵇ length due) ≡ full → ◌≡◌ {A = ℕ} (if past then 2 else if full then 1 else 0) 0 → (past ≡ false) × (length due ≤ room)
    go true full f e = absurd (omega arith)
    go false true f e = absurd (omega arith)
    go false false f e = (refl, ltb-false room (length due) f)

-- what a half-cycle's end has due and passes, a sample has and passes
module _ {X St : Type 0} (C : Cutter X St) (st : St) (x : X) where
  pub sample-due : (k : ℕ) → length (C.due st (x ∷ [])) ≤ k → length ((machine_of C).due_with st x) ≤ k
  sample-due k most = go (ends_half C st x)
    where
      go : (b : Bool) → length (if b then C.due st (x ∷ []) else []) ≤ k
      go true = most
      go false = omega arith

  pub sample-within : C.passes st (x ∷ []) ≡ false → (machine_of C).at_end st x ≡ false
  sample-within within = go (ends_half C st x)
    where
      go : (b : Bool) → (if b then C.passes st (x ∷ []) else false) ≡ false
      go true = within
      go false = refl

  -- what the end of a half-cycle and a part of one leave, a sample that passes no end leaves
  pub sample-leaves : (Left : St → Type 0) → (ends_half C st x ≡ false → Left (C.part st (x ∷ []))) → (C.passes st (x ∷ []) ≡ false → Left (C.half st (x ∷ [])))
      → (machine_of C).at_end st x ≡ false → Left ((machine_of C).next st x)
  sample-leaves Left part half = go (ends_half C st x) refl
    where
      go : (b : Bool) → ends_half C st x ≡ b → (if b then C.passes st (x ∷ []) else false) ≡ false → Left (if b then C.half st (x ∷ []) else C.part st (x ∷ []))
      go true e within = half within
      go false e within = part e
