-- The laws of the greedy feed: its ways, two blocks as one, what bounds it, and less room.
use Rattle.std.specs.Prelude.{◌≡◌, Bool, true, false, if◌then◌else◌}
use Rattle.std.proofs.Math.Path.{refl, sym, ap}
use Rattle.std.proofs.Common.{◌∙◌, subst, length-append, ltb-true, ltb-false, lt-ltb, le-ltb}
use mathlib.Core.List.{List, [], ◌∷◌, ◌++◌, append_assoc}
use Prim.Native.Nat.{ℕ, ◌+◌, ◌-◌, ◌≤◌}
use native.Mathlib.Omega.{arith}
use Rattle.std.proofs.Math.ListN.{length}
use Rattle.numbers.specs.Notation.{◌<ᵇ◌, ◌≡ᵇ◌}
use Rattle.reading.specs.declared.Record.{Record}
use Rattle.greedy.specs.Greedy.{Machine, Run, stopped, joined, fed_by}

-- a run takes no more samples than the block has, all of them where nothing stops it, and writes no more records than fit
pub record Bounded {X St : Type 0} (xs : List X) (room : ℕ) (r : Run St) : Type 0 where
  pub most : r.taken ≤ length xs
  pub whole : r.why ≡ 0 → r.taken ≡ length xs
  pub fits : length r.records ≤ room

module _ {X St : Type 0} (M : Machine X St) where
  -- a block that begins with x, by what x does
  module _ (st : St) (x : X) (xs : List X) (room : ℕ) where
    abbrev pub by_first : Bool → Bool → Run St
    by_first e f = elim e [ true ↦ stopped st 2 | false ↦ elim f [ true ↦ stopped st 1 | false ↦ joined 1 (M.due_with st x) (fed_by M (M.next st x) xs (room - length (M.due_with st x))) ] ]

    pub fed_by-cons : (e f : Bool) → M.at_end st x ≡ e → (room <ᵇ length (M.due_with st x)) ≡ f → fed_by M st (x ∷ xs) room ≡ by_first e f
    unfolding fed_by
    fed_by-cons e f p q = λ i. by_first (p i) (q i)

    pub fed_by-ends : M.at_end st x ≡ true → fed_by M st (x ∷ xs) room ≡ stopped st 2
    fed_by-ends p = fed_by-cons true _ p refl

    pub fed_by-full : M.at_end st x ≡ false → (room <ᵇ length (M.due_with st x)) ≡ true → fed_by M st (x ∷ xs) room ≡ stopped st 1
    fed_by-full p q = fed_by-cons false true p q

    pub fed_by-takes : M.at_end st x ≡ false → (room <ᵇ length (M.due_with st x)) ≡ false →
        fed_by M st (x ∷ xs) room ≡ joined 1 (M.due_with st x) (fed_by M (M.next st x) xs (room - length (M.due_with st x)))
    fed_by-takes p q = fed_by-cons false false p q

  -- two blocks as one: the first, and where it was taken whole the second with the room left
  abbrev pub and_then : Run St → List X → ℕ → Run St
  and_then a ys room = if a.why ≡ᵇ 0 then joined a.taken a.records (fed_by M a.after ys (room - length a.records)) else a

  joined-none : (r : Run St) → r ≡ joined 0 [] r
  joined-none r =
      let e : r.taken ≡ 0 + r.taken = omega arith in
      λ i. record { after = r.after; taken = e i; records = r.records; why = r.why }

  pub joined-joined : (n k : ℕ) (a b : List Record) (r : Run St) → joined n a (joined k b r) ≡ joined (n + k) (a ++ b) r
  joined-joined n k a b r =
      let e : n + (k + r.taken) ≡ n + k + r.taken = omega arith in
      λ i. record { after = r.after; taken = e i; records = sym (append_assoc a b r.records) i; why = r.why }

  joined-and_then : (es : List Record) (a : Run St) (ys : List X) (room : ℕ) → joined 1 es (and_then a ys (room - length es)) ≡ and_then (joined 1 es a) ys room
  joined-and_then es a ys room = go (a.why ≡ᵇ 0)
    where
      e : room - length es - length a.records ≡ room - length (es ++ a.records)
      e = simp length-append (omega arith)

      go : (b : Bool) →
          joined 1 es (if b then joined a.taken a.records (fed_by M a.after ys (room - length es - length a.records)) else a)
          ≡ (if b then joined (1 + a.taken) (es ++ a.records) (fed_by M a.after ys (room - length (es ++ a.records))) else joined 1 es a)
      go false = refl
      go true = rw e (joined-joined 1 a.taken es a.records (fed_by M a.after ys (room - length (es ++ a.records))))

  pub fed_by-append : (xs : List X) (st : St) (ys : List X) (room : ℕ) → fed_by M st (xs ++ ys) room ≡ and_then (fed_by M st xs room) ys room
  unfolding fed_by
  fed_by-append [] st ys room = let e : room ≡ room - 0 = omega arith in ap (fed_by M st ys) e ∙ joined-none (fed_by M st ys (room - 0))
  fed_by-append (x ∷ xs) st ys room = go (M.at_end st x) (room <ᵇ length (M.due_with st x)) (fed_by-append xs (M.next st x) ys (room - length (M.due_with st x)))
    where
      later : ℕ
      later = room - length (M.due_with st x)

      go : (e f : Bool) → fed_by M (M.next st x) (xs ++ ys) later ≡ and_then (fed_by M (M.next st x) xs later) ys later → by_first st x (xs ++ ys) room e f ≡ and_then (by_first st x xs room e f) ys room
      go true f ih = refl
      go false true ih = refl
      go false false ih = ap (joined 1 (M.due_with st x)) ih ∙ joined-and_then (M.due_with st x) (fed_by M (M.next st x) xs later) ys room

  pub fed_by-bounded : (xs : List X) (st : St) (room : ℕ) → Bounded xs room (fed_by M st xs room)
  unfolding fed_by
  fed_by-bounded [] st room = record { most = omega arith; whole = λ e. refl; fits = omega arith }
  fed_by-bounded (x ∷ xs) st room =
      go (M.at_end st x) (room <ᵇ length (M.due_with st x)) refl (fed_by-bounded xs (M.next st x) (room - length (M.due_with st x)))
    where
      later : Run St
      later = fed_by M (M.next st x) xs (room - length (M.due_with st x))

      go : (e f : Bool) → (room <ᵇ length (M.due_with st x)) ≡ f → Bounded xs (room - length (M.due_with st x)) later → Bounded (x ∷ xs) room (by_first st x xs room e f)
      go true f q ih = record { most = omega arith; whole = λ e. absurd (omega arith); fits = omega arith }
      go false true q ih = record { most = omega arith; whole = λ e. absurd (omega arith); fits = omega arith }
      go false false q ih = record {
        most = omega (arith, ih.most);
        whole = λ e. omega (arith, ih.whole e);
        fits = omega (arith, ih.fits, length-append (M.due_with st x) later.records, ltb-false room (length (M.due_with st x)) q);
      }

  -- with less room that still takes all records of a feed, the same feed
  pub fed_by-less : (xs : List X) (st : St) (room less : ℕ) → length (fed_by M st xs room).records ≤ less → less ≤ room → fed_by M st xs less ≡ fed_by M st xs room
  unfolding fed_by
  fed_by-less [] st room less enough most = refl
  fed_by-less (x ∷ xs) st room less enough most =
      go (M.at_end st x) (room <ᵇ length due) refl refl (λ e. fed_by-less xs (M.next st x) (room - length due) (less - length due) e (omega arith))
      (subst (λ (r : Run St). length r.records ≤ less) is enough)
      ∙ sym is
    where
      due : List Record
      due = M.due_with st x

      later : Run St
      later = fed_by M (M.next st x) xs (room - length due)

      is : fed_by M st (x ∷ xs) room ≡ by_first st x xs room (M.at_end st x) (room <ᵇ length due)
      is = fed_by-cons st x xs room _ _ refl refl

      go : (e f : Bool) → M.at_end st x ≡ e → (room <ᵇ length due) ≡ f
          → (length later.records ≤ less - length due → fed_by M (M.next st x) xs (less - length due) ≡ later)
          → length (by_first st x xs room e f).records ≤ less → fed_by M st (x ∷ xs) less ≡ by_first st x xs room e f
      go true f p q ih fits = fed_by-ends st x xs less p
      go false true p q ih fits = fed_by-full st x xs less p (lt-ltb less (length due) (omega (arith, ltb-true room (length due) q)))
      go false false p q ih fits =
          let long = length-append due later.records in
          fed_by-takes st x xs less p (le-ltb less (length due) (omega (arith, long))) ∙ ap (joined 1 due) (ih (omega (arith, long)))
