-- The greedy feed is 01's rule, for every machine and every state: it takes the greatest number of samples that pass no end and whose records fit.
use Rattle.std.specs.Prelude.{◌≡◌, Bool, not, ◌&&◌, ℕ, zero, suc, ◌+◌, ◌-◌, ◌≤◌, ◌<◌, take, if◌then◌else◌}
use Rattle.std.proofs.Math.Path.{refl, subst}
use Rattle.std.proofs.Common.{sym, ◌∙◌, ap, arith, length-append, ltb-true, ltb-false, leb-true, leb-false, le-leb}
use Rattle.std.proofs.Math.Bool.{true, false, and-false}
use mathlib.Core.List.{List, [], ◌∷◌, ◌++◌, append-nil}
use Rattle.std.proofs.Math.ListN.{length}
use Rattle.std.proofs.Math.Dec.{eqb-zero-suc, eqb-suc-suc}
use Rattle.std.proofs.lemmas.Bool.{lt-leb}
use Rattle.numbers.specs.Notation.{◌≤ᵇ◌, ◌<ᵇ◌, ◌≡ᵇ◌}
use Rattle.reading.specs.declared.Record.{Record}
use Rattle.reading.specs.Feed.{greatest_to}
use Rattle.greedy.specs.Greedy.{Machine, Run, stopped, joined, fed_by, walked_by, due_over, within_end_by, allowed_by, taken_by, why_by}
use Rattle.greedy.proofs.GreedyLaws.{fed_by-ends, fed_by-full, fed_by-takes}

-- a search from the top, by what the test says of the first numbers
greatest_to-suc : (test : ℕ → Bool) (n : ℕ) (b : Bool) → test (suc n) ≡ b → greatest_to test (suc n) ≡ elim b [ true ↦ suc n | false ↦ greatest_to test n ]
greatest_to-suc test n b e = ap (λ (t : Bool). elim t as (λ _. ℕ) [ true ↦ suc n | false ↦ greatest_to test n ]) e

pub greatest_to-none : (test : ℕ → Bool) (n : ℕ) → ((k : ℕ) → test (suc k) ≡ false) → greatest_to test n ≡ 0
greatest_to-none test zero never = refl
greatest_to-none test (suc n) never = greatest_to-suc test n false (never n) ∙ greatest_to-none test n never

pub greatest_to-shift : (test later : ℕ → Bool) (n : ℕ) → test 1 ≡ true → ((k : ℕ) → test (suc k) ≡ later k) → greatest_to test (suc n) ≡ suc (greatest_to later n)
greatest_to-shift test later zero one same = greatest_to-suc test zero true one
greatest_to-shift test later (suc n) one same = greatest_to-suc test (suc n) (later (suc n)) (same (suc n)) ∙ go (later (suc n)) (greatest_to-shift test later n one same)
  where
    go : (b : Bool) → greatest_to test (suc n) ≡ suc (greatest_to later n) →
        ◌≡◌ {A = ℕ} (elim b [ true ↦ suc (suc n) | false ↦ greatest_to test (suc n) ]) (suc (elim b [ true ↦ suc n | false ↦ greatest_to later n ]))
    go true ih = refl
    go false ih = ih

pub leb-sub : (d l room : ℕ) → d ≤ room → (d + l ≤ᵇ room) ≡ (l ≤ᵇ room - d)
leb-sub d l room h = go (l ≤ᵇ room - d) refl
  where
    go : (b : Bool) → (l ≤ᵇ room - d) ≡ b → (d + l ≤ᵇ room) ≡ b
    go true e = let p = leb-true l (room - d) e in le-leb (d + l) room (omega arith)
    go false e = let p = leb-false l (room - d) e in lt-leb (d + l) room (omega arith)

module _ {X St : Type 0} (M : Machine X St) where
  pub record GreatestRun (st : St) (block : List X) (room : ℕ) (r : Run St) : Type 0 where
    pub taken_is : r.taken ≡ taken_by M st block room
    pub records-are : r.records ≡ due_over M st (take (taken_by M st block room) block)
    pub after_is : r.after ≡ walked_by M st (take (taken_by M st block room) block)
    pub why-is : r.why ≡ why_by M st block (taken_by M st block room)

  none-taken : (st : St) (block : List X) (room y : ℕ) → taken_by M st block room ≡ 0 → why_by M st block 0 ≡ y → GreatestRun st block room (stopped st y)
  none-taken st block room y e w = record {
    taken_is = sym e;
    records-are = sym (ap (λ (n : ℕ). due_over M st (take n block)) e);
    after_is = sym (ap (λ (n : ℕ). walked_by M st (take n block)) e);
    why-is = sym (ap (why_by M st block) e ∙ w);
  }

  module _ (st : St) (x : X) (xs : List X) (room : ℕ) where
    why-first : (b : Bool) → M.at_end st x ≡ b → why_by M st (x ∷ xs) 0 ≡ (if b then 2 else 1)
    why-first b e =
        ap (λ (z : Bool). if z then 0 else if not (M.at_end st x) && true then 1 else 2) (eqb-zero-suc (length xs)) ∙ (ap (λ (z : Bool). if not z && true then 1 else 2) e ∙ go b)
      where
        go : (b : Bool) → ◌≡◌ {A = ℕ} (if not b && true then 1 else 2) (if b then 2 else 1)
        go true = refl
        go false = refl

    ends : M.at_end st x ≡ true → taken_by M st (x ∷ xs) room ≡ 0
    ends e =
        greatest_to-none (allowed_by M st (x ∷ xs) room) (suc (length xs))
        (λ k. ap (λ (z : Bool). (not z && within_end_by M (M.next st x) (take k xs)) && length (due_over M st (x ∷ take k xs)) ≤ᵇ room) e)

    full : room < length (M.due_with st x) → taken_by M st (x ∷ xs) room ≡ 0
    full h =
        greatest_to-none (allowed_by M st (x ∷ xs) room) (suc (length xs))
        (λ k.
        let long : room < length (due_over M st (x ∷ take k xs)) = omega (arith, length-append (M.due_with st x) (due_over M (M.next st x) (take k xs))) in
        ap (◌&&◌ (within_end_by M st (x ∷ take k xs))) (lt-leb (length (due_over M st (x ∷ take k xs))) room long) ∙ and-false (within_end_by M st (x ∷ take k xs)))

    takes : M.at_end st x ≡ false → length (M.due_with st x) ≤ room → taken_by M st (x ∷ xs) room ≡ suc (taken_by M (M.next st x) xs (room - length (M.due_with st x)))
    takes e h = greatest_to-shift (allowed_by M st (x ∷ xs) room) (allowed_by M (M.next st x) xs (room - length (M.due_with st x))) (length xs) (one ∙ le-leb _ _ h) shift
      where
        one : allowed_by M st (x ∷ xs) room 1 ≡ (length (M.due_with st x) ≤ᵇ room)
        one = λ i. (not (e i) && true) && length (append-nil (M.due_with st x) i) ≤ᵇ room

        shift : (k : ℕ) → allowed_by M st (x ∷ xs) room (suc k) ≡ allowed_by M (M.next st x) xs (room - length (M.due_with st x)) k
        shift k =
            (λ i. (not (e i) && within_end_by M (M.next st x) (take k xs)) && length-append (M.due_with st x) (due_over M (M.next st x) (take k xs)) i ≤ᵇ room)
            ∙ ap (◌&&◌ (within_end_by M (M.next st x) (take k xs))) (leb-sub (length (M.due_with st x)) (length (due_over M (M.next st x) (take k xs))) room h)

    later : (r : Run St) → M.at_end st x ≡ false → length (M.due_with st x) ≤ room → GreatestRun (M.next st x) xs (room - length (M.due_with st x)) r
        → GreatestRun st (x ∷ xs) room (joined 1 (M.due_with st x) r)
    later r e h ih =
        let n : ℕ = taken_by M (M.next st x) xs (room - length (M.due_with st x)) in
        let t : taken_by M st (x ∷ xs) room ≡ suc n = takes e h in
        let c : 1 + n ≡ suc n = omega arith in
        let d : suc n + 1 ≡ suc (n + 1) = omega arith in
        let w : why_by M st (x ∷ xs) (suc n) ≡ why_by M (M.next st x) xs n =
        (λ i. if eqb-suc-suc n (length xs) i then 0 else if within_end_by M st (take (d i) (x ∷ xs)) then 1 else 2)
        ∙ (λ i. if n ≡ᵇ length xs then 0 else if not (e i) && within_end_by M (M.next st x) (take (n + 1) xs) then 1 else 2) in
        record {
          taken_is = ap (λ (k : ℕ). 1 + k) ih.taken_is ∙ (c ∙ sym t);
          records-are = ap (λ (o : List Record). M.due_with st x ++ o) ih.records-are ∙ sym (ap (λ (k : ℕ). due_over M st (take k (x ∷ xs))) t);
          after_is = ih.after_is ∙ sym (ap (λ (k : ℕ). walked_by M st (take k (x ∷ xs))) t);
          why-is = ih.why-is ∙ sym (ap (why_by M st (x ∷ xs)) t ∙ w);
        }

  -- demand 2's feed, from every state
  pub fed_by-greatest : (block : List X) (st : St) (room : ℕ) → GreatestRun st block room (fed_by M st block room)
  unfolding fed_by
  fed_by-greatest [] st room = none-taken st [] room 0 refl refl
  fed_by-greatest (x ∷ xs) st room = go (M.at_end st x) (room <ᵇ length (M.due_with st x)) refl refl (fed_by-greatest xs (M.next st x) (room - length (M.due_with st x)))
    where
      go : (e f : Bool) → M.at_end st x ≡ e → (room <ᵇ length (M.due_with st x)) ≡ f →
          GreatestRun (M.next st x) xs (room - length (M.due_with st x)) (fed_by M (M.next st x) xs (room - length (M.due_with st x))) → GreatestRun st (x ∷ xs) room (fed_by M st (x ∷ xs) room)
      go true f p q ih = subst (GreatestRun st (x ∷ xs) room) (sym (fed_by-ends M st x xs room p)) (none-taken st (x ∷ xs) room 2 (ends st x xs room p) (why-first st x xs room true p))
      go false true p q ih =
          subst (GreatestRun st (x ∷ xs) room) (sym (fed_by-full M st x xs room p q)) (none-taken st (x ∷ xs) room 1 (full st x xs room (ltb-true room _ q)) (why-first st x xs room false p))
      go false false p q ih = subst (GreatestRun st (x ∷ xs) room) (sym (fed_by-takes M st x xs room p q)) (later st x xs room _ p (ltb-false room _ q) ih)
