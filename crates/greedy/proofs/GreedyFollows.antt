-- Where each sample's step follows the past, the greedy feed is the engineer's: the greatest number of samples that 01 allows, their records, and why.
use Rattle.std.specs.Prelude.{◌≡◌, Bool, true, false, not, ◌&&◌, ℕ, suc, ◌+◌, ◌-◌, ◌≤◌, ◌<◌, take, if◌then◌else◌}
use Rattle.std.proofs.Math.Path.{refl}
use Rattle.std.proofs.Common.{sym, ◌∙◌, ap, arith, length-append, ltb-true, ltb-false, leb-true, leb-false, le-leb}
use Rattle.std.proofs.Math.Bool.{and-false}
use mathlib.Core.List.{List, [], ◌∷◌, ◌++◌, append-nil}
use Rattle.std.proofs.Math.ListN.{length}
use Rattle.std.proofs.Math.Seq.{append_snoc}
use Rattle.std.proofs.Math.Dec.{eqb-zero-suc, eqb-suc-suc}
use Rattle.std.proofs.lemmas.Bool.{lt-leb}
use Rattle.numbers.specs.Notation.{◌≤ᵇ◌, ◌<ᵇ◌, ◌≡ᵇ◌}
use Rattle.reading.specs.declared.Record.{Record}
use Rattle.reading.specs.Feed.{last_value}
use Rattle.reading_laws.specs.Past.{Past, completed_in, within_end_in, allowed_in, taken_in, why_in, Grows}
use Rattle.reading_laws.specs.CompletedLaws.{completed-none, completed-add}
use Rattle.reading_laws.specs.TakenLaws.{taken-within}
use Rattle.greedy.specs.Greedy.{Machine, Run, stopped, joined, fed_by}
use Rattle.greedy.proofs.GreedyLaws.{fed_by-ends, fed_by-full, fed_by-takes}
use Rattle.greedy.proofs.GreatestLaws.{greatest_to-none, greatest_to-shift, leb-sub}

-- what the engineer takes of a block that begins with x, by what x does
module _ {X : Type 0} {P : Past X} (grows : Grows P) (rec : List X) (x : X) (xs : List X) where
  abbrev longer : List X
  longer = rec ++ (x ∷ [])

  abbrev first : List Record
  first = completed_in P rec (x ∷ []) 1

  completed-cons : (k : ℕ) → completed_in P rec (x ∷ xs) (suc k) ≡ first ++ completed_in P longer xs k
  completed-cons k =
      let e : suc k ≡ 1 + k = omega arith in
      ap (completed_in P rec (x ∷ xs)) e ∙ completed-add grows rec (x ∷ xs) 1 k

  one_later : (k : ℕ) → rec ++ take (suc k) (x ∷ xs) ≡ longer ++ take k xs
  one_later k = sym (append_snoc rec x (take k xs))

  within-later : (k : ℕ) → within_end_in P rec (x ∷ xs) (suc k) ≡ within_end_in P longer xs k
  within-later k = ap (λ (r : List X). P.count r ≤ᵇ last_value) (one_later k)

  length-later : (k : ℕ) → length (completed_in P rec (x ∷ xs) (suc k)) ≡ length first + length (completed_in P longer xs k)
  length-later k = ap length (completed-cons k) ∙ length-append first (completed_in P longer xs k)

  past-later : within_end_in P rec (x ∷ []) 1 ≡ false → (k : ℕ) → within_end_in P rec (x ∷ xs) (suc k) ≡ false
  past-later past k = within-later k ∙ go (P.count longer) (P.count (longer ++ take k xs)) (grows.count-grow longer (take k xs)) past
    where
      go : (a b : ℕ) → a ≤ b → (a ≤ᵇ last_value) ≡ false → (b ≤ᵇ last_value) ≡ false
      go a b le e = let p = leb-false a last_value e in lt-leb b last_value (omega arith)

  module _ (room : ℕ) where
    first_ends : within_end_in P rec (x ∷ []) 1 ≡ false → taken_in P rec (x ∷ xs) room ≡ 0
    first_ends past =
        greatest_to-none (allowed_in P rec (x ∷ xs) room) (suc (length xs)) (λ k. ap (λ (b : Bool). b && length (completed_in P rec (x ∷ xs) (suc k)) ≤ᵇ room) (past-later past k))

    first-full : room < length first → taken_in P rec (x ∷ xs) room ≡ 0
    first-full full = greatest_to-none (allowed_in P rec (x ∷ xs) room) (suc (length xs)) (λ k. go k (length (completed_in P rec (x ∷ xs) (suc k))) (omega (arith, length-later k)))
      where
        go : (k l : ℕ) → room < l → (within_end_in P rec (x ∷ xs) (suc k) && l ≤ᵇ room) ≡ false
        go k l h = ap (◌&&◌ (within_end_in P rec (x ∷ xs) (suc k))) (lt-leb l room h) ∙ and-false (within_end_in P rec (x ∷ xs) (suc k))

    first_taken : within_end_in P rec (x ∷ []) 1 ≡ true → length first ≤ room → taken_in P rec (x ∷ xs) room ≡ suc (taken_in P longer xs (room - length first))
    first_taken fits le =
        greatest_to-shift (allowed_in P rec (x ∷ xs) room) (allowed_in P longer xs (room - length first)) (length xs)
        (ap (λ (b : Bool). b && length first ≤ᵇ room) fits ∙ le-leb (length first) room le)
        (λ k. ap (λ (b : Bool). b && length (completed_in P rec (x ∷ xs) (suc k)) ≤ᵇ room) (within-later k)
        ∙ ap (◌&&◌ (within_end_in P longer xs k)) (ap (λ (l : ℕ). l ≤ᵇ room) (length-later k) ∙ leb-sub (length first) (length (completed_in P longer xs k)) room le))

  why-none : (b : Bool) → within_end_in P rec (x ∷ []) 1 ≡ b → why_in P rec (x ∷ xs) 0 ≡ (if b then 1 else 2)
  why-none b e =
      ap (λ (z : Bool). if z then 0 else if within_end_in P rec (x ∷ []) 1 then 1 else 2) (eqb-zero-suc (length xs)) ∙ ap (λ (z : Bool). if z then 1 else 2) e

  why-later : (n : ℕ) → why_in P rec (x ∷ xs) (suc n) ≡ why_in P longer xs n
  why-later n =
      let e : suc n + 1 ≡ suc (n + 1) = omega arith in
      ap (λ (z : Bool). if z then 0 else if within_end_in P rec (x ∷ xs) (suc n + 1) then 1 else 2) (eqb-suc-suc n (length xs))
      ∙ ap (λ (z : Bool). if n ≡ᵇ length xs then 0 else if z then 1 else 2) (ap (within_end_in P rec (x ∷ xs)) e ∙ within-later (n + 1))

-- one sample's step follows a recording that is within V's end, where `state_of` is the machine that a recording leaves
pub record StepsFollow {X St : Type 0} (P : Past X) (M : Machine X St) (state_of : List X → St) : Type 0 where
  pub at_end-of : (rec : List X) (x : X) → P.count rec ≤ last_value → M.at_end (state_of rec) x ≡ not (within_end_in P rec (x ∷ []) 1)
  pub due-of : (rec : List X) (x : X) → M.due_with (state_of rec) x ≡ completed_in P rec (x ∷ []) 1
  pub next_of : (rec : List X) (x : X) → M.next (state_of rec) x ≡ state_of (rec ++ (x ∷ []))

-- the engineer's outcome
abbrev pub fed_of : {X St : Type 0} → Past X → (List X → St) → List X → List X → ℕ → Run St
fed_of P state_of rec block room =
    let n = taken_in P rec block room in
    record { after = state_of (rec ++ take n block); taken = n; records = completed_in P rec block n; why = why_in P rec block n }

module _ {X St : Type 0} {P : Past X} (grows : Grows P) {M : Machine X St} {state_of : List X → St} (steps : StepsFollow P M state_of) where
  none_of : (rec block : List X) (room y : ℕ) → taken_in P rec block room ≡ 0 → why_in P rec block 0 ≡ y → stopped (state_of rec) y ≡ fed_of P state_of rec block room
  none_of rec block room y e w =
      sym ((λ i. record { after = state_of (rec ++ take (e i) block); taken = e i; records = completed_in P rec block (e i); why = why_in P rec block (e i) })
      ∙ (λ i. record { after = state_of (append-nil rec i); taken = 0; records = completed-none grows rec block i; why = w i }))

  later_of : (rec : List X) (x : X) (xs : List X) (room later : ℕ) → taken_in P rec (x ∷ xs) room ≡ suc (taken_in P (rec ++ (x ∷ [])) xs later) →
      joined 1 (completed_in P rec (x ∷ []) 1) (fed_of P state_of (rec ++ (x ∷ [])) xs later) ≡ fed_of P state_of rec (x ∷ xs) room
  later_of rec x xs room later e =
      let n : ℕ = taken_in P (rec ++ (x ∷ [])) xs later in
      let c : 1 + n ≡ suc n = omega arith in
      (λ i. record {
        after = state_of (sym (one_later grows rec x xs n) i);
        taken = c i;
        records = sym (completed-cons grows rec x xs n) i;
        why = sym (why-later grows rec x xs n) i;
      })
      ∙ sym (λ i. record { after = state_of (rec ++ take (e i) (x ∷ xs)); taken = e i; records = completed_in P rec (x ∷ xs) (e i); why = why_in P rec (x ∷ xs) (e i) })

  pub fed_by-follows : (block rec : List X) (room : ℕ) → P.count rec ≤ last_value → fed_by M (state_of rec) block room ≡ fed_of P state_of rec block room
  unfolding fed_by
  fed_by-follows [] rec room within = none_of rec [] room 0 refl refl
  fed_by-follows (x ∷ xs) rec room within = go (within_end_in P rec (x ∷ []) 1) (room <ᵇ length first) refl refl (fed_by-follows xs (rec ++ (x ∷ [])) later)
    where
      first : List Record
      first = completed_in P rec (x ∷ []) 1

      later : ℕ
      later = room - length first

      end_is : (b : Bool) → within_end_in P rec (x ∷ []) 1 ≡ b → M.at_end (state_of rec) x ≡ not b
      end_is b e = steps.at_end-of rec x within ∙ ap not e

      due-is : M.due_with (state_of rec) x ≡ first
      due-is = steps.due-of rec x

      full_is : (room <ᵇ length (M.due_with (state_of rec) x)) ≡ (room <ᵇ length first)
      full_is = ap (λ (d : List Record). room <ᵇ length d) due-is

      go : (b f : Bool) → within_end_in P rec (x ∷ []) 1 ≡ b → (room <ᵇ length first) ≡ f →
          (P.count (rec ++ (x ∷ [])) ≤ last_value → fed_by M (state_of (rec ++ (x ∷ []))) xs later ≡ fed_of P state_of (rec ++ (x ∷ [])) xs later)
          → fed_by M (state_of rec) (x ∷ xs) room ≡ fed_of P state_of rec (x ∷ xs) room
      go false f e q ih =
          fed_by-ends M (state_of rec) x xs room (end_is false e) ∙ none_of rec (x ∷ xs) room 2 (first_ends grows rec x xs room e) (why-none grows rec x xs false e)
      go true true e q ih =
          fed_by-full M (state_of rec) x xs room (end_is true e) (full_is ∙ q)
          ∙ none_of rec (x ∷ xs) room 1 (first-full grows rec x xs room (ltb-true room _ q)) (why-none grows rec x xs true e)
      go true false e q ih =
          fed_by-takes M (state_of rec) x xs room (end_is true e) (full_is ∙ q)
          ∙ ((λ i. joined 1 (due-is i) (fed_by M (steps.next_of rec x i) xs (room - length (due-is i))))
          ∙ (ap (joined 1 first) (ih (leb-true (P.count (rec ++ (x ∷ []))) last_value e))
          ∙ later_of rec x xs room later (first_taken grows rec x xs room e (ltb-false room _ q))))

-- a recording that a logger can hold: of samples, and within V's end
pub record Recording {X : Type 0} (P : Past X) (Are : List X → Type 0) (rec : List X) : Type 0 where
  pub samples : Are rec
  pub within : P.count rec ≤ last_value

-- what is taken keeps it one, where what joins samples and what is taken of them are samples
pub recording-fed : {X : Type 0} {P : Past X} → Grows P → {Are : List X → Type 0} → ((xs ys : List X) → Are xs → Are ys → Are (xs ++ ys)) →
    ((n : ℕ) (xs : List X) → Are xs → Are (take n xs)) → (rec block : List X) (room : ℕ) → Recording P Are rec → Are block →
    Recording P Are (rec ++ take (taken_in P rec block room) block)
recording-fed {P = P} grows append some rec block room ok are =
    let n = taken_in P rec block room in
    record { samples = append rec (take n block) ok.samples (some n block are); within = taken-within grows rec block room ok.within }
