-- What the bytes read as is what restore leaves, beside the old state on refusal; and a state that was read is valid.
use mathlib.Core.Path.{◌≡◌, refl, sym, ap, subst}
use mathlib.Core.List.{List}
use Prim.Native.Nat.{ℕ, zero, suc}
use native.Mathlib.Omega.{arith}
use lib.ListN.{get_or}
use Rattle.octets.specs.Bytes.{Bytes}
use Rattle.numbers.specs.Answers.{Answered, answered}
use Rattle.numbers.specs.Answers.Answered.{accepted, refused}
use Rattle.numbers.specs.AnswersLaws.{accepted-is, refused-is}
use Rattle.reading.specs.Calls.{Restoration}
use Rattle.reading.specs.Restore.{values_in, restore_refusal}
use Rattle.state.specs.declared.State.{State}
use Rattle.state.specs.State.{ValidState}
use Rattle.image.specs.Image.{state_at_with, state_at, state_read, refused_by, restored_from, restored_by}
use Rattle.image.specs.ImageLaws.{state_at-valid}

module _ (old : State) where
  abbrev pub left : Answered State → Restoration State
  left (accepted st) = record { after = st; answer = accepted tt }
  left (refused n) = refused_by n old

  left-answered : (n : ℕ) (st : State) → left (answered n st) ≡ restored_from n old st
  left-answered zero st = refl
  left-answered (suc n) st = refl

  pub left_is : (b : List ℕ) → left (state_read b) ≡ restored_by old b
  unfolding state_read restored_by
  left_is b = left-answered (restore_refusal b) (state_at b)

-- the bytes that are read, and no others, are refused by none of restore's tests
pub read-is : (b : List ℕ) (st : State) → accepted st ≡ state_read b → (restore_refusal b ≡ 0) × (state_at b ≡ st)
unfolding state_read
read-is b st e = accepted-is (restore_refusal b) (state_at b) st (sym e)

pub read-none : (b : List ℕ) (st : State) → accepted st ≡ state_read b → restore_refusal b ≡ 0
read-none b st e = (read-is b st e).0

pub read-some : (b : List ℕ) (n : ℕ) → refused n ≡ state_read b → restore_refusal b ≡ 0 → ⊥
unfolding state_read
read-some b n e none = omega (arith, refused-is (restore_refusal b) n (state_at b) (sym e), none)

pub read-valid : (b : List ℕ) (st : State) → Bytes b → accepted st ≡ state_read b → ValidState st
read-valid b st are e = let is = read-is b st e in subst ValidState is.1 (state_at-valid b are is.0)

-- V is the first of the values' numbers
pub read-count : (b : List ℕ) (st : State) → accepted st ≡ state_read b → st.detector.count ≡ get_or (values_in b) 0 0
unfolding state_at_with
read-count b st e = sym (ap (λ (x : State). x.detector.count) (read-is b st e).1)
