-- A call's answer as 01 gives it: what was asked for, or the number of the refusal.
use Rattle.std.specs.Prelude.{ℕ, zero, suc}

pub data Answered (A : Type 0) : Type 0 where
  accepted : A → Answered A
  refused : ℕ → Answered A

-- by the refusal's number, 0 where there is none
abbrev pub answered : {A : Type 0} → ℕ → A → Answered A
answered zero a = accepted a
answered (suc n) a = refused (suc n)

-- 01's number for an answer: 0, or the refusal
abbrev pub refusal_in : {A : Type 0} → Answered A → ℕ
refusal_in (accepted a) = 0
refusal_in (refused n) = n
