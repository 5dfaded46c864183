-- The records of a longer past are those of the shorter one, then those due at the values that its further samples complete.
use Rattle.std.specs.Prelude.{◌≡◌, List, [], ◌++◌, ℕ, ◌+◌, ◌-◌, ◌≤◌, take, drop}
use Rattle.std.proofs.Common.{sym, ◌∙◌, ap, ap₂, append_assoc, append-nil, arith, take-add}
use Rattle.reading_laws.specs.Past.{Past, records_in, completed_in, Grows}

module _ {X : Type 0} {P : Past X} (grows : Grows P) where
  pub completed-none : (rec block : List X) → completed_in P rec block 0 ≡ []
  completed-none rec block =
      let e : P.count rec - P.count rec ≡ 0 = omega arith in
      ap (λ (r : List X). P.after r (P.count rec) (P.count r - P.count rec)) (append-nil rec)
      ∙ (ap (P.after rec (P.count rec)) e ∙ grows.after_none rec (P.count rec))

  -- block by block
  pub completed-add : (rec block : List X) (a b : ℕ) → completed_in P rec block (a + b) ≡ completed_in P rec block a ++ completed_in P (rec ++ take a block) (drop a block) b
  completed-add rec block a b =
      let r₁ = rec ++ take a block in
      let r₂ = r₁ ++ take b (drop a block) in
      let v₀ = P.count rec in
      let v₁ = P.count r₁ in
      let v₂ = P.count r₂ in
      let p : v₀ ≤ v₁ = grows.count-grow rec (take a block) in
      let q : v₁ ≤ v₂ = grows.count-grow r₁ (take b (drop a block)) in
      let e : v₂ - v₀ ≡ (v₁ - v₀) + (v₂ - v₁) = omega arith in
      let f : v₀ + (v₁ - v₀) ≡ v₁ = omega arith in
      let both : rec ++ take (a + b) block ≡ r₂ = ap (λ (l : List X). rec ++ l) (take-add a b block) ∙ sym (append_assoc rec (take a block) (take b (drop a block))) in
      ap (λ (r : List X). P.after r v₀ (P.count r - v₀)) both
      ∙ (ap (P.after r₂ v₀) e ∙ (grows.after-add r₂ v₀ (v₁ - v₀) (v₂ - v₁)
      ∙ ap₂ ◌++◌ (grows.after-grow r₁ (take b (drop a block)) v₀ (v₁ - v₀) (omega arith)) (ap (λ (v : ℕ). P.after r₂ v (v₂ - v₁)) f)))

  pub records-completed : (rec block : List X) (n : ℕ) → records_in P (rec ++ take n block) ≡ records_in P rec ++ completed_in P rec block n
  records-completed rec block n =
      let more = take n block in
      let v = P.count rec in
      let e : v + (P.count (rec ++ more) - v) ≡ P.count (rec ++ more) = omega (arith, grows.count-grow rec more) in
      let none : 0 + v ≡ v = omega arith in
      ap (P.after (rec ++ more) 0) (sym e)
      ∙ (grows.after-add (rec ++ more) 0 v (P.count (rec ++ more) - v)
      ∙ ap₂ ◌++◌ (grows.after-grow rec more 0 v (omega arith)) (ap (λ (i : ℕ). P.after (rec ++ more) i (P.count (rec ++ more) - v)) none))
