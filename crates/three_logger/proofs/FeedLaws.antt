-- Feed's ways out, over plain variables: a block that is refused and one that is fed; and what it takes is within the block.
use Rattle.std.proofs.Common.{if◌then◌else◌, ◌≡◌, ◌≢◌, Bool, List, ℕ, ◌*◌, ◌%◌, ◌≤◌, length, ℤ, sym, ◌∙◌, ap, arith, eq-eqb, ne_eqb}
use Rattle.numbers.specs.Answers.Answered.{accepted, refused}
use Rattle.reading.specs.Calls.{Outcome}
use Rattle.three_reading.specs.Three.{triples_of}
use Rattle.three_laws.specs.TriplesLaws.{length-triples}
use Rattle.three_state.specs.declared.ThreeState.{ThreeState}
use Rattle.three_state.specs.ThreeFed.{three_fed_with}
use Rattle.three_state.proofs.ThreeFedLaws.{three_fed_with-within}
use Rattle.three_logger.specs.Logger.{three_fed_to, in_samples, three_fed_by, three_fed}

module _ (st : ThreeState) (block : List ℤ) (lent : List ℕ) where
  pub feed-refused : length block % 3 ≢ 0 → three_fed_to st (refused 14) lent ≡ three_fed st block lent
  unfolding three_fed
  feed-refused h = sym (ap (λ (b : Bool). three_fed_by (if b then 0 else 14) st block lent) (ne_eqb (length block % 3) 0 h))

  pub feed-fed : length block % 3 ≡ 0 → (o : Outcome ThreeState) → o ≡ three_fed_with st (triples_of block) lent
      → three_fed_to o.after (accepted (in_samples o.told)) o.bytes ≡ three_fed st block lent
  unfolding three_fed
  feed-fed h o e =
      (λ i. three_fed_to (e i).after (accepted (in_samples (e i).told)) (e i).bytes)
      ∙ sym (ap (λ (b : Bool). three_fed_by (if b then 0 else 14) st block lent) (eq-eqb (length block % 3) 0 h))

  pub taken-within : (o : Outcome ThreeState) → o ≡ three_fed_with st (triples_of block) lent → 3 * o.told.taken ≤ length block
  taken-within o e =
      let taken_is : o.told.taken ≡ (three_fed_with st (triples_of block) lent).told.taken = ap (λ (z : Outcome ThreeState). z.told.taken) e in
      omega (arith, taken_is, (three_fed_with-within st (triples_of block) lent).most, length-triples block)
