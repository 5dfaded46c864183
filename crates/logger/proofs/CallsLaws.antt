-- What restore's answer tells of the bytes: accepted, they give the logger after it; refused, 01's number for them, which is not 0.
use Rattle.std.specs.Prelude.{◌≡◌, refl, List, ℕ, zero, suc, ◌<◌}
use Rattle.std.proofs.Math.Path.{sym, ap}
use Rattle.std.proofs.Common.{◌∙◌}
use Rattle.numbers.specs.Answers.{answered}
use Rattle.numbers.specs.Answers.Answered.{accepted, refused}
use Rattle.numbers.specs.AnswersLaws.{accepted-is, refused-is}
use Rattle.reading.specs.Restore.{restore_refusal}
use Rattle.state.specs.declared.State.{State}
use Rattle.image.specs.Image.{state_at, restored_from, restored_by}
use Rattle.logger.specs.Calls.{logger_calls}

answer-is : (r : ℕ) (old new : State) → (restored_from r old new).answer ≡ answered r tt
answer-is zero old new = refl
answer-is (suc r) old new = refl

module _ (old : State) (b : List ℕ) where
  told : answered (restore_refusal b) tt ≡ (logger_calls.restore old b).answer
  unfolding restored_by
  told = sym (answer-is (restore_refusal b) old (state_at b))

  pub restore-accepted : (logger_calls.restore old b).answer ≡ accepted tt → (restore_refusal b ≡ 0) × ((logger_calls.restore old b).after ≡ state_at b)
  unfolding restored_by
  restore-accepted e =
      let none = (accepted-is (restore_refusal b) tt tt (told ∙ e)).0 in
      (none, ap (λ (r : ℕ). (restored_from r old (state_at b)).after) none)

  pub restore-refused : (n : ℕ) → (logger_calls.restore old b).answer ≡ refused n → (restore_refusal b ≡ n) × (0 < n)
  restore-refused n e = refused-is (restore_refusal b) n tt (told ∙ e)
