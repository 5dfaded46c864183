-- A feed of the samples from a place on, and a chunk's bytes: laws that follow from those of a turn and of samples that are all taken.
use Rattle.std.specs.Prelude.{◌≡◌, Bool, true, false, ◌&&◌, List, ℕ, ◌+◌, ◌-◌, ◌<◌, length, take, drop, ℤ}
use Rattle.std.proofs.Common.{refl, ◌∙◌, ap, arith}
use Rattle.numbers.specs.Notation.{◌≡ᵇ◌}
use Rattle.reading.specs.Told.{Told}
use Rattle.samples.specs.Samples.{samples_of}
use Rattle.greedy.proofs.ProgressLaws.{lent-behind}
use Rattle.greedy.proofs.ChunksLaws.{TurnFrom, turn-from, left_while}
use Rattle.state.specs.declared.State.{State}
use Rattle.state.specs.Step.{machine}
use Rattle.state.specs.Calls.{fed_with}
use Rattle.state.proofs.CallsLaws.{fed_with-within}
use Rattle.logger.specs.declared.Logger.{Logger}
use Rattle.logger.specs.Logger.{fed_to}
use Rattle.event_program.proofs.ChunkLaws.{chunk-falls}
use Rattle.event_log.specs.FedAll.{FedAll}
use Rattle.event_log.specs.FedAllLaws.{left, falls}

-- a feed of the samples from a place on
pub fed-turn-from : (xs : List ℤ) (at : ℕ) (lent : List ℕ) (st : State) {end : State} {told : Told} {out : List ℕ}
    → fed_to end told out ≡ fed_with st (take (length xs - at) (drop at xs)) lent → TurnFrom machine xs at lent st end told
unfolding fed_with
fed-turn-from xs at lent st fed =
    turn-from machine xs at lent st (fed_with-within st (drop at xs) lent) (fed ∙ ap (λ (b : List ℤ). fed_with st b lent) (lent-behind at xs))

abbrev samples_whole : ℕ → ℕ
samples_whole n = n

abbrev left_of : Logger → ℕ
left_of l = left l.state

-- a chunk's bytes
pub bytes-fall : (l : Logger) (bytes : List ℕ) (good : Bool) (got : ℕ) (m : Logger) (why : ℕ) (more : Bool) → length bytes ≡ got
    → FedAll l (samples_of bytes) m why → more ≡ (good && got ≡ᵇ 8192 && why ≡ᵇ 0) → left_while left more m.state < left_while left true l.state
bytes-fall l bytes good got m why more long is more-is = go more refl
  where
    go : (b : Bool) → more ≡ b → left_while left b m.state < left_while left true l.state
    go false e = omega arith
    go true e =
        let less : left m.state < left l.state = chunk-falls FedAll samples_whole left_of falls l m bytes got 8192 4096 why good more long (omega arith) (omega arith) is more-is e in
        omega (arith, less)
