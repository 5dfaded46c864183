-- Recordings of three channels: V, values and marks of each channel are its own, and a longer recording leaves them as they were.
use Rattle.std.specs.Prelude.{◌≡◌, refl, List, ◌∷◌, ◌++◌, map, ℕ, zero, suc, ◌/◌, ◌-◌, ◌≤◌, ◌<◌, length, ℤ}
use Rattle.std.proofs.Common.{sym, ◌∙◌, ap, ap₂, arith}
use Rattle.settings.specs.declared.Settings.{Settings}
use Rattle.numbers.specs.Notation.{flag}
use Rattle.reading.specs.Values.{value, value_count, history}
use Rattle.reading.specs.Clipping.{value_clipped, record_of}
use Rattle.reading_laws.specs.RecordingsLaws.{value_count-grow, value-grow, value_clipped-grow}
use Rattle.reading_laws.specs.MarksLaws.{marks_by}
use Rattle.three_reading.specs.declared.Three.{Three}
use Rattle.three_reading.specs.Three.{each, any_of, Channel, at, channel, channels, joint_count, joint_value, joint_history, joint_clipped, joint_marks}
use Rattle.three_reading.specs.Three.Channel.{on_a}
use Rattle.three_reading.specs.JointRecords.{joint_due, joint_records_at}
use Rattle.three_laws.specs.ChannelLaws.{three-same, at-each-channel, length-channel, channel-append}

module _ (s : Settings) (rec : List (Three ℤ)) where
  -- V is the same of each channel
  pub count-channel : (c : Channel) → value_count s (channel c rec) ≡ joint_count s rec
  count-channel c = ap (λ (n : ℕ). n / s.samples - 1) (length-channel c rec ∙ sym (length-channel on_a rec))

  pub length-joint_history : (i : ℕ) → length (joint_history s rec i) ≡ i
  length-joint_history zero = refl
  length-joint_history (suc i) = ap suc (length-joint_history i)

  pub length-joint_marks : (i : ℕ) → length (joint_marks s rec i) ≡ i
  length-joint_marks zero = refl
  length-joint_marks (suc i) = ap suc (length-joint_marks i)

  pub joint_marks-by : (i : ℕ) → joint_marks s rec i ≡ marks_by (joint_clipped s rec) i
  joint_marks-by zero = refl
  joint_marks-by (suc i) = ap (λ (ms : List ℕ). flag (joint_clipped s rec (suc i)) ∷ ms) (joint_marks-by i)

  -- a channel's values are those of its own recording
  pub channel-value : (c : Channel) (i : ℕ) → at c (joint_value s rec i) ≡ value s (channel c rec) i
  channel-value c i = at-each-channel c (λ (own : List ℤ). value s own i) rec

  pub channel-history : (c : Channel) (i : ℕ) → channel c (joint_history s rec i) ≡ history s (channel c rec) i
  channel-history c zero = refl
  channel-history c (suc i) = ap₂ ◌∷◌ (channel-value c (suc i)) (channel-history c i)

  -- a recording that grows
  module _ (more : List (Three ℤ)) where
    -- what any channel's longer recording leaves as it was stays as it was of the three
    each-grow : {X : Type 0} (f : List ℤ → X) → ((c : Channel) → f (channel c rec ++ channel c more) ≡ f (channel c rec))
        → each f (channels (rec ++ more)) ≡ each f (channels rec)
    each-grow f stays =
        three-same (λ c. at-each-channel c f (rec ++ more) ∙ (ap f (channel-append c rec more) ∙ (stays c ∙ sym (at-each-channel c f rec))))

    module _ (some : 0 < s.samples) where
      pub joint_count-grow : joint_count s rec ≤ joint_count s (rec ++ more)
      joint_count-grow = rw (channel-append on_a rec more) (value_count-grow s (channel on_a rec) (channel on_a more) some)

      module _ (i : ℕ) (p : 1 ≤ i) (q : i ≤ joint_count s rec) where
        there : (c : Channel) → i ≤ value_count s (channel c rec)
        there c = omega (arith, count-channel c)

        pub joint_value-grow : joint_value s (rec ++ more) i ≡ joint_value s rec i
        joint_value-grow = each-grow (λ (own : List ℤ). value s own i) (λ c. value-grow s (channel c rec) (channel c more) some i p (there c))

        pub joint_clipped-grow : joint_clipped s (rec ++ more) i ≡ joint_clipped s rec i
        joint_clipped-grow =
            ap any_of (each-grow (λ (own : List ℤ). value_clipped s own i) (λ c. value_clipped-grow s (channel c rec) (channel c more) some i p (there c)))

      pub joint_history-grow : (i : ℕ) → i ≤ joint_count s rec → joint_history s (rec ++ more) i ≡ joint_history s rec i
      joint_history-grow zero q = refl
      joint_history-grow (suc i) q = ap₂ ◌∷◌ (joint_value-grow (suc i) (omega arith) q) (joint_history-grow i (omega arith))

      pub joint_marks-grow : (i : ℕ) → i ≤ joint_count s rec → joint_marks s (rec ++ more) i ≡ joint_marks s rec i
      joint_marks-grow zero q = refl
      joint_marks-grow (suc i) q = ap₂ ◌∷◌ (ap flag (joint_clipped-grow (suc i) (omega arith) q)) (joint_marks-grow i (omega arith))

      pub joint_records_at-grow : (i : ℕ) → i ≤ joint_count s rec → joint_records_at s (rec ++ more) i ≡ joint_records_at s rec i
      joint_records_at-grow i q = λ j. map (record_of (joint_marks-grow i q j)) (joint_due s (joint_history-grow i q j))
