-- Recordings of three channels are a past that grows as one channel's does; and, marks aside, their records are the events that the reading has.
use Rattle.std.specs.Prelude.{◌≡◌, refl, List, ◌++◌, map, ℕ, zero, suc, ◌+◌, ◌<◌, ℤ}
use Rattle.std.proofs.Common.{◌∙◌, ap, ap₂, arith}
use Rattle.std.proofs.lemmas.List.{map-append}
use Rattle.settings.specs.declared.Settings.{Settings}
use Rattle.reading.specs.declared.Record.{Record}
use Rattle.reading_laws.specs.Past.{Past, Grows}
use Rattle.reading_laws.specs.PastLaws.{events-back, grows-by-value}
use Rattle.three_reading.specs.declared.Three.{Three}
use Rattle.three_reading.specs.Three.{joint_count, joint_history, joint_marks}
use Rattle.three_reading.specs.JointRecords.{joint_due, joint_events, joint_records_at}
use Rattle.three_reading.specs.ThreeFeed.{joint_due_after}
use Rattle.three_laws.specs.RecordingsLaws.{joint_count-grow, joint_records_at-grow}

abbrev pub three_past : Settings → Past (Three ℤ)
three_past s = record { count = joint_count s; after = joint_due_after s }

module _ (s : Settings) where
  -- marks aside, the records are the events
  pub joint_records-events : (rec : List (Three ℤ)) (c : ℕ) → map (λ (r : Record). r.event) (joint_due_after s rec 0 c) ≡ joint_events s (joint_history s rec c)
  joint_records-events rec zero = refl
  joint_records-events rec (suc c) =
      let e : 0 + suc c ≡ suc c = omega arith in
      map-append (λ (r : Record). r.event) (joint_due_after s rec 0 c) (joint_records_at s rec (0 + suc c))
      ∙ ap₂ ◌++◌ (joint_records-events rec c)
      (ap (λ (i : ℕ). map (λ (r : Record). r.event) (joint_records_at s rec i)) e ∙ events-back (joint_marks s rec (suc c)) (joint_due s (joint_history s rec (suc c))))

  pub three_past-grows : 0 < s.samples → Grows (three_past s)
  three_past-grows some =
      grows-by-value (three_past s) (joint_records_at s) (λ rec v. refl) (λ rec v c. refl) (λ rec more. joint_count-grow s rec more some)
      (λ rec more. joint_records_at-grow s rec more some)
