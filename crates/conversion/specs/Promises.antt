-- 02, N7: what the converter promises beyond the equations of its calls. `from` and `to` are the widths of two editions' counts: a promise over them holds of
-- both ways.
use Rattle.std.specs.Prelude.{◌≡◌, true, List, map, ℕ, ◌^◌, ◌≤◌, ◌<◌, length, get_or, ℤ}
use Rattle.octets.specs.Bytes.{Bytes}
use Rattle.numbers.specs.Answers.Answered.{accepted}
use Rattle.settings.specs.declared.Settings.{Settings}
use Rattle.settings.specs.Settings.{ValidSettings}
use Rattle.reading.specs.declared.Record.{Record}
use Rattle.reading.specs.Layout.{count_width, earlier_width, image_length_with}
use Rattle.reading.specs.Values.{Samples, value_count}
use Rattle.reading.specs.Feed.{last_value}
use Rattle.reading.specs.Records.{record_numbers, record_bytes_with}
use Rattle.reading.specs.Image.{image_with}
use Rattle.reading.specs.Restore.{values_in, restore_refusal, restore_refusal_with}
use Rattle.reading.specs.Engineer.{over}
use Rattle.records.specs.ListLaws.{RecordsFitWith}
use Rattle.state.specs.declared.State.{State}
use Rattle.image.specs.Image.{state_at_with, state_at, restored_by}
use Rattle.conversion.specs.Conversion.{converted_to, good_row, all_rows, records_as, records_refusal, records_converted, image_as, image_refusal, image_converted}

pub record Promises : Type 0 where
  -- there and back is the same bytes: what one way gives, the other takes, and gives what was there
  pub records-there-and-back : (from to : ℕ) (b lent out : List ℕ) → Bytes b → records_refusal from to b lent ≡ 0 → length b ≤ length out
      → records_converted to from (records_as from to b) out ≡ converted_to 0 (over b out)
  pub image-there-and-back : (from to : ℕ) (b lent out : List ℕ) → Bytes b → image_refusal from to b lent ≡ 0 → length b ≤ length out
      → image_converted to from (image_as from to b) out ≡ converted_to 0 (over b out)
  -- a converted image restores to the logger with the same numbers, whichever logger takes it
  pub same-logger : (b lent : List ℕ) (old : State) → Bytes b → image_refusal earlier_width count_width b lent ≡ 0
      → restored_by old (image_as earlier_width count_width b) ≡ record { after = state_at_with earlier_width b; answer = accepted tt }
  -- and going back, the earlier edition's restore accepts it, with the same numbers
  pub same-logger-back : (b lent : List ℕ) → Bytes b → image_refusal count_width earlier_width b lent ≡ 0
      → let back = image_as count_width earlier_width b in (restore_refusal_with earlier_width back ≡ 0) × (state_at_with earlier_width back ≡ state_at b)
  -- going forth no number is too wide
  pub forth-not-18 : (b lent : List ℕ) → Bytes b → (records_refusal earlier_width count_width b lent ≡ 18 → ⊥) × (image_refusal earlier_width count_width b lent ≡ 18 → ⊥)
  -- of an image that restore accepts, going back 18 is told exactly where V is above 4,294,967,295
  pub only-V : (b lent : List ℕ) → Bytes b → restore_refusal b ≡ 0
      → (image_refusal count_width earlier_width b lent ≡ 18 → 4294967295 < get_or (values_in b) 0 0) × (4294967295 < get_or (values_in b) 0 0 → image_refusal count_width earlier_width b lent ≡ 18)
  -- the image of a recording in one edition, where both widths hold V, is accepted and becomes its image in the other
  pub of-recording : (from to : ℕ) (s : Settings) (rec : List ℤ) (lent : List ℕ) → ValidSettings s → Samples rec → value_count s rec ≤ last_value
      → value_count s rec < 256 ^ from → value_count s rec < 256 ^ to → image_length_with to ≤ length lent
      → image_converted from to (image_with from s rec) lent ≡ converted_to 0 (over (image_with to s rec) lent)
  -- so are good records that fit both widths, and become the same records
  pub of-records : (from to : ℕ) (rs : List Record) (lent : List ℕ) → all_rows good_row (map record_numbers rs) ≡ true → RecordsFitWith from rs → RecordsFitWith to rs
      → length (record_bytes_with to rs) ≤ length lent → records_converted from to (record_bytes_with from rs) lent ≡ converted_to 0 (over (record_bytes_with to rs) lent)
