-- The first of the numbers that `get_row` read is a byte.
use mathlib.Core.List.{List}
use Prim.Native.Nat.{ℕ}
use Rattle.octets.specs.Bytes.{Bytes}
use Rattle.octets.specs.BytesLaws.{bytes-by}
use Rattle.octets.specs.RowLaws.{numbers_in-fit}
use Rattle.reading.specs.Layout.{record_widths}
use Rattle.records.proofs.get_record.Goals as goal

pub overflow_cast-result : goal.overflow_cast-result
overflow_cast-result c =
    let b : List ℕ = c.args.bytes.now in
    let are : Bytes b = bytes-by b (λ i. (c.type_inv.bytes i).fits) in
    let h = (numbers_in-fit record_widths b are).0 in
    record { fits = rw c.get_row.ensures h }
