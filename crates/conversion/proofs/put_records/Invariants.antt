-- The invariant: what is written, with the records that are left written behind it, is all that is to be written, and has room; `one-put` writes one.
use Rattle.std.proofs.Common.{◌≡◌, ◌++◌, ◌+◌, ◌≤◌, length, take, drop}
use Rattle.std.specs.Slice.Iter.{chunks_exact_rest, chunks_exact_size}
use Rattle.reading.specs.Layout.{record_length_with}
use Rattle.reading.specs.Engineer.{over}
use Rattle.conversion.specs.Conversion.{records_as}
use Rattle.conversion.proofs.put_records.Given as goal

abbrev pub invariant-loop-record : goal.invariant-loop-record
invariant-loop-record l =
    let left = records_as l.from.width l.fn.to.width (chunks_exact_rest l.record-iterator) in
    record {
      can : (goal.iterator-loop-record).can_next l.record-iterator;
      ends : (goal.iterator-loop-record).is_finite l.record-iterator;
      size : chunks_exact_size l.record-iterator ≡ record_length_with l.from.width;
      long : length l.output ≡ length l.initial.output;
      room : l.written + length left ≤ length l.output;
      put : take l.written l.output ++ over left (drop l.written l.output) ≡ over (records_as l.from.width l.fn.to.width l.list) l.initial.output;
    }
