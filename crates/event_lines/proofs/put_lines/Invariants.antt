-- The records that are left are those behind the ones whose lines are put, of 97 bytes each at most.
use Rattle.std.proofs.Common.{◌≡◌, ◌++◌, ◌+◌, ◌-◌, ◌*◌, ◌≤◌, length, take, drop}
use Rattle.std.specs.Slice.Iter.{chunks_exact_rest, chunks_exact_size}
use Rattle.arrayvec.specs.ArrayString.{array_string_len}
use Rattle.reading.specs.Layout.{record_length}
use Rattle.event_lines.specs.Text.{lines_of}
use Rattle.event_lines.proofs.put_lines.Given as goal

abbrev pub invariant-loop-record : goal.invariant-loop-record
invariant-loop-record g l = let n = length l.yielded in record {
  can : (goal.iterator-loop-record g).can_next l.record-iterator;
  ends : (goal.iterator-loop-record g).is_finite l.record-iterator;
  size : chunks_exact_size l.record-iterator ≡ record_length;
  rest : chunks_exact_rest l.record-iterator ≡ take (record_length * (l.count - n)) (drop (record_length * n) l.records);
  few : n ≤ l.count;
  text : l.text.bytes ≡ l.initial.text.bytes ++ lines_of n l.records;
  room : array_string_len l.text ≤ array_string_len l.initial.text + 97 * n;
}
