-- The invariant: the records in the places passed stand at the front of the buffer, one behind the other.
use Rattle.std.proofs.Common.{◌≡◌, ◌*◌, length, take}
use Rattle.reading.specs.Records.{record_bytes}
use Rattle.reading.specs.Engineer.{over}
use Rattle.reading.specs.Layout.{record_length}
use Rattle.records.specs.Due.{records_in}
use Rattle.records.proofs.Due.put.Given as goal

abbrev pub invariant-loop-place : goal.invariant-loop-place
invariant-loop-place l =
    let rs = records_in (take l.place-index l.place-items) in
    (l.at ≡ record_length * length rs) × (l.buffer ≡ over (record_bytes rs) l.initial.buffer)
