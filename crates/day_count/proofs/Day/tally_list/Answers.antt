use Rattle.std.proofs.Common.{◌≡◌, sym, ◌∙◌, ap, arith, Bool, true, false, List, [], ℕ, ◌+◌, ◌/◌, ◌<◌, length, get_or}
use Rattle.std.specs.Simd.{first_chunks}
use Rattle.numbers.specs.Notation.{refuse◌unless◌then◌}
use Rattle.numbers.specs.Answers.{answered}
use Rattle.octets.specs.BytesLaws.{bytes-by}
use Rattle.reading.specs.declared.Event.{Event}
use Rattle.reading.specs.Layout.{record_length}
use Rattle.reading.specs.Records.{event_of, events_of}
use Rattle.records.specs.ListLaws.{record_at, magnitudes-fit}
use Rattle.day_count.specs.Days.{known_kind}
use Rattle.day_count.specs.Count.{tally_of, tallied}
use Rattle.day_count.specs.CountLaws.{TalliedTo, tallied-next, known_next}
use Rattle.day_count.proofs.Chunks.{cut}
use Rattle.day_count.proofs.Day.tally_list.Goals.{After-tally_of-one}
use Rattle.day_count.proofs.Day.tally_list.Goals as goal

-- the event that a turn reads, and whether its kind is known
event-is : (whole : List (List ℕ)) (b : List ℕ) (i : ℕ) {event : Event} → whole ≡ first_chunks record_length (length b / record_length) b → i < length b / record_length
    → event ≡ event_of (get_or whole i []) → event ≡ event_of (record_at b i)
event-is whole b i front h is = is ∙ ap event_of (cut whole b i front h)

known-is : {event told : Event} {known : Bool} → event ≡ told → known ≡ known_kind event.kind → known ≡ known_kind told.kind
known-is is known = known ∙ ap (λ (e : Event). known_kind e.kind) is

-- with what the record adds
after : (c : After-tally_of-one) →
    let a = c.args in
    let loop = c.loop-bytes in
    let one = c.tally_of-one.result in
    TalliedTo a.self.settings a.self.z a.self.day a.records.now (loop.bytes-index + 1) (loop.second + one.second) (loop.first + one.first) true
after c =
    let a = c.args in
    let loop = c.loop-bytes in
    let is = event-is c.as_chunks.result.0.now a.records.now loop.bytes-index c.as_chunks.ensures.front (omega arith) c.get_record-event.ensures in
    tallied-next a.self.settings a.self.z a.self.day a.records.now loop.bytes-index loop.second loop.first true loop.invariant c.tally_of-one.result true
    (omega arith) (c.tally_of-one.ensures ∙ ap (tally_of a.self.settings a.self.z a.self.day) is)
    (known-is is (sym c.if-not-is_known.false ∙ c.is_known.ensures))

pub tally_of-one-requires : goal.tally_of-one-requires
tally_of-one-requires c =
    let b = c.args.records.now in
    let are = bytes-by b (λ k. (c.type_inv.records k).fits) in
    let fit = magnitudes-fit b c.loop-bytes.bytes-index are in
    let is = event-is c.as_chunks.result.0.now b c.loop-bytes.bytes-index c.as_chunks.ensures.front (omega arith) c.get_record-event.ensures in
    (rw is fit.0, rw is fit.1)

pub loop-bytes-preserved : goal.loop-bytes-preserved
loop-bytes-preserved c = after (goal.at.loop-bytes-preserved c).After-tally_of-one

pub returns-then-not-is_known : goal.returns-then-not-is_known
returns-then-not-is_known c =
    let a = c.args in
    let b = a.records.now in
    let i = c.loop-bytes.bytes-index in
    let is = event-is c.as_chunks.result.0.now b i c.as_chunks.ensures.front (omega arith) c.get_record-event.ensures in
    let unknown : false ≡ known_kind (event_of (record_at b i)).kind = known-is is (sym c.if-not-is_known.true ∙ c.is_known.ensures) in
    ap (λ (known : Bool). answered (refuse 17 unless known then 0) (tallied a.self.settings a.self.z a.self.day (events_of b)))
    (known_next b i true false (omega arith) c.loop-bytes.invariant.all_known unknown)
