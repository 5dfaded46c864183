-- A line more, behind those before it.
use Rattle.std.proofs.Common.{sym, ◌∙◌, ◌++◌, ◌≡◌, ℕ, ◌-◌, ◌*◌, length, take, drop, ap, arith, rules, append-nil, length-drop, length-take-le}
use Rattle.std.proofs.lemmas.List.{length_push}
use Rattle.reading.specs.Layout.{record_length}
use Rattle.event_lines.specs.Text.{lines_of}
use Rattle.event_lines.specs.TextLaws.{record-inside, records-behind, line-next}
use Rattle.event_lines.proofs.put_lines.Goals as goal

pub loop-record-init : goal.loop-record-init
loop-record-init g c = record {
  can = search rules;
  ends = search rules;
  size = search rules;
  rest = search rules;
  few = omega arith;
  text = sym (append-nil _);
  room = omega arith;
}

pub put_line-requires : goal.put_line-requires
put_line-requires g c =
    let i = c.loop-record.invariant in
    let steps = c.in-Some.ensures.steps in
    let inside = record-inside c.args.records.now c.args.count (length c.loop-record.yielded) c.requires.0 _ _ (sym i.rest ∙ steps.1.0) (steps.1.1 ∙ i.size) in
    (search rules, omega (arith, inside, i.room, c.requires.1))

pub loop-record-preserved : goal.loop-record-preserved
loop-record-preserved g c =
    let records = c.args.records.now in
    let n = length c.loop-record.yielded in
    let i = c.loop-record.invariant in
    let steps = c.in-Some.ensures.steps in
    let are = sym i.rest ∙ steps.1.0 in
    let long = steps.1.1 ∙ i.size in
    let more = length_push c.loop-record.yielded c.in-Some.record in
    record {
      can = search rules;
      ends = search rules;
      size = steps.0 ∙ i.size;
      rest =
          records-behind records c.args.count n c.requires.0 _ _ are long
          ∙ ap (λ (m : ℕ). take (record_length * (c.args.count - m)) (drop (record_length * m) records)) (sym more);
      few = omega (arith, more, record-inside records c.args.count n c.requires.0 _ _ are long);
      text =
          line-next records c.args.count n c.requires.0 _ _ are long c.args.text.now.bytes _ _ _ i.text c.get_record.ensures c.put_line.ensures.text
          ∙ ap (λ (m : ℕ). c.args.text.now.bytes ++ lines_of m records) (sym more);
      room = omega (arith, more, i.room, c.put_line.ensures.upper_bound);
    }

pub returns : goal.returns
returns g c =
    let i = c.loop-record.invariant in
    let n = length c.loop-record.yielded in
    let none = c.in-None.ensures.steps.1.0 in
    let whole =
    length-take-le (record_length * (c.args.count - n)) (drop (record_length * n) c.args.records.now)
    (omega (arith, i.few, c.requires.0, length-drop (record_length * n) c.args.records.now))
    in
    let all : n ≡ c.args.count = omega (arith, none, whole, i.few, i.size, ap length i.rest) in
    i.text ∙ ap (λ (m : ℕ). c.args.text.now.bytes ++ lines_of m c.args.records.now) all
