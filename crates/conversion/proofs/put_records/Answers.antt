use Rattle.std.proofs.Common.{◌∙◌, ap₂, arith, rules, List, ℕ}
use Rattle.std.specs.Slice.Iter.{chunks_exact_rest}
use Rattle.octets.specs.Bytes.{row}
use Rattle.conversion.proofs.RowsLaws.{length_cut, one-put, all-put}
use Rattle.conversion.proofs.put_records.Goals as goal

pub slice_bounds-put_row-end : goal.slice_bounds-put_row-end
slice_bounds-put_row-end c =
    let i = c.loop-record.invariant in
    let steps = c.in-Some.ensures.steps in
    omega (arith, i.room, length_cut c.args.from.width _ _ _ steps.1.0 (steps.1.1 ∙ i.size) c.args.to.width)

pub loop-record-preserved : goal.loop-record-preserved
loop-record-preserved c =
    let l = c.loop-record in
    let i = l.invariant in
    let steps = c.in-Some.ensures.steps in
    let from = c.args.from.width in
    let to = c.args.to.width in
    let long = steps.1.1 ∙ i.size in
    let next = length_cut from _ _ _ steps.1.0 long to in
    let bytes : List ℕ = c.put_row.new.part in
    record {
      can = search rules;
      ends = search rules;
      size = steps.0 ∙ i.size;
      long = search rules;
      room = omega (arith, i.room, next);
      put =
          one-put from _ _ _ steps.1.0 long to _ l.written l.output _ bytes c.record_length-other_length.ensures.0 i.put (omega (arith, i.room, next))
          (c.put_row.ensures ∙ ap₂ row c.record_widths-others.ensures c.read.ensures);
    }

pub returns : goal.returns
returns c =
    let l = c.loop-record in
    all-put c.args.from.width c.args.to.width (chunks_exact_rest l.record-iterator) l.written l.output _
    (omega (arith, c.in-None.ensures.steps.1.0, l.invariant.size)) l.invariant.put
