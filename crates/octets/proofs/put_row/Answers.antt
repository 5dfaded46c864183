use Rattle.std.proofs.Common.{rules, ◌≡◌, ◌∙◌, ap, arith, ℕ, List, ◌∷◌, [], ◌++◌, ◌-◌, ◌+◌, length, drop, get_or, length-append}
use Rattle.std.proofs.lemmas.Slice.Zip.{zip_turn}
use native.Mathlib.Nat.{add-sub_cancel_left}
use Rattle.octets.specs.Bytes.{bytes_of, row}
use Rattle.octets.specs.BytesLaws.{length-bytes_of}
use Rattle.octets.specs.PartsLaws.{bytes_of-part}
use Rattle.octets.proofs.Loops.{total-next, row_next, part-more}
use Rattle.octets.proofs.put_row.Goals as goal

pub loop-width-preserved : goal.loop-width-preserved
loop-width-preserved c =
    let l = c.loop-width in
    let widths : List ℕ = c.args.widths.now in
    let numbers : List ℕ = c.args.numbers.now in
    let k = length l.yielded in
    let left : c.into_iter-width-iterator.result.a.rest.now ≡ widths = search rules in
    let right : c.into_iter-width-iterator.result.b.rest.now ≡ numbers = search rules in
    let turn = zip_turn widths numbers l.yielded c.into_iter-width-iterator.result l.width-iterator c.next.new.self c.next.result left right l.yielded_by (c.in-Some.width, c.in-Some.number) c.in-Some.is c.next.ensures.steps in
    let w = get_or widths k 0 in
    let x = get_or numbers k 0 in
    let put = c.put_number in
    let bytes : List ℕ = put.new.part in
    let rest : List ℕ = row (drop (k + 1) widths) (drop (k + 1) numbers) in
    let total-is = total-next widths k turn.0 in
    let part-is : bytes ≡ bytes_of c.from.result c.in-Some.number.now = bytes_of-part l.at (l.at + c.from.result - l.at) c.in-Some.number.now l.part bytes (omega arith) put.ensures ∙ rw (add-sub_cancel_left l.at c.from.result) in
    let bytes-are : bytes ≡ bytes_of w x = part-is ∙ rw (c.from.ensures, turn.2 0, turn.3 0) in
    let long : length bytes ≡ w = ap length bytes-are ∙ length-bytes_of w x in
    let next : row (drop k widths) (drop k numbers) ≡ bytes ++ rest = rw bytes-are (row_next widths numbers k turn.0 turn.1) in
    let one_more : length (l.yielded ++ (c.in-Some.width, c.in-Some.number) ∷ []) ≡ k + 1 = length-append l.yielded _ in
    rw one_more (omega (arith, turn.2 0, c.from.ensures), part-more l.at l.part rest _ (l.at + c.from.result - l.at) (l.at + c.from.result) bytes (omega arith) (omega arith) (rw next at l.invariant.1))
