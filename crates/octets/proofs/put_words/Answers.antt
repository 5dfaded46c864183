use Rattle.std.proofs.Common.{◌≡◌, ◌∙◌, ap, arith, ℕ, List, ◌++◌, ◌-◌, ◌+◌, ◌*◌, length, drop, get_or}
use Rattle.octets.specs.Bytes.{bytes_of, row, fours}
use Rattle.octets.specs.BytesLaws.{length-bytes_of}
use Rattle.octets.proofs.Loops.{drop-one, part-more}
use Rattle.octets.proofs.Arrays.{bytes_of-four}
use Rattle.octets.proofs.put_words.Goals as goal

pub loop-k-preserved : goal.loop-k-preserved
loop-k-preserved c =
    let l = c.loop-k in
    let numbers : List ℕ = c.args.numbers.now in
    let at = 4 * l.k in
    let four : List ℕ = c.copy_from_slice.new.self in
    let x = get_or numbers l.k 0 in
    let is : four ≡ bytes_of 4 x = c.copy_from_slice.ensures.after ∙ (c.to_le_bytes.ensures ∙ bytes_of-four x) in
    let n : length four ≡ 4 = ap length is ∙ length-bytes_of 4 x in
    let next : row (fours (drop l.k numbers)) (drop l.k numbers) ≡ four ++ row (fours (drop (l.k + 1) numbers)) (drop (l.k + 1) numbers) =
    rw is (ap (λ (ns : List ℕ). row (fours ns) ns) (drop-one numbers l.k (omega arith))) in
    part-more at l.part _ _ (at + 4 - at) (4 * (l.k + 1)) four (omega arith) (omega arith) (rw next at l.invariant)
