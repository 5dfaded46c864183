use Rattle.std.proofs.Common.{◌≡◌, arith, ℕ, List, ◌∷◌, ◌+◌, drop}
use Rattle.octets.specs.Bytes.{numbers_in}
use Rattle.octets.proofs.Loops.{drop-one, one_more, total-next, narrow_at}
use Rattle.octets.proofs.get_row.Goals as goal

pub number-requires : goal.number-requires
number-requires c = omega (arith, narrow_at c.args.widths.now c.requires.2 c.loop-k.k)

pub loop-k-preserved : goal.loop-k-preserved
loop-k-preserved c =
    let l = c.loop-k in
    let widths : List ℕ = c.args.widths.now in
    let total-is = total-next widths l.k (omega arith) in
    let next : numbers_in (drop l.k widths) l.rest.now ≡ c.number.result ∷ numbers_in (drop (l.k + 1) widths) c.split_at.result.1.now =
    rw (drop-one widths l.k (omega arith), c.number.ensures, c.split_at.ensures.front, c.split_at.ensures.back, c.from.ensures) in
    (omega arith, one_more l.k l.numbers _ _ c.number.result (omega arith) (rw next at l.invariant.1))
