-- The samples of the even bytes are those of all, since a last odd byte is none.
use Rattle.std.proofs.Common.{◌≡◌, ◌/◌, ◌*◌, List, ℕ, length, take, ap, sym, ◌∙◌, arith, length-take-le}
use Rattle.std.proofs.lemmas.List.{take-take}
use lib.Seq.{take_all}
use Rattle.samples.specs.Samples.{samples_of}
use Rattle.samples.specs.SamplesLaws.{length-samples, samples_of-take}
use Rattle.call_items.proofs.Item.samples.Goals as goal

pub returns : goal.returns
returns c =
    let n = c.args.self.length in
    let room = c.args.room.now in
    let b : List ℕ = take n room in
    let long : length b ≡ n = length-take-le n room (omega arith) in
    c.decode.ensures
    ∙ ap (λ (k : ℕ). samples_of (take (2 * (k / 2)) room)) c.from-count.ensures
    ∙ ap samples_of (sym (take-take (2 * (n / 2)) n room (omega arith)))
    ∙ samples_of-take (n / 2) b (omega (arith, long))
    ∙ take_all (n / 2) (samples_of b) (omega (arith, length-samples b, long))
