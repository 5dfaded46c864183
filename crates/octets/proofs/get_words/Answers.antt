use Rattle.std.proofs.Common.{◌≡◌, ◌∙◌, ap, sym, arith, ℕ, List, [], ◌∷◌, ◌+◌, ◌/◌, drop, map, length, get_or, drop_of_length-le}
use Rattle.std.specs.Simd.{first_chunks}
use Rattle.std.proofs.Math.Seq.{drop-cons}
use native.Mathlib.Numerals.{add-one}
use Rattle.octets.specs.Bytes.{number_of}
use Rattle.octets.proofs.Loops.{one_more, all-stand}
use Rattle.octets.proofs.Arrays.{number_of-four, numbers_in-fours, length-chunk}
use Rattle.octets.proofs.get_words.Goals as goal

pub loop-k-preserved : goal.loop-k-preserved
loop-k-preserved c =
    let l = c.loop-k in
    let words : List (List ℕ) = c.as_chunks.result.0.now in
    let m = length c.args.bytes.now / 4 in
    let four : length (get_or words l.k []) ≡ 4 = rw c.as_chunks.ensures.front (length-chunk m l.k c.args.bytes.now (omega arith) (omega arith)) in
    let is : c.from_le_bytes.result ≡ number_of (get_or words l.k []) = c.from_le_bytes.ensures ∙ number_of-four (get_or words l.k []) four in
    let next : map number_of (drop l.k words) ≡ c.from_le_bytes.result ∷ map number_of (drop (l.k + 1) words) = rw (is, add-one, drop-cons words l.k [] (omega arith)) in
    one_more l.k l.places _ _ c.from_le_bytes.result (omega arith) (rw next at l.invariant)

pub returns : goal.returns
returns c =
    let l = c.loop-k in
    let words : List (List ℕ) = c.as_chunks.result.0.now in
    let none : drop l.k words ≡ [] = drop_of_length-le _ {i = l.k} (omega arith) in
    let m : length c.args.bytes.now / 4 ≡ length c.args.places.now = omega arith in
    all-stand l.k l.places (map number_of words) (omega arith) (rw none at l.invariant)
    ∙ ap (map number_of) (c.as_chunks.ensures.front ∙ ap (λ (n : ℕ). first_chunks 4 n c.args.bytes.now) m)
    ∙ sym (numbers_in-fours c.args.places.now c.args.bytes.now)
