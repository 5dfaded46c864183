use Rattle.std.proofs.Common.{◌≡◌, ◌∙◌, ap, sym, arith, ℕ, List, [], ◌∷◌, append-nil, ◌+◌, ◌/◌, ◌<◌, length, take, drop, map, get_or, drop_of_length-le, ℤ, to_z, of_z, w16}
use Rattle.std.proofs.Math.Seq.{drop-cons, take_all}
use Rattle.std.specs.Simd.{first_chunks}
use native.Mathlib.Numerals.{add-one}
use Rattle.std.proofs.lemmas.Int.{to_z-of_z}
use Rattle.samples.proofs.Pairs.{sample_is, byte_in, sample_in, samples_of-pairs, one_more}
use Rattle.samples.proofs.decode.Goals as goal

pub loop-k-preserved : goal.loop-k-preserved
loop-k-preserved c =
    let l = c.loop-k in
    let pairs : List (List ℕ) = c.as_chunks.result.0.now in
    let m = length c.args.bytes.now / 2 in
    let each : (j : ℕ) → get_or c.args.bytes.now j 0 < 256 = λ j. (c.type_inv.bytes j).fits in
    let x : ℤ = to_z w16 (of_z w16 c.from_le_bytes.result) in
    let is : x ≡ sample_in (get_or pairs l.k []) =
    to_z-of_z w16 c.from_le_bytes.result (record { sfits = c.from_le_bytes.type_inv })
    ∙ c.from_le_bytes.ensures
    ∙ sample_is _ _ (rw c.as_chunks.ensures.front (byte_in m l.k 0 c.args.bytes.now each)) (rw c.as_chunks.ensures.front (byte_in m l.k 1 c.args.bytes.now each)) in
    let next : map sample_in (drop l.k pairs) ≡ x ∷ map sample_in (drop (l.k + 1) pairs) = rw (is, add-one, drop-cons pairs l.k [] (omega arith)) in
    one_more l.k l.places _ _ x (omega arith) (rw next at l.invariant)

pub returns : goal.returns
returns c =
    let l = c.loop-k in
    let pairs : List (List ℕ) = c.as_chunks.result.0.now in
    let none : drop l.k pairs ≡ [] = drop_of_length-le _ {i = l.k} (omega arith) in
    let m : length c.args.bytes.now / 2 ≡ length c.args.places.now = omega arith in
    sym (take_all l.k l.places (omega arith))
    ∙ sym (append-nil (take l.k l.places))
    ∙ (rw none at l.invariant)
    ∙ ap (map sample_in) (c.as_chunks.ensures.front ∙ ap (λ (n : ℕ). first_chunks 2 n c.args.bytes.now) m)
    ∙ sym (samples_of-pairs (length c.args.places.now) c.args.bytes.now (omega arith))
