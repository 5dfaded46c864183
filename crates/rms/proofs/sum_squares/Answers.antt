-- The rows of eight and the rest together are the samples (`joined-chunks`).
use Rattle.std.proofs.Common.{◌≡◌, ℕ, ◌*◌, ◌/◌, ◌<◌, ◌++◌, List, ℤ, length, get_or, take, drop, pos, ap, ◌∙◌, arith, length-append, length-take-le, take_all, w16, SFits, to_z, of_z}
use Rattle.std.specs.Simd.{first_chunks}
use Rattle.rms.specs.declared.Part.{Part}
use Rattle.rms.specs.declared.Squared.{Squared}
use Rattle.rms.specs.Gather.{squared_of, joined, part_of}
use mir.ValLaws.{to_z-of_z}
use Rattle.rms.proofs.Passed.{part-next, joined-chunks}
use Rattle.rms.proofs.sum_squares.Goals as goal

-- a sample's square and mark, as it is read from a slice
squared-is : {r : Squared} (z : ℤ) → SFits w16 z → r ≡ squared_of (to_z w16 (of_z w16 z)) → r ≡ squared_of z
squared-is z h e = e ∙ ap squared_of (to_z-of_z w16 z h)

abbrev front : List ℤ → List ℤ
front xs = joined (first_chunks 8 (length xs / 8) xs)

all : {xs rest : List ℤ} → rest ≡ drop (length xs / 8 * 8) xs → front xs ++ rest ≡ xs
all {xs} e = ap (λ (ys : List ℤ). front xs ++ ys) e ∙ joined-chunks 8 (length xs / 8) xs

-- the samples passed are no more than all
passed-most : (xs rest : List ℤ) (i : ℕ) {p : Part} → front xs ++ rest ≡ xs → i < length rest → p ≡ part_of (front xs ++ take i rest) → p.count < length xs
passed-most xs rest i e h p-is =
    let count = ap (λ (p : Part). p.count) p-is in
    let all = ap (λ (ys : List ℤ). length ys) e in
    omega (arith, count, all, length-append (front xs) (take i rest), length-append (front xs) rest, length-take-le i rest)

pub overflow_add-part : goal.overflow_add-part
overflow_add-part c =
    let l = c.loop-sample in
    let most = passed-most c.args.samples.now c.as_chunks.result.1.now l.sample-index (all c.as_chunks.ensures.back) c.loop-sample-test.true l.invariant.0 in
    record { fits = omega arith }

pub loop-sample-preserved : goal.loop-sample-preserved
loop-sample-preserved c =
    let l = c.loop-sample in
    let xs = c.args.samples.now in
    let one = squared-is (get_or c.as_chunks.result.1.now l.sample-index (pos 0)) (record { sfits = omega arith }) c.square-one.ensures.0 in
    rw c.from.ensures (part-next (front xs) c.as_chunks.result.1.now l.sample-index (omega arith) l.invariant.0 one, omega arith)

pub returns : goal.returns
returns c =
    let l = c.loop-sample in
    let xs = c.args.samples.now in
    let rest = c.as_chunks.result.1.now in
    let last : take l.sample-index rest ≡ rest = take_all l.sample-index rest (omega arith) in
    (l.invariant.0 ∙ ap (λ (ys : List ℤ). part_of (front xs ++ ys)) last ∙ ap part_of (all c.as_chunks.ensures.back), l.invariant.1)
