-- The chunks that code cuts records into are the records of the list.
use Rattle.std.proofs.Common.{◌≡◌, sym, ◌∙◌, ap, arith, List, [], ℕ, zero, suc, ◌+◌, ◌*◌, ◌/◌, ◌<◌, length, take, drop, get_or, drop-drop}
use Rattle.std.specs.Simd.{first_chunks}
use Rattle.reading.specs.Layout.{record_length}
use Rattle.records.specs.ListLaws.{record_at, record_is}

chunk-at : (n m i : ℕ) (b : List ℕ) → i < m → get_or (first_chunks n m b) i [] ≡ take n (drop (n * i) b)
chunk-at n zero i b h = absurd (omega arith)
chunk-at n (suc m) zero b h = let none : n * 0 ≡ 0 = omega arith in rw none
chunk-at n (suc m) (suc i) b h =
    let place : n + n * i ≡ n * suc i = omega arith in
    chunk-at n m i (drop n b) (omega arith) ∙ ap (take n) (drop-drop (n * i) n b ∙ ap (λ (k : ℕ). drop k b) place)

pub cut : (whole : List (List ℕ)) (b : List ℕ) (i : ℕ) → whole ≡ first_chunks record_length (length b / record_length) b → i < length b / record_length
    → get_or whole i [] ≡ record_at b i
cut whole b i is h = rw is (chunk-at record_length (length b / record_length) i b h) ∙ sym (record_is b i)
