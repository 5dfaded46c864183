-- What a turn of this crate's loops does to a list: one element more is read, one element or one part more is written; and what holds when all is written.
use mathlib.Core.Path.{◌≡◌, ap, ap₂, sym, ◌∙◌}
use mathlib.Core.List.{List, [], ◌∷◌, ◌++◌, append_assoc, append-nil}
use Prim.Native.Nat.{ℕ, zero, suc, ◌+◌, ◌≤◌, ◌<◌}
use native.Mathlib.Omega.{arith}
use native.Mathlib.Numerals.{add-one}
use lib.ListN.{length, get_or, take, drop, set, length-append}
use lib.Seq.{drop-cons, drop-drop, take-suc-set, take_all, take_at, length-take-le}
use borrow.Rule.Slice.PartMut.{put_mid, post_of}
use Rattle.octets.specs.Bytes.{number_of, bytes_of, numbers_in, row, total, Narrow}

-- the elements from i on are the one at i and those behind it
pub drop-one : (l : List ℕ) (i : ℕ) → i < length l → drop i l ≡ get_or l i 0 ∷ drop (i + 1) l
drop-one l i h = rw (add-one, drop-cons l i 0)

-- a list p that is written from the front: its first i elements stand, `rest` is to come, and both together are t
module _ (i : ℕ) (p rest t : List ℕ) where
  pub one_more : (x : ℕ) → i < length p → take i p ++ (x ∷ rest) ≡ t → take (i + 1) (set p i x) ++ rest ≡ t
  one_more x h e = rw (add-one i, take-suc-set p i x h, append_assoc) e

  -- y stands in the place of k elements, and the first j are those before it with y
  pub part-more : (k j : ℕ) (y : List ℕ) → i ≤ length p → i + length y ≡ j → take i p ++ (y ++ rest) ≡ t → take j (put_mid i k p y) ++ rest ≡ t
  part-more k j y h s e =
      let post = post_of i k p in
      let n : length (take i p ++ y) ≡ j = length-append (take i p) y ∙ omega (arith, length-take-le i p h) in
      let front : take j (put_mid i k p y) ≡ take i p ++ y = ap (take j) (sym (append_assoc (take i p) y post)) ∙ take_at (take i p ++ y) post j n in
      rw (front, append_assoc) e

-- nothing is to come
pub all-stand : (i : ℕ) (p t : List ℕ) → length p ≤ i → take i p ++ [] ≡ t → p ≡ t
all-stand i p t h e = sym (take_all i p h) ∙ (sym (append-nil (take i p)) ∙ e)

-- the first of the widths from k on, and the row of the numbers from k on
pub total-next : (ws : List ℕ) (k : ℕ) → k < length ws → total (drop k ws) ≡ get_or ws k 0 + total (drop (k + 1) ws)
total-next ws k h = ap total (drop-one ws k h)

pub row_next : (ws ns : List ℕ) (k : ℕ) → k < length ws → k < length ns →
    row (drop k ws) (drop k ns) ≡ bytes_of (get_or ws k 0) (get_or ns k 0) ++ row (drop (k + 1) ws) (drop (k + 1) ns)
row_next ws ns k h l = ap₂ row (drop-one ws k h) (drop-one ns k l)

-- the numbers from place `at` on: the first w bytes there, and what stands behind them
pub numbers-next : (ws b : List ℕ) (k at : ℕ) → k < length ws →
    numbers_in (drop k ws) (drop at b) ≡ number_of (take (get_or ws k 0) (drop at b)) ∷ numbers_in (drop (k + 1) ws) (drop (at + get_or ws k 0) b)
numbers-next ws b k at h =
    ap (λ (l : List ℕ). numbers_in l (drop at b)) (drop-one ws k h)
    ∙ ap (λ (l : List ℕ). number_of (take (get_or ws k 0) (drop at b)) ∷ numbers_in (drop (k + 1) ws) l) (drop-drop (get_or ws k 0) at b)

-- each width is at most 8
pub narrow_at : (ws : List ℕ) → Narrow ws → (k : ℕ) → get_or ws k 0 ≤ 8
narrow_at [] h k = omega arith
narrow_at (w ∷ ws) h zero = h.0
narrow_at (w ∷ ws) h (suc k) = narrow_at ws h.1 k
