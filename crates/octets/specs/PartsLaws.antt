-- Parts of a longer list: what is written into parts one behind the other stands so in the whole.
use Rattle.std.specs.Prelude.{◌≡◌, List, [], ◌++◌, ℕ, ◌+◌, ◌≤◌, length, take, drop}
use Rattle.std.proofs.Common.{ap, ap₂, sym, ◌∙◌, append_assoc, append-nil, arith, length-take, length-drop, drop_of_length-le, take_at, drop_at}
use borrow.Rule.Slice.PartMut.{put_mid}
use Rattle.octets.specs.Bytes.{bytes_of}

-- y in the place of the k elements behind q, as a lent part comes back
pub put_next : (a k : ℕ) (p q r y : List ℕ) → p ≡ q ++ r → length q ≡ a → put_mid a k p y ≡ (q ++ y) ++ drop k r
put_next a k p q r y e l =
    let front : take a p ≡ q = ap (take a) e ∙ take_at q r a l in
    let rest : drop a p ≡ r = ap (drop a) e ∙ drop_at q r a l in
    ap₂ (λ (u v : List ℕ). u ++ (y ++ drop k v)) front rest ∙ sym (append_assoc q y (drop k r))

-- and the last part
pub put_last : (a k : ℕ) (p q r y : List ℕ) → p ≡ q ++ r → length q ≡ a → length r ≤ k → put_mid a k p y ≡ q ++ y
put_last a k p q r y e l h =
    let none : drop k r ≡ [] = drop_of_length-le r {i = k} h in
    put_next a k p q r y e l ∙ (ap (λ (z : List ℕ). (q ++ y) ++ z) none ∙ append-nil (q ++ y))

-- as many bytes of x as a part of k bytes has
pub bytes_of-part : (a k x : ℕ) (p y : List ℕ) → a + k ≤ length p → y ≡ bytes_of (length (take k (drop a p))) x → y ≡ bytes_of k x
bytes_of-part a k x p y h e =
    let l : length (take k (drop a p)) ≡ k = simp (length-take, length-drop) (omega arith) in
    e ∙ ap (λ (n : ℕ). bytes_of n x) l
