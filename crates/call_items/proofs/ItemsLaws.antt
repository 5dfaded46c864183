-- The ways out of `next_item`; a buffer that is set byte by byte; and a digit of each kind: laws that `NextItem`, `set` and `digit_of` have.
use Rattle.std.specs.Prelude.{◌≡◌, refl, Bool, false, MatchBool, List, [], ◌++◌, ℕ, ◌+◌, ◌-◌, ◌≤◌, ◌<◌, length, take, drop, set, replicate, Option, Some, None}
use Rattle.std.proofs.Common.{sym, ◌∙◌, ap, ap₂, append-nil, arith, drop_of_length-le, length-take-le, lt-ltb, le-ltb}
use Rattle.std.proofs.lemmas.List.{length-replicate, replicate-append-replicate}
use Rattle.call_items.specs.declared.Item.{Item}
use Rattle.call_items.specs.Items.{item_of, NextItem, digit_of}
use Rattle.call_items.proofs.Hex.{set_next}

-- the input ends in the head
pub no-head : {before : List ℕ} {item : Option Item} → item ≡ None → NextItem before item before
no-head none =
    record { head = replicate 6 0; following = []; whole = false; head-long = refl; following-long = omega arith; item-is = none; bytes-are = refl }

-- so many bytes are read behind the head, or some of them
pub item-read : (before head following : List ℕ) (k : ℕ) (whole : Bool) {item : Option Item} → length head ≡ 6
    → length following ≡ length (take k before) → k ≤ length before → k ≤ 65535
    → (length following ≡ k → MatchBool whole ((item ≡ Some (item_of head)) × (length following ≡ (item_of head).length)) (item ≡ None))
    → NextItem before item (following ++ drop k before)
item-read before head following k whole six taken room most is =
    let long : length following ≡ k = taken ∙ length-take-le k before room in
    record {
      head = head;
      following = following;
      whole = whole;
      head-long = six;
      following-long = omega arith;
      item-is = is long;
      bytes-are = ap (λ (n : ℕ). following ++ drop n before) (sym long);
    }

-- the first i bytes of a buffer are set
pub set-one : (buffer₀ buffer : List ℕ) (byte i : ℕ) → buffer ≡ replicate i byte ++ drop i buffer₀ → i < length buffer₀ →
    set buffer i byte ≡ replicate (i + 1) byte ++ drop (i + 1) buffer₀
set-one buffer₀ buffer byte i is within =
    set_next buffer₀ buffer (replicate i byte) i byte is (length-replicate i byte) within
    ∙ ap (λ (l : List ℕ). l ++ drop (i + 1) buffer₀) (replicate-append-replicate i 1 byte)

pub set-whole : (buffer₀ buffer : List ℕ) (byte i : ℕ) → buffer ≡ replicate i byte ++ drop i buffer₀ → i ≡ length buffer₀ →
    buffer ≡ replicate (length buffer₀) byte
set-whole buffer₀ buffer byte i is all =
    is
    ∙ ap₂ (λ (k : ℕ) (l : List ℕ). replicate k byte ++ l) all (drop_of_length-le buffer₀ {i = i} (omega arith))
    ∙ append-nil (replicate (length buffer₀) byte)

-- a digit of each kind
pub digit_low : (n : ℕ) → n < 10 → 48 + n ≡ digit_of n
unfolding digit_of
digit_low n h = rw (lt-ltb n 10 h)

pub digit-high : (n : ℕ) → 10 ≤ n → 97 + (n - 10) ≡ digit_of n
unfolding digit_of
digit-high n h = rw (le-ltb n 10 h)
