-- An item of standard input, and bytes in base sixteen.
use Rattle.std.specs.Prelude.{◌≡◌, ◌==◌, Bool, MatchBool, List, [], ◌∷◌, ◌++◌, ℕ, ◌+◌, ◌-◌, ◌/◌, ◌%◌, ◌≤◌, length, take, drop, get_or, if◌then◌else◌, Option, Some, None}
use Rattle.numbers.specs.Notation.{◌<ᵇ◌}
use Rattle.octets.specs.Bytes.{number_of}
use Rattle.call_items.specs.declared.Kind.{Kind}
use Rattle.call_items.specs.declared.Kind.TheVariants.{Start, Feed, Look, Save, RestoreSave, RestoreBytes, Gather, Trial, Other}
use Rattle.call_items.specs.declared.Item.{Item}

-- the kind of a number
abbrev pub kind_of : ℕ → Kind
kind_of n =
    if n == 0 then Start
    else if n == 1 then Feed
    else if n == 2 then Look
    else if n == 3 then Save
    else if n == 4 then RestoreSave
    else if n == 5 then RestoreBytes
    else if n == 6 then Gather
    else if n == 7 then Trial
    else Other n

-- the item that 6 bytes say
abbrev pub item_of : List ℕ → Item
item_of head =
    record { kind = kind_of (get_or head 0 0); fill = get_or head 1 0; number = number_of (take 2 (drop 2 head)); length = number_of (take 2 (drop 4 head)) }

-- An item is read, with the bytes that follow it at the start of others, which stay behind them. What is read is free, since no contract can say it: the head,
-- what follows, and whether the input holds all of both. Where it does not, `io` tells no more of the bytes that it was to read than how many they are.
pub record NextItem (before : List ℕ) (item : Option Item) (after : List ℕ) : Type 0 where
  pub head : List ℕ
  pub following : List ℕ
  pub whole : Bool
  pub head-long : length head ≡ 6
  pub following-long : length following ≤ 65535
  pub item-is : MatchBool whole ((item ≡ Some (item_of head)) × (length following ≡ (item_of head).length)) (item ≡ None)
  pub bytes-are : after ≡ following ++ drop (length following) before

-- a digit, in ASCII
unfoldable pub digit_of : ℕ → ℕ
digit_of n = if n <ᵇ 10 then 48 + n else 97 + (n - 10)

-- two digits for each byte
abbrev pub hex_of : List ℕ → List ℕ
hex_of [] = []
hex_of (b ∷ bs) = digit_of (b / 16) ∷ digit_of (b % 16) ∷ hex_of bs
