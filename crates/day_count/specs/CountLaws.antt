-- Counting record by record, for any test: the count of the first records and that of the rest add up to the count of all. And the day of a value, in two parts.
use Rattle.std.specs.Prelude.{◌≡◌, Bool, true, ◌&&◌, List, ℕ, ◌+◌, ◌-◌, ◌*◌, ◌/◌, ◌%◌, ◌≤◌, ◌<◌, length, drop}
use Rattle.std.proofs.Common.{sym, ◌∙◌, ap, arith, div-add-mod'}
use Rattle.std.proofs.Math.Bool.{and-true, and_assoc}
use Rattle.std.proofs.Math.Nat.{mul-add-div_right}
use Rattle.numbers.specs.Notation.{flag, all}
use Rattle.numbers.specs.NotationLaws.{flag-most}
use Rattle.settings.specs.declared.Settings.{Settings}
use Rattle.reading.specs.declared.Event.{Event}
use Rattle.reading.specs.Layout.{record_length}
use Rattle.reading.specs.Records.{event_of, first_events, events_of}
use Rattle.records.specs.ListLaws.{record_at, events-next}
use Rattle.day_count.specs.declared.Tally.{Tally}
use Rattle.day_count.specs.Days.{how_many, second_counts, first_counts, known_kind, kinds}
use Rattle.day_count.specs.Count.{tally_of, tallied}

-- how many of the first records pass a test
module _ (test : Event → Bool) (b : List ℕ) where
  abbrev count : ℕ
  count = length b / record_length

  -- k of the first i records
  pub record CountSoFar (i k : ℕ) : Type 0 where
    pub most : k ≤ i
    pub with_rest : k + how_many test (first_events (count - i) (drop (record_length * i) b)) ≡ how_many test (events_of b)

  pub counted_none : CountSoFar 0 0
  counted_none =
      let whole : count - 0 ≡ count = omega arith in
      record { most = omega arith; with_rest = omega (arith, ap (λ (n : ℕ). how_many test (first_events n b)) whole) }

  pub counted_next : (i k x : ℕ) → i < count → CountSoFar i k → x ≡ flag (test (event_of (record_at b i))) → CountSoFar (i + 1) (k + x)
  counted_next i k x h c is =
      let e = event_of (record_at b i) in
      let rest = how_many test (first_events (count - (i + 1)) (drop (record_length * (i + 1)) b)) in
      let one : how_many test (first_events (count - i) (drop (record_length * i) b)) ≡ flag (test e) + rest = ap (how_many test) (events-next b i count h) in
      record { most = omega (arith, c.most, is, flag-most (test e)); with_rest = omega (arith, c.with_rest, is, one) }

  pub counted-all : (i k : ℕ) → i ≡ count → CountSoFar i k → k ≡ how_many test (events_of b)
  counted-all i k whole c =
      let none : count - i ≡ 0 = omega arith in
      let rest : how_many test (first_events (count - i) (drop (record_length * i) b)) ≡ 0 =
      ap (λ (n : ℕ). how_many test (first_events n (drop (record_length * i) b))) none in
      omega (arith, c.with_rest, rest)

-- whether the kinds of the first records are known, and so with the rest's whether all are
module _ (b : List ℕ) where
  abbrev rest : ℕ → Bool
  rest i = all known_kind (kinds (first_events (length b / record_length - i) (drop (record_length * i) b)))

  abbrev pub KnownSoFar : ℕ → Bool → Type 0
  KnownSoFar i known = (known && rest i) ≡ all known_kind (kinds (events_of b))

  pub known-none : KnownSoFar 0 true
  known-none =
      let whole : length b / record_length - 0 ≡ length b / record_length = omega arith in
      ap (λ (n : ℕ). all known_kind (kinds (first_events n b))) whole

  pub known_next : (i : ℕ) (known one : Bool) → i < length b / record_length → KnownSoFar i known → one ≡ known_kind (event_of (record_at b i)).kind
      → KnownSoFar (i + 1) (known && one)
  known_next i known one h so_far is =
      let more : rest i ≡ (known_kind (event_of (record_at b i)).kind && rest (i + 1)) = ap (λ (es : List Event). all known_kind (kinds es)) (events-next b i _ h) in
      and_assoc known one (rest (i + 1)) ∙ (ap (λ (t : Bool). known && (t && rest (i + 1))) is ∙ (ap (λ (t : Bool). known && t) (sym more) ∙ so_far))

  pub known-all : (i : ℕ) (known : Bool) → i ≡ length b / record_length → KnownSoFar i known → known ≡ all known_kind (kinds (events_of b))
  known-all i known whole so_far =
      let none : length b / record_length - i ≡ 0 = omega arith in
      let empty : rest i ≡ true = ap (λ (n : ℕ). all known_kind (kinds (first_events n (drop (record_length * i) b)))) none in
      sym (and-true known) ∙ (ap (λ (t : Bool). known && t) (sym empty) ∙ so_far)

-- the counts and the kinds together
module _ (s : Settings) (z day : ℕ) (b : List ℕ) where
  pub record TalliedTo (i second first : ℕ) (known : Bool) : Type 0 where
    pub seconds : CountSoFar (second_counts s z day) b i second
    pub firsts : CountSoFar (first_counts s z day) b i first
    pub all_known : KnownSoFar b i known

  pub tallied-none : TalliedTo 0 0 0 true
  tallied-none = record { seconds = counted_none _ b; firsts = counted_none _ b; all_known = known-none b }

  module _ (i second first : ℕ) (known : Bool) (so_far : TalliedTo i second first known) where
    pub tallied-next : (one : Tally) (one_known : Bool) → i < length b / record_length → one ≡ tally_of s z day (event_of (record_at b i))
        → one_known ≡ known_kind (event_of (record_at b i)).kind → TalliedTo (i + 1) (second + one.second) (first + one.first) (known && one_known)
    tallied-next one one_known h is known_is = record {
      seconds = counted_next _ b i second one.second h so_far.seconds (ap (λ (t : Tally). t.second) is);
      firsts = counted_next _ b i first one.first h so_far.firsts (ap (λ (t : Tally). t.first) is);
      all_known = known_next b i known one_known h so_far.all_known known_is;
    }

    pub tallied-all : i ≡ length b / record_length
        → (record { second = second; first = first } ≡ tallied s z day (events_of b)) × (known ≡ all known_kind (kinds (events_of b)))
    tallied-all whole =
        let second_is = counted-all _ b i second whole so_far.seconds in
        let first-is = counted-all _ b i first whole so_far.firsts in
        (λ j. record { second = second_is j; first = first-is j }, known-all b i known whole so_far.all_known)

-- the day of a value, without the sum of z and the value
pub day-split : (z v l : ℕ) → 0 < l → v / l + (z + v % l) / l ≡ (z + v) / l
day-split z v l some =
    let whole : z + v ≡ v / l * l + (z + v % l) = omega (arith, div-add-mod' v l) in
    sym (ap (λ (n : ℕ). n / l) whole ∙ mul-add-div_right some (v / l) (z + v % l))
