-- A lane has its channel's samples, in another order: every sum over the one is that over the other, and so they are the same part of a half-cycle.
use Rattle.std.specs.Prelude.{◌≡◌, refl, Bool, true, false, ◌||◌, List, [], ◌∷◌, ◌++◌, ℕ, zero, suc, ◌+◌, ◌-◌, ◌*◌, ◌/◌, ◌%◌, min, ◌≤◌, ◌<◌, ℤ, pos, length, take, drop, get_or}
use Rattle.std.proofs.Common.{sym, ◌∙◌, ap, append_assoc, arith, length-take, length-drop, take-append-drop, take_all, take-add, lt-ltb}
use Rattle.numbers.specs.Notation.{◌<ᵇ◌, flag}
use Rattle.reading.specs.Values.{square, squares}
use Rattle.reading.specs.Clipping.{clipped, any_clipped}
use Rattle.rms.specs.declared.Part.{Part}
use Rattle.rms.specs.Gather.{part_of}
use Rattle.three_reading.specs.declared.Three.{Three}
use Rattle.three_reading.specs.Three.{triples_of, Channel, at, channel}
use Rattle.three_reading.specs.Three.Channel.{on_a, on_b, on_c}
use Rattle.three_laws.specs.ChannelLaws.{length-channel, channel-append}
use Rattle.three_laws.specs.TriplesLaws.{length-triples, triples-take, triples-drop}
use Rattle.lanes.specs.Lanes.{by_turn, later, lane_of, lane_in, row_length, lane}

-- whose turn a channel has where a block begins some samples later
abbrev turned : ℕ → Channel → Channel
turned zero c = c
turned (suc n) c = turned n (later c)

three-later : (c : Channel) → later (later (later c)) ≡ c
three-later on_a = refl
three-later on_b = refl
three-later on_c = refl

turned-once : (n : ℕ) (c : Channel) → n % 3 ≡ 1 → turned n c ≡ later c
turned-once zero c e = absurd (omega arith)
turned-once (suc zero) c e = refl
turned-once (suc (suc zero)) c e = absurd (omega arith)
turned-once (suc (suc (suc n))) c e = rw (three-later c) (turned-once n c (omega arith))

-- a number where it is a's turn, else none
abbrev if_first : Channel → ℕ → ℕ
if_first on_a n = n
if_first on_b n = 0
if_first on_c n = 0

one_of_three : (f : ℤ → ℕ) (c : Channel) (t : Three ℤ)
    → if_first c (f t.a) + (if_first (later c) (f t.b) + if_first (later (later c)) (f t.c)) ≡ f (at c t)
one_of_three f on_a t = omega arith
one_of_three f on_b t = omega arith
one_of_three f on_c t = omega arith

-- a sum over samples; and over those of one channel, where samples are in turn
abbrev total : (ℤ → ℕ) → List ℤ → ℕ
total f [] = 0
total f (x ∷ xs) = f x + total f xs

abbrev own : (ℤ → ℕ) → Channel → List ℤ → ℕ
own f c [] = 0
own f c (x ∷ xs) = if_first c (f x) + own f (later c) xs

module _ (f : ℤ → ℕ) where
  total-append : (xs ys : List ℤ) → total f (xs ++ ys) ≡ total f xs + total f ys
  total-append [] ys = omega arith
  total-append (x ∷ xs) ys = omega (arith, total-append xs ys)

  own-append : (c : Channel) (xs ys : List ℤ) → own f c (xs ++ ys) ≡ own f c xs + own f (turned (length xs) c) ys
  own-append c [] ys = omega arith
  own-append c (x ∷ xs) ys = omega (arith, own-append (later c) xs ys)

  channel-total : (c : Channel) (block : List ℤ) → length block % 3 ≡ 0 → total f (channel c (triples_of block)) ≡ own f c block
  channel-total c [] e = refl
  channel-total c (x ∷ []) e = absurd (omega arith)
  channel-total c (x ∷ (y ∷ [])) e = absurd (omega arith)
  channel-total c (x ∷ (y ∷ (z ∷ rest))) e =
      rw (three-later c) (omega (arith, channel-total c rest (omega arith), one_of_three f c (record { a = x; b = y; c = z })))

  lane-total : (c : Channel) (xs ys zs : List ℤ) → length ys ≡ length xs → length zs ≡ length xs
      → total f (lane_of c xs ys zs) ≡ own f c xs + (own f (later c) ys + own f (later (later c)) zs)
  lane-total c [] [] [] p q = refl
  lane-total c [] [] (z ∷ zs) p q = absurd (omega arith)
  lane-total c [] (y ∷ ys) zs p q = absurd (omega arith)
  lane-total c (x ∷ xs) [] zs p q = absurd (omega arith)
  lane-total c (x ∷ xs) (y ∷ ys) [] p q = absurd (omega arith)
  lane-total c (x ∷ xs) (y ∷ ys) (z ∷ zs) p q =
      omega (arith, lane-total (later c) xs ys zs (omega arith) (omega arith), one_of_three f c (record { a = x; b = y; c = z }))

  -- three rows, of as many samples as leave 1 when divided by three
  rows-total : (c : Channel) (xs ys zs : List ℤ) → length xs % 3 ≡ 1 → length ys ≡ length xs → length zs ≡ length xs
      → total f (lane_of c xs ys zs) ≡ own f c (xs ++ (ys ++ zs))
  rows-total c xs ys zs e p q =
      let second : own f (turned (length xs) c) (ys ++ zs) ≡ own f (later c) (ys ++ zs) = rw (turned-once (length xs) c e) in
      let third : own f (turned (length ys) (later c)) zs ≡ own f (later (later c)) zs = rw (turned-once (length ys) (later c) (omega arith)) in
      omega (arith, lane-total c xs ys zs p q, own-append c xs (ys ++ zs), own-append (later c) ys zs)

-- the sample of a column that is a channel's, by the column's turn
abbrev pub turn_of : Channel → ℕ → Three ℤ → ℤ
turn_of on_a i t = by_turn i t.a t.c t.b
turn_of on_b i t = by_turn i t.b t.a t.c
turn_of on_c i t = by_turn i t.c t.b t.a

by_turn-three : (i : ℕ) (x y z : ℤ) → by_turn i x y z ≡ by_turn (i % 3) x y z
by_turn-three zero x y z = refl
by_turn-three (suc zero) x y z = refl
by_turn-three (suc (suc zero)) x y z = refl
by_turn-three (suc (suc (suc i))) x y z =
    let e : suc (suc (suc i)) % 3 ≡ i % 3 = omega arith in
    rw e (by_turn-three i x y z)

turn_of-three : (c : Channel) (i : ℕ) (t : Three ℤ) → turn_of c i t ≡ turn_of c (i % 3) t
turn_of-three on_a i t = by_turn-three i t.a t.c t.b
turn_of-three on_b i t = by_turn-three i t.b t.a t.c
turn_of-three on_c i t = by_turn-three i t.c t.b t.a

turn_of-first : (c : Channel) (t : Three ℤ) → at c t ≡ turn_of c 0 t
turn_of-first on_a t = refl
turn_of-first on_b t = refl
turn_of-first on_c t = refl

turn_of-next : (c : Channel) (i : ℕ) (t : Three ℤ) → turn_of (later c) i t ≡ turn_of c (suc i) t
turn_of-next on_a i t = refl
turn_of-next on_b i t = refl
turn_of-next on_c i t = refl

abbrev pub sample_at : List ℤ → ℕ → ℤ
sample_at xs i = get_or xs i (pos 0)

lane-at : (c : Channel) (xs ys zs : List ℤ) (i : ℕ) → i < length xs → length ys ≡ length xs → length zs ≡ length xs
    → sample_at (lane_of c xs ys zs) i ≡ turn_of c i (record { a = sample_at xs i; b = sample_at ys i; c = sample_at zs i })
lane-at c [] ys zs i h p q = absurd (omega arith)
lane-at c (x ∷ xs) [] zs i h p q = absurd (omega arith)
lane-at c (x ∷ xs) (y ∷ ys) [] i h p q = absurd (omega arith)
lane-at c (x ∷ xs) (y ∷ ys) (z ∷ zs) zero h p q = turn_of-first c (record { a = x; b = y; c = z })
lane-at c (x ∷ xs) (y ∷ ys) (z ∷ zs) (suc i) h p q =
    let t : Three ℤ = record { a = sample_at xs i; b = sample_at ys i; c = sample_at zs i } in
    lane-at (later c) xs ys zs i (omega arith) (omega arith) (omega arith) ∙ turn_of-next c i t

length-lane : (c : Channel) (xs ys zs : List ℤ) → length ys ≡ length xs → length zs ≡ length xs → length (lane_of c xs ys zs) ≡ length xs
length-lane c [] ys zs p q = refl
length-lane c (x ∷ xs) [] zs p q = absurd (omega arith)
length-lane c (x ∷ xs) (y ∷ ys) [] p q = absurd (omega arith)
length-lane c (x ∷ xs) (y ∷ ys) (z ∷ zs) p q = omega (arith, length-lane (later c) xs ys zs (omega arith) (omega arith))

-- what a column of a block's rows holds, as the code cuts the rows
abbrev pub column : ℕ → List ℤ → ℕ → Three ℤ
column n block i = record {
  a = sample_at (take n block) i;
  b = sample_at (take (2 * n - n) (drop n block)) i;
  c = sample_at (take (3 * n - 2 * n) (drop (2 * n) block)) i;
}

module _ (n : ℕ) (block : List ℤ) (long : length block ≡ 3 * n) where
  first-long : length (take n block) ≡ n
  first-long = simp length-take (omega arith)

  second-long : length (take n (drop n block)) ≡ length (take n block)
  second-long = simp (length-take, length-drop) (omega arith)

  third-long : length (take n (drop (2 * n) block)) ≡ length (take n block)
  third-long = simp (length-take, length-drop) (omega arith)

  pub length-lane_in : (c : Channel) → length (lane_in c n block) ≡ n
  length-lane_in c = length-lane c (take n block) (take n (drop n block)) (take n (drop (2 * n) block)) second-long third-long ∙ first-long

  pub lane_in-at : (c : Channel) (i : ℕ) → i < n → sample_at (lane_in c n block) i ≡ turn_of c (i % 3) (column n block i)
  lane_in-at c i h =
      let second : 2 * n - n ≡ n = omega arith in
      let third : 3 * n - 2 * n ≡ n = omega arith in
      let place = lane-at c (take n block) (take n (drop n block)) (take n (drop (2 * n) block)) i (omega (arith, first-long)) second-long third-long in
      rw (second, third) (place ∙ turn_of-three c i _)

  rows_are : take n block ++ (take n (drop n block) ++ take n (drop (2 * n) block)) ≡ block
  rows_are =
      let twice : n + n ≡ 2 * n = omega arith in
      let thrice : 2 * n + n ≡ 3 * n = omega arith in
      rw (← append_assoc, ← take-add n n block, twice, ← take-add (2 * n) n block, thrice) (take_all (3 * n) block (omega arith))

  -- every sum over a lane is that over its channel
  lane_in-total : (f : ℤ → ℕ) (c : Channel) → n % 3 ≡ 1 → total f (lane_in c n block) ≡ total f (channel c (triples_of block))
  lane_in-total f c e =
      let rows = rows-total f c (take n block) (take n (drop n block)) (take n (drop (2 * n) block)) (omega (arith, first-long)) second-long third-long in
      rows ∙ (ap (own f c) rows_are ∙ sym (channel-total f c block (omega arith)))

-- a triple of a block, and what a channel has of it
abbrev pub triple_at : List ℤ → ℕ → Three ℤ
triple_at block i = record { a = sample_at block (3 * i); b = sample_at block (3 * i + 1); c = sample_at block (3 * i + 2) }

pub channel-at : (c : Channel) (i : ℕ) (block : List ℤ) → 3 * i + 2 < length block → sample_at (channel c (triples_of block)) i ≡ at c (triple_at block i)
channel-at c zero [] h = absurd (omega arith)
channel-at c zero (x ∷ []) h = absurd (omega arith)
channel-at c zero (x ∷ (y ∷ [])) h = absurd (omega arith)
channel-at c zero (x ∷ (y ∷ (z ∷ rest))) h = refl
channel-at c (suc i) [] h = absurd (omega arith)
channel-at c (suc i) (x ∷ []) h = absurd (omega arith)
channel-at c (suc i) (x ∷ (y ∷ [])) h = absurd (omega arith)
channel-at c (suc i) (x ∷ (y ∷ (z ∷ rest))) h =
    let a : 3 * suc i ≡ suc (suc (suc (3 * i))) = omega arith in
    let b : 3 * suc i + 1 ≡ suc (suc (suc (3 * i + 1))) = omega arith in
    let d : 3 * suc i + 2 ≡ suc (suc (suc (3 * i + 2))) = omega arith in
    rw (d, b, a) (channel-at c i rest (omega arith))

pub length-channel_of : (c : Channel) (block : List ℤ) → length (channel c (triples_of block)) ≡ length block / 3
length-channel_of c block = length-channel c (triples_of block) ∙ length-triples block

-- the same sums, the same part of a half-cycle
length-is : (xs : List ℤ) → total (λ _. 1) xs ≡ length xs
length-is [] = refl
length-is (x ∷ xs) = omega (arith, length-is xs)

squares-is : (xs : List ℤ) → total square xs ≡ squares xs
squares-is [] = refl
squares-is (x ∷ xs) = ap (λ (n : ℕ). square x + n) (squares-is xs)

abbrev mark : ℤ → ℕ
mark x = flag (clipped x)

mark_is : (xs : List ℤ) → (0 <ᵇ total mark xs) ≡ any_clipped xs
mark_is [] = refl
mark_is (x ∷ xs) = go (clipped x) (mark_is xs)
  where
    go : (b : Bool) → (0 <ᵇ total mark xs) ≡ any_clipped xs → (0 <ᵇ (flag b + total mark xs)) ≡ (b || any_clipped xs)
    go true e = lt-ltb 0 (1 + total mark xs) (omega arith)
    go false e = let none : 0 + total mark xs ≡ total mark xs = omega arith in rw none e

same-part : (xs ys : List ℤ) → ((f : ℤ → ℕ) → total f xs ≡ total f ys) → part_of xs ≡ part_of ys
same-part xs ys p =
    let count : length xs ≡ length ys = omega (arith, length-is xs, length-is ys, p (λ _. 1)) in
    let sums : squares xs ≡ squares ys = omega (arith, squares-is xs, squares-is ys, p square) in
    let marked : any_clipped xs ≡ any_clipped ys = sym (mark_is xs) ∙ (ap (λ (n : ℕ). 0 <ᵇ n) (p mark) ∙ mark_is ys) in
    λ j. record { count = count j; squares = sums j; clipped = marked j }

-- the first m triples in rows, and the others in order
split-part : (c : Channel) (m : ℕ) (block : List ℤ) → 3 * m ≤ length block → m % 3 ≡ min m 1
    → part_of (lane_in c m (take (3 * m) block) ++ channel c (triples_of (drop (3 * m) block))) ≡ part_of (channel c (triples_of block))
split-part c zero block h e = refl
split-part c (suc k) block h e =
    let m = suc k in
    let front = take (3 * m) block in
    let rest = channel c (triples_of (drop (3 * m) block)) in
    let long : length front ≡ 3 * m = simp length-take (omega arith) in
    let both : channel c (triples_of front) ++ rest ≡ channel c (triples_of block) =
    rw (triples-take m block, triples-drop m block, ← channel-append c, take-append-drop m (triples_of block)) in
    let sums : (f : ℤ → ℕ) → total f (lane_in c m front ++ rest) ≡ total f (channel c (triples_of front) ++ rest) =
    λ f. omega (arith, total-append f (lane_in c m front) rest, total-append f (channel c (triples_of front)) rest, lane_in-total m front long f c (omega arith)) in
    same-part (lane_in c m front ++ rest) (channel c (triples_of front) ++ rest) sums ∙ ap part_of both

-- a block's lane is the part that its channel is, and so as long
pub lane-part : (c : Channel) (block : List ℤ) → part_of (lane c block) ≡ part_of (channel c (triples_of block))
unfolding lane
lane-part c block = split-part c (row_length (length block / 3)) block (omega arith) (omega arith)

pub lane-long : (c : Channel) (block : List ℤ) → length (lane c block) ≡ length block / 3
lane-long c block = ap (λ (p : Part). p.count) (lane-part c block) ∙ length-channel_of c block
