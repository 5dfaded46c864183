-- What is laid behind the rows stands behind them: the first n places hold the block's lane, which is the part that its channel is.
use Rattle.std.proofs.Common.{◌≡◌, ◌∙◌, ap, List, ◌++◌, append_assoc, ℕ, ◌+◌, ◌-◌, ◌*◌, ◌/◌, ◌%◌, ◌^◌, ◌≤◌, arith, ℤ, length, take, drop, length-append, length-take, length-drop, take_all, take_at, drop_at, drop-drop}
use borrow.Rule.Slice.PartMut.{put_mid}
use Rattle.rms.specs.declared.Part.{Part}
use Rattle.rms.specs.Gather.{part_of}
use Rattle.three_reading.specs.declared.Three.{Three}
use Rattle.three_reading.specs.Three.{triples_of, Channel, channel}
use Rattle.three_reading.specs.Three.Channel.{on_a, on_b, on_c}
use Rattle.three_laws.specs.ChannelLaws.{length-channel}
use Rattle.lanes.specs.Lanes.{lane_in, row_length, lane, laid, SquaresFit, PartsAre}
use Rattle.lanes.specs.LanesLaws.{length-lane_in, lane-part, lane-long}
use Rattle.lanes.proofs.parts_of.Goals as goal

-- a lane of which the first m places are laid, and then the places up to n
abbrev laid_in : ℕ → ℕ → List ℤ → List ℤ → List ℤ → List ℤ
laid_in m n out rows rest = put_mid m (n - m) (rows ++ drop m out) rest

laid-is : (m n : ℕ) (out rows rest : List ℤ) → m ≤ n → length rows ≡ m → laid_in m n out rows rest ≡ (rows ++ rest) ++ drop n out
laid-is m n out rows rest few p =
    let all : m + (n - m) ≡ n = omega arith in
    rw (take_at rows (drop m out) m p, drop_at rows (drop m out) m p, drop-drop (n - m) m out, all, append_assoc)

-- rows and rest together are the block's lane
both : (c : Channel) (m : ℕ) (block rows rest : List ℤ) → m ≡ row_length (length block / 3) → rows ≡ lane_in c m (take (3 * m) block)
    → rest ≡ channel c (triples_of (drop (3 * m) block)) → rows ++ rest ≡ lane c block
unfolding lane
both c m block rows rest m-is rows_are rest-are = rw (rows_are, rest-are, m-is)

-- a lane of 256 places, of which n are laid, m of them in rows: what is asked where its samples are summed, that they are the channel's part, and what it holds
record Lane (c : Channel) (m n : ℕ) (block out rows rest : List ℤ) : Type 0 where
  long : length (laid_in m n out rows rest) ≡ length out
  reach : n ≤ length (laid_in m n out rows rest)
  count : n ≡ length (take n (laid_in m n out rows rest))
  few : length (take n (laid_in m n out rows rest)) ≤ 256
  part : part_of (take n (laid_in m n out rows rest)) ≡ part_of (channel c (triples_of block))
  holds : laid_in m n out rows rest ≡ laid c block out

lane-is : (c : Channel) (m : ℕ) (block a out rows rest : List ℤ) → length block % 3 ≡ 0 → length block ≤ 768 → length a ≡ 256 → length out ≡ 256
    → m ≡ row_length (length block / 3) → rows ≡ lane_in c (length (take m a)) (take (3 * m) block)
    → rest ≡ channel c (triples_of (take (length block - 3 * m) (drop (3 * m) block))) → Lane c m (length block / 3) block out rows rest
lane-is c m block a out rows rest thirds most a-long out-long m-is rows_is rest-is =
    let n = length block / 3 in
    let taken : length (take m a) ≡ m = simp length-take (omega arith) in
    let all : take (length block - 3 * m) (drop (3 * m) block) ≡ drop (3 * m) block =
    take_all (length block - 3 * m) (drop (3 * m) block) (simp length-drop (omega arith)) in
    let rows_are : rows ≡ lane_in c m (take (3 * m) block) = rw taken at rows_is in
    let rest-are : rest ≡ channel c (triples_of (drop (3 * m) block)) = rw all at rest-is in
    let p : length rows ≡ m = ap length rows_are ∙ length-lane_in m (take (3 * m) block) (simp length-take (omega arith)) c in
    let holds : laid_in m n out rows rest ≡ laid c block out =
    laid-is m n out rows rest (omega arith) p ∙ ap (λ (l : List ℤ). l ++ drop n out) (both c m block rows rest m-is rows_are rest-are) in
    let front : take n (laid_in m n out rows rest) ≡ lane c block = rw holds (take_at (lane c block) (drop n out) n (lane-long c block)) in
    let long : length (laid_in m n out rows rest) ≡ length out = rw holds (simp (length-append, length-drop) (omega (arith, lane-long c block))) in
    let count : n ≡ length (take n (laid_in m n out rows rest)) = rw front (omega (arith, lane-long c block)) in
    record { long = long; reach = omega arith; count = count; few = omega arith; part = rw front (lane-part c block); holds = holds }

-- the parts, and how large they are
module _ (xs : List (Three ℤ)) where
  fits : (c : Channel) {r : Part} → r ≡ part_of (channel c xs) → r.squares ≤ r.count * 2 ^ 30 → (part_of (channel c xs)).squares ≤ length xs * 2 ^ 30
  fits c e h =
      let squares = ap (λ (r : Part). r.squares) e in
      let count = ap (λ (r : Part). r.count) e in
      omega (arith, length-channel c xs)

  parts : {a b c : Part} → a ≡ part_of (channel on_a xs) → b ≡ part_of (channel on_b xs) → c ≡ part_of (channel on_c xs) → a.squares ≤ a.count * 2 ^ 30
      → b.squares ≤ b.count * 2 ^ 30 → c.squares ≤ c.count * 2 ^ 30 → PartsAre xs (record { a = a; b = b; c = c })
  parts p q r u v w = (λ j. record { a = p j; b = q j; c = r j }, each)
    where
      each : SquaresFit xs
      each on_a = fits on_a p u
      each on_b = fits on_b q v
      each on_c = fits on_c r w

pub returns : goal.returns
returns c =
    let m = c.row_length-m.result in
    let block = c.args.block.now in
    let a = c.args.a.now in
    let b = c.args.b.now in
    let d = c.args.c.now in
    let asked = c.requires in
    let few = c.row_length-m.ensures in
    let rows = c.split in
    let rest = c.split_in_order in
    let on-a = lane-is on_a m block a a rows.new.a rest.new.a asked.0 asked.1 asked.2 asked.2 few rows.ensures.0 rest.ensures.0 in
    let on-b = lane-is on_b m block a b rows.new.b rest.new.b asked.0 asked.1 asked.2 asked.3 few rows.ensures.1 rest.ensures.1 in
    let on-c = lane-is on_c m block a d rows.new.c rest.new.c asked.0 asked.1 asked.2 asked.4 few rows.ensures.2 rest.ensures.2 in
    let p = c.sum_squares.ensures in
    let q = c.sum_squares-2.ensures in
    let r = c.sum_squares-3.ensures in (
      parts (triples_of block) (p.0 ∙ on-a.part) (q.0 ∙ on-b.part) (r.0 ∙ on-c.part) p.1 q.1 r.1,
      on-a.holds,
      on-b.holds,
      on-c.holds,
    )
