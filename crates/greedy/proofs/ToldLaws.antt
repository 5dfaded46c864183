-- What feed tells: samples of the block, records of the buffer; and a feed that stops for want of room, with room for all records of one sample, has taken one.
use Rattle.std.specs.Prelude.{◌≡◌, Bool, ℕ, ◌*◌, ◌≤◌, length}
use Rattle.std.proofs.Math.Path.{refl, ap}
use Rattle.std.proofs.Math.Bool.{true, false}
use mathlib.Core.List.{List, [], ◌∷◌}
use Rattle.std.proofs.Common.{arith, le-ltb}
use Rattle.reading.specs.Told.{Told}
use Rattle.reading.specs.Engineer.{room}
use Rattle.reading.specs.Layout.{record_length}
use Rattle.greedy.specs.Greedy.{Machine, Run, fed_by, fed_into}
use Rattle.greedy.proofs.GreedyLaws.{fed_by-ends, fed_by-takes, fed_by-bounded}

-- of a block and a lent buffer, where one sample has at most k records due
pub record ToldWithin (k : ℕ) {X : Type 0} (block : List X) (lent : List ℕ) (t : Told) : Type 0 where
  pub most : t.taken ≤ length block
  pub fits : record_length * t.written ≤ length lent
  pub some : k ≤ room lent → t.why ≡ 1 → 1 ≤ t.taken

module _ {X St : Type 0} (M : Machine X St) (k : ℕ) (few : (st : St) (x : X) → length (M.due_with st x) ≤ k) where
  -- with room for k a sample is taken that passes no end
  pub takes_one : (st : St) (x : X) (xs : List X) (n : ℕ) → k ≤ n → M.at_end st x ≡ false → 1 ≤ (fed_by M st (x ∷ xs) n).taken
  takes_one st x xs n enough past = rw (fed_by-takes M st x xs n past (le-ltb n (length (M.due_with st x)) (omega (arith, few st x)))) (omega arith)

  stops-later : (block : List X) (st : St) (n : ℕ) → k ≤ n → (fed_by M st block n).why ≡ 1 → 1 ≤ (fed_by M st block n).taken
  unfolding fed_by
  stops-later [] st n enough stops = absurd (omega arith)
  stops-later (x ∷ xs) st n enough stops = go (M.at_end st x) refl
    where
      go : (e : Bool) → M.at_end st x ≡ e → 1 ≤ (fed_by M st (x ∷ xs) n).taken
      go true p = absurd (omega (arith, stops, ap (λ (r : Run St). r.why) (fed_by-ends M st x xs n p)))
      go false p = takes_one st x xs n enough p

  pub told-within : (st : St) (block : List X) (lent : List ℕ) → ToldWithin k block lent (fed_into M st block lent).told
  told-within st block lent =
      let b = fed_by-bounded M block st (room lent) in
      record { most = b.most; fits = omega (arith, b.fits); some = stops-later block st (room lent) }
