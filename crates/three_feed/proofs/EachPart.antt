-- The parts of three channels, each of which fits its gatherer.
use Rattle.std.proofs.Common.{◌≡◌, refl, ◌∙◌, ap, ℕ, ◌+◌, ◌/◌, ◌^◌, ◌≤◌, ◌<◌, List, arith, length, ℤ}
use Rattle.rms.specs.declared.Part.{Part}
use Rattle.rms.specs.Gather.{part_of, PartFits}
use Rattle.rms.specs.GatherLaws.{part_of-fits}
use Rattle.three_reading.specs.declared.Three.{Three}
use Rattle.three_reading.specs.Three.{Channel, triples_of, channel, at}
use Rattle.three_reading.specs.Three.Channel.{on_a, on_b, on_c}
use Rattle.three_laws.specs.ChannelLaws.{length-channel}
use Rattle.three_laws.specs.TriplesLaws.{length-triples}
use Rattle.rms.specs.declared.Gatherer.{Gatherer}
use Rattle.three_state.specs.ThreeStep.{parts_of}
use Rattle.lanes.specs.Lanes.{SquaresFit, PartsAre}
use Rattle.three_feed.specs.Feed.{RoomFor}

part-at : (c : Channel) (xs : List (Three ℤ)) → at c (parts_of xs) ≡ part_of (channel c xs)
part-at on_a xs = refl
part-at on_b xs = refl
part-at on_c xs = refl

pub count_at : (c : Channel) (xs : List (Three ℤ)) → (at c (parts_of xs)).count ≡ length xs
count_at c xs = ap (λ (p : Part). p.count) (part-at c xs) ∙ length-channel c xs

-- triples that there is room for
pub parts-fit : (m : ℕ) (g : Three Gatherer) (xs : List (Three ℤ)) → SquaresFit xs → ((c : Channel) → (at c g).count + length xs ≤ m) → (c : Channel) →
    PartFits m (at c g) (at c (parts_of xs))
parts-fit m g xs small room c =
    rw (part-at c xs) (part_of-fits m (at c g) (channel c xs) (omega (arith, small c, length-channel c xs)) (omega (arith, room c, length-channel c xs)))

pub part-joins : (g : Three Gatherer) (block : List ℤ) (p : Three Part) → RoomFor g (length block / 3) → PartsAre (triples_of block) p → (c : Channel) →
    ((at c g).count + (at c p).count < 2 ^ 32) × ((at c g).sum + (at c p).squares < 2 ^ 64)
part-joins g block p room are c =
    let own : at c p ≡ part_of (channel c (triples_of block)) = ap (at c) are.0 ∙ part-at c (triples_of block) in
    let r = room c in
    let long : (at c p).count ≡ length block / 3 = ap (λ (q : Part). q.count) own ∙ length-channel c (triples_of block) ∙ length-triples block in
    (omega arith, omega (arith, are.1 c, ap (λ (q : Part). q.squares) own, length-triples block))
