-- The gatherer's steps, where a half-cycle ends, and the gatherer that a recording leaves. 01: count and sum of the half in progress, sum of the last whole
-- half. 02, N1: the marks of both.
use Rattle.std.specs.Prelude.{◌≡◌, ℕ, ◌+◌, ◌-◌, ◌*◌, ◌%◌, ◌^◌, ◌≤◌, Bool, true, false, ◌||◌, List, [], ◌∷◌, ◌++◌, length, ℤ, if◌then◌else◌}
use Rattle.numbers.specs.Notation.{◌<ᵇ◌, flag}
use Rattle.numbers.specs.Rules.{Holds}
use Rattle.settings.specs.declared.Settings.{Settings}
use Rattle.rms.specs.declared.Marked.{Marked}
use Rattle.reading.specs.Values.{square, squares, rms, halves, in_progress}
use Rattle.reading.specs.Clipping.{clipped, any_clipped}
use Rattle.reading.specs.Image.{last_sum, last_clipped}
use Rattle.reading.specs.Restore.{gatherer_rule}
use Rattle.rms.specs.declared.Squared.{Squared}
use Rattle.rms.specs.declared.Pair.{Pair}
use Rattle.rms.specs.declared.Part.{Part}
use Rattle.rms.specs.declared.Gatherer.{Gatherer}
use Rattle.rms.specs.declared.Share.{Share}
use Rattle.rms.specs.declared.Gathered.{Gathered}

-- a sample's square and mark
abbrev pub squared_of : ℤ → Squared
squared_of x = record { square = square x; clipped = clipped x }

-- the part of a half-cycle that samples are
abbrev pub part_of : List ℤ → Part
part_of xs = record { count = length xs; squares = squares xs; clipped = any_clipped xs }

-- samples that are given eight at a time, in a row
abbrev pub joined : List (List ℤ) → List ℤ
joined [] = []
joined (xs ∷ xss) = xs ++ joined xss

-- two neighbours of every eight samples, with two more
abbrev pub pair_with : Pair → ℤ → ℤ → Pair
pair_with p x y = record { squares = p.squares + (square x + square y); left = p.left || clipped x; right = p.right || clipped y }

abbrev pub no_sample : Gatherer
no_sample = record { count = 0; sum = 0; last = 0; whole = false; clipped = false; last_clipped = false }

-- a part more, which leaves the half-cycle in progress; one that ends it
abbrev pub with_part : Gatherer → Part → Gatherer
with_part g p = record {
  count = g.count + p.count;
  sum = g.sum + p.squares;
  last = g.last;
  whole = g.whole;
  clipped = g.clipped || p.clipped;
  last_clipped = g.last_clipped;
}

abbrev pub with_half : Gatherer → Part → Gatherer
with_half g p = record { count = 0; sum = 0; last = g.sum + p.squares; whole = true; clipped = false; last_clipped = g.clipped || p.clipped }

-- the cut, with m samples in a half-cycle: how many of the samples to come belong to the half-cycle in progress, and whether the last of them ends it. What
-- else is said of a half-cycle's end rests on the laws of CutLaws
unfoldable pub cut : ℕ → Gatherer → List ℤ → Share
cut m g xs =
    if length xs <ᵇ m - g.count
    then record { count = length xs; completes = false }
    else record { count = m - g.count; completes = true }

-- whether the next sample ends it
abbrev pub ends_with : ℕ → Gatherer → ℤ → Bool
ends_with m g x = (cut m g (x ∷ [])).completes

-- the value of the half-cycle that a part ends, and the one before it, with its mark; none with the first half-cycle
abbrev pub value_with : ℕ → Gatherer → Part → Marked
value_with m g p = record { value = rms m g.last (g.sum + p.squares); clipped = g.last_clipped || (g.clipped || p.clipped) }

unfoldable pub value_from : ℕ → Gatherer → Part → List Marked
value_from m g p = if g.whole then value_with m g p ∷ [] else []

-- one sample more, and whether it ends the half-cycle
abbrev pub gathered : ℕ → Gatherer → ℤ → Gathered
gathered m g x =
    let p = part_of (x ∷ []) in
    record { gatherer = if ends_with m g x then with_half g p else with_part g p; completed = ends_with m g x }

-- the gatherer read from a recording
abbrev pub gatherer_of : Settings → List ℤ → Gatherer
gatherer_of s rec = record {
  count = length rec % s.samples;
  sum = squares (in_progress s rec);
  last = last_sum s rec (halves s rec);
  whole = 0 <ᵇ halves s rec;
  clipped = any_clipped (in_progress s rec);
  last_clipped = last_clipped s rec (halves s rec);
}

-- a gatherer in the numbers of body 2, and what refusal 11 allows of it, with m samples in a half-cycle
abbrev pub gatherer_row : Gatherer → List ℕ
gatherer_row g = g.count ∷ g.sum ∷ g.last ∷ flag g.whole ∷ flag g.clipped ∷ flag g.last_clipped ∷ []

abbrev pub ValidGatherer : ℕ → Gatherer → Type 0
ValidGatherer m g = Holds (gatherer_rule m (gatherer_row g))

-- a part that the half-cycle in progress has room for, of 16-bit samples
pub record PartFits (m : ℕ) (g : Gatherer) (p : Part) : Type 0 where
  pub count-le : g.count + p.count ≤ m
  pub squares-le : p.squares ≤ p.count * 2 ^ 30
  pub none-clipped : p.count ≡ 0 → p.clipped ≡ false
