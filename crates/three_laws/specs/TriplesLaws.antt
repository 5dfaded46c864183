-- A block in turn and its triples: how many, which part, and that they are of samples.
use Rattle.std.specs.Prelude.{◌≡◌, refl, List, [], ◌∷◌, ◌++◌, ℕ, zero, suc, ◌*◌, ◌/◌, length, take, drop, ℤ}
use Rattle.std.proofs.Common.{◌∙◌, ap, arith}
use Rattle.reading.specs.Values.{Sample, Samples}
use Rattle.reading_laws.specs.RecordingsLaws.{samples-append, samples-take}
use Rattle.three_reading.specs.declared.Three.{Three}
use Rattle.three_reading.specs.Three.{triples_of, Channel, at, channel}
use Rattle.three_reading.specs.Three.Channel.{on_a, on_b, on_c}
use Rattle.three_laws.specs.ChannelLaws.{channel-append, channel-take}

pub length-triples : (block : List ℤ) → length (triples_of block) ≡ length block / 3
length-triples [] = refl
length-triples (x ∷ []) = refl
length-triples (x ∷ (y ∷ [])) = refl
length-triples (x ∷ (y ∷ (z ∷ rest))) = omega (arith, length-triples rest)

three-more : (n : ℕ) → 3 * suc n ≡ suc (suc (suc (3 * n)))
three-more n = omega arith

-- n triples from triple a on
pub triples-take : (n : ℕ) (block : List ℤ) → triples_of (take (3 * n) block) ≡ take n (triples_of block)
triples-take zero block = refl
triples-take (suc n) [] = rw (three-more n)
triples-take (suc n) (x ∷ []) = rw (three-more n)
triples-take (suc n) (x ∷ (y ∷ [])) = rw (three-more n)
triples-take (suc n) (x ∷ (y ∷ (z ∷ rest))) = rw (three-more n) (ap (λ (l : List (Three ℤ)). record { a = x; b = y; c = z } ∷ l) (triples-take n rest))

pub triples-drop : (n : ℕ) (block : List ℤ) → triples_of (drop (3 * n) block) ≡ drop n (triples_of block)
triples-drop zero block = refl
triples-drop (suc n) [] = rw (three-more n)
triples-drop (suc n) (x ∷ []) = rw (three-more n)
triples-drop (suc n) (x ∷ (y ∷ [])) = rw (three-more n)
triples-drop (suc n) (x ∷ (y ∷ (z ∷ rest))) = rw (three-more n) (triples-drop n rest)

pub triples-part : (a n : ℕ) (block : List ℤ) → triples_of (take (3 * n) (drop (3 * a) block)) ≡ take n (drop a (triples_of block))
triples-part a n block = triples-take n (drop (3 * a) block) ∙ ap (take n) (triples-drop a block)

-- triples of samples: every channel's are samples
abbrev pub TripleSamples : List (Three ℤ) → Type 0
TripleSamples rec = (c : Channel) → Samples (channel c rec)

pub triple_samples-append : (rec more : List (Three ℤ)) → TripleSamples rec → TripleSamples more → TripleSamples (rec ++ more)
triple_samples-append rec more p q c = rw (channel-append c rec more) (samples-append (channel c rec) (channel c more) (p c) (q c))

pub triple_samples-take : (n : ℕ) (rec : List (Three ℤ)) → TripleSamples rec → TripleSamples (take n rec)
triple_samples-take n rec p c = rw (channel-take c n rec) (samples-take n (channel c rec) (p c))

pub triples-samples : (block : List ℤ) → Samples block → TripleSamples (triples_of block)
triples-samples [] p c = tt
triples-samples (x ∷ []) p c = tt
triples-samples (x ∷ (y ∷ [])) p c = tt
triples-samples (x ∷ (y ∷ (z ∷ rest))) p c = (one c, triples-samples rest p.1.1.1 c)
  where
    one : (c : Channel) → Sample (at c (record { a = x; b = y; c = z }))
    one on_a = p.0
    one on_b = p.1.0
    one on_c = p.1.1.0
