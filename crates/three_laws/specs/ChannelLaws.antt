-- The channels: what three have, told by what any one has; and one channel of a list of triples.
use Rattle.std.specs.Prelude.{◌≡◌, refl, Bool, true, false, ◌&&◌, ◌||◌, List, [], ◌∷◌, ◌++◌, ℕ, zero, suc, length, take}
use Rattle.std.proofs.Common.{sym, ◌∙◌, ap, arith}
use Rattle.std.proofs.lemmas.List.{map-append, length-map}
use Rattle.numbers.specs.Notation.{flag}
use Rattle.numbers.specs.NotationLaws.{and_left, and_right}
use Rattle.three_reading.specs.declared.Three.{Three}
use Rattle.three_reading.specs.Three.{each, any_of, all_of, Channel, at, channel, channels}
use Rattle.three_reading.specs.Three.Channel.{on_a, on_b, on_c}

pub at_each : {X Y : Type 0} (c : Channel) (f : X → Y) (t : Three X) → at c (each f t) ≡ f (at c t)
at_each on_a f t = refl
at_each on_b f t = refl
at_each on_c f t = refl

module _ {X : Type 0} where
  -- three are the same if each channel's are
  pub three-same : {t u : Three X} → ((c : Channel) → at c t ≡ at c u) → t ≡ u
  three-same p = λ i. record { a = p on_a i; b = p on_b i; c = p on_c i }

  pub at-channels : (c : Channel) (l : List (Three X)) → at c (channels l) ≡ channel c l
  at-channels on_a l = refl
  at-channels on_b l = refl
  at-channels on_c l = refl

  pub at-each-channel : {Y : Type 0} (c : Channel) (f : List X → Y) (l : List (Three X)) → at c (each f (channels l)) ≡ f (channel c l)
  at-each-channel c f l = at_each c f (channels l) ∙ ap f (at-channels c l)

  -- one channel of a list of triples
  pub length-channel : (c : Channel) (l : List (Three X)) → length (channel c l) ≡ length l
  length-channel c l = length-map l (at c)

  pub channel-append : (c : Channel) (l m : List (Three X)) → channel c (l ++ m) ≡ channel c l ++ channel c m
  channel-append c l m = map-append (at c) l m

  pub channel-take : (c : Channel) (n : ℕ) (l : List (Three X)) → channel c (take n l) ≡ take n (channel c l)
  channel-take c zero l = refl
  channel-take c (suc n) [] = refl
  channel-take c (suc n) (t ∷ ts) = ap (λ (l : List X). at c t ∷ l) (channel-take c n ts)

pub never : {A : Type 0} → true ≡ false → A
never e = let z : ◌≡◌ {A = ℕ} 1 0 = ap flag e in absurd (omega arith)

-- a test that all three pass each one passes; one that not all pass some one fails
pub all-at : (t : Three Bool) → all_of t ≡ true → (c : Channel) → at c t ≡ true
all-at t e on_a = and_left t.a (t.b && t.c) e
all-at t e on_b = and_left t.b t.c (and_right t.a (t.b && t.c) e)
all-at t e on_c = and_right t.b t.c (and_right t.a (t.b && t.c) e)

pub not-all-at : (t : Three Bool) → all_of t ≡ false → (c : Channel) × (at c t ≡ false)
not-all-at t e = go t.a t.b t.c e
  where
    go : (x y z : Bool) → (x && (y && z)) ≡ false → (c : Channel) × (at c (record { a = x; b = y; c = z }) ≡ false)
    go false y z e = (on_a, refl)
    go true false z e = (on_b, refl)
    go true true false e = (on_c, refl)
    go true true true e = never e

-- one that any passes some one passes; one that none passes no one passes
pub any_at : (t : Three Bool) → any_of t ≡ true → (c : Channel) × (at c t ≡ true)
any_at t e = go t.a t.b t.c e
  where
    go : (x y z : Bool) → (x || (y || z)) ≡ true → (c : Channel) × (at c (record { a = x; b = y; c = z }) ≡ true)
    go true y z e = (on_a, refl)
    go false true z e = (on_b, refl)
    go false false true e = (on_c, refl)
    go false false false e = never (sym e)

pub not-any-at : (t : Three Bool) → any_of t ≡ false → (c : Channel) → at c t ≡ false
not-any-at t e c = go t.a t.b t.c e c
  where
    go : (x y z : Bool) → (x || (y || z)) ≡ false → (c : Channel) → at c (record { a = x; b = y; c = z }) ≡ false
    go true y z e c = never e
    go false true z e c = never e
    go false false true e c = never e
    go false false false e on_a = refl
    go false false false e on_b = refl
    go false false false e on_c = refl
