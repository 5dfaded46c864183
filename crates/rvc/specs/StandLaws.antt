-- The first stand from a value k on, of any history: `here` tells whether a dip or a swell first stands at its newest entry. And the number that a change since
-- k keeps, which is k where one stands at k − 1: `stood` tells whether one stands at the newest entry.
use Rattle.std.specs.Prelude.{◌≡◌, refl, Bool, true, false, ◌&&◌, ◌||◌, List, [], ◌∷◌, ℕ, zero, suc, ◌+◌, ◌-◌, ◌≤◌, ◌<◌, length, drop, if◌then◌else◌}
use Rattle.std.proofs.Common.{sym, ◌∙◌, ap, arith, lt-ltb, le-leb}
use Rattle.std.proofs.Math.Bool.{and-true, and-false}
use Rattle.std.proofs.lemmas.Bool.{lt-leb}
use Rattle.numbers.specs.Notation.{◌≤ᵇ◌, ◌<ᵇ◌}
use Rattle.reading.specs.Values.{up_to}
use Rattle.reading_laws.specs.SignalLaws.{up_to-older}

module _ {X : Type 0} (here : List X → Bool) (first : ℕ → List X → ℕ) (first-none : (k : ℕ) → first k [] ≡ 0)
    (first_more : (k : ℕ) (r : X) (older : List X) → first k (r ∷ older)
    ≡ (if 0 <ᵇ first k older then first k older else if k ≤ᵇ suc (length older) && here (r ∷ older) then suc (length older) else 0)) where
  -- from k on, a value more
  stand-grows : (k : ℕ) (r : X) (older : List X) → k ≤ suc (length older) →
      first k (r ∷ older) ≡ (if 0 <ᵇ first k older then first k older else if here (r ∷ older) then suc (length older) else 0)
  stand-grows k r older h = let e : (k ≤ᵇ suc (length older)) ≡ true = le-leb k (suc (length older)) h in first_more k r older ∙ rw e

  -- none has stood from k on before value k
  stand-none : (k : ℕ) (hist : List X) → length hist < k → first k hist ≡ 0
  stand-none k [] h = first-none k
  stand-none k (r ∷ older) h =
      let e : first k older ≡ 0 = stand-none k older (omega arith) in
      let f : (k ≤ᵇ suc (length older)) ≡ false = lt-leb k (suc (length older)) h in
      first_more k r older ∙ rw (e, f)

  stand-begins : (r : X) (older : List X) → first (suc (length older)) (r ∷ older) ≡ (if here (r ∷ older) then suc (length older) else 0)
  stand-begins r older =
      let i : ℕ = suc (length older) in
      let e : first i older ≡ 0 = stand-none i older (omega arith) in
      stand-grows i r older (omega arith) ∙ rw e

  -- the first stand is at one of the values
  stand-le : (k : ℕ) (hist : List X) → first k hist ≤ length hist
  stand-le k [] = omega (arith, first-none k)
  stand-le k (r ∷ older) = rw (first_more k r older) (go (0 <ᵇ first k older) (k ≤ᵇ suc (length older) && here (r ∷ older)) (stand-le k older))
    where
      go : (b now : Bool) → first k older ≤ length older → (if b then first k older else if now then suc (length older) else 0) ≤ suc (length older)
      go true now h = omega arith
      go false true h = omega arith
      go false false h = omega arith

  -- a stand among all but the n newest values is one that is not after them
  stand-settled : (k n : ℕ) (hist : List X) → (0 <ᵇ first k (drop n hist)) ≡ (0 <ᵇ first k hist && first k hist ≤ᵇ length hist - n)
  stand-settled k zero hist =
      let f : ℕ = first k hist in
      let h : f ≤ length hist = stand-le k hist in
      let e : (f ≤ᵇ length hist - 0) ≡ true = le-leb f (length hist - 0) (omega arith) in
      rw e (sym (and-true (0 <ᵇ f)))
  stand-settled k (suc n) [] = rw (first-none k)
  stand-settled k (suc n) (r ∷ older) =
      stand-settled k n older ∙ rw (first_more k r older) (go (0 <ᵇ first k older) (k ≤ᵇ i && here (r ∷ older)) (first k older) refl)
    where
      i : ℕ
      i = suc (length older)

      at : Bool → Bool → ℕ → ℕ
      at b now f = if b then f else if now then i else 0

      go : (b now : Bool) (f : ℕ) → (0 <ᵇ f) ≡ b → (b && f ≤ᵇ length older - n) ≡ (0 <ᵇ at b now f && at b now f ≤ᵇ suc (length older) - suc n)
      go true now f e = let d : suc (length older) - suc n ≡ length older - n = omega arith in rw (d, e)
      go false true f e =
          let g : (i ≤ᵇ suc (length older) - suc n) ≡ false = lt-leb i (suc (length older) - suc n) (omega arith) in
          rw g (sym (and-false (0 <ᵇ i)))
      go false false f e = refl

  module _ (stood : List X → Bool) where
    -- whether one stood at k − 1, and the number kept
    abbrev before : ℕ → List X → Bool
    before k hist = stood (up_to (k - 1) hist)

    abbrev kept : ℕ → List X → ℕ
    kept k hist = if before k hist then k else first k hist

    before-stays : (k : ℕ) (r : X) (older : List X) → 0 < k → k ≤ length older → before k (r ∷ older) ≡ before k older
    before-stays k r older some seen = ap stood (up_to-older (k - 1) r older (omega arith))

    pub kept-begins : (r : X) (older : List X) → kept (suc (length older)) (r ∷ older) ≡ (if here (r ∷ older) || stood older then suc (length older) else 0)
    kept-begins r older =
        let one : suc (length older) - (suc (length older) - 1) ≡ 1 = omega arith in
        rw (one, stand-begins r older) (go (here (r ∷ older)) (stood older))
      where
        go : (h b : Bool) → (if b then suc (length older) else if h then suc (length older) else 0) ≡ (if h || b then suc (length older) else 0)
        go true true = refl
        go true false = refl
        go false b = refl

    pub kept-grows : (k : ℕ) (r : X) (older : List X) → 0 < k → k ≤ length older →
        kept k (r ∷ older) ≡ (if 0 <ᵇ kept k older then kept k older else if here (r ∷ older) then suc (length older) else 0)
    kept-grows k r older some seen = rw (before-stays k r older some seen, stand-grows k r older (omega arith)) (go (before k older))
      where
        go : (b : Bool) → (if b then k else if 0 <ᵇ first k older then first k older else if here (r ∷ older) then suc (length older) else 0)
            ≡ (let f = if b then k else first k older in if 0 <ᵇ f then f else if here (r ∷ older) then suc (length older) else 0)
        go true = rw (lt-ltb 0 k some)
        go false = refl

    -- the change that ends n values after k at the least is dropped where the number kept is not after its settled values
    pub kept-settled : (k n : ℕ) (hist : List X) → 0 < k → k + n ≤ length hist →
        (before k hist || 0 <ᵇ first k (drop n hist)) ≡ (0 <ᵇ kept k hist && kept k hist ≤ᵇ length hist - n)
    kept-settled k n hist some full = go (before k hist)
      where
        go : (b : Bool) → (b || 0 <ᵇ first k (drop n hist)) ≡ (let f = if b then k else first k hist in 0 <ᵇ f && f ≤ᵇ length hist - n)
        go true = rw (lt-ltb 0 k some, le-leb k (length hist - n) (omega arith))
        go false = stand-settled k n hist
