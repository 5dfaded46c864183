-- The gatherer follows the recording: with one sample more, the gatherer read from a recording is the one read from the longer recording, and what comes out
-- is the value that is new. So lent to one sample after the other, it is the recording's.
use Rattle.std.specs.Prelude.{◌≡◌, ℕ, zero, suc, ◌+◌, ◌-◌, ◌*◌, ◌%◌, ◌^◌, ◌<◌, ◌≤◌, Bool, true, false, ◌||◌, List, [], ◌∷◌, ◌++◌, map, length, drop, ℤ, refl, if◌then◌else◌}
use Rattle.std.proofs.Common.{sym, ◌∙◌, ap, ap₂, append-nil, arith, mod-lt, div-add-mod', le-div_iff_mul-le, add-one}
use Rattle.std.proofs.Common.{length-append, length-drop, drop_of_length-le, take_all, ltb-false, lt-ltb, eqb-true}
use Rattle.std.proofs.Math.Nat.{zero-div, zero-mod}
use Rattle.std.proofs.Math.Seq.{append_snoc, drop-nil}
use Rattle.std.proofs.lemmas.List.{drop-append-le}
use Rattle.std.proofs.lemmas.Bool.{eqb-false}
use Rattle.numbers.specs.Notation.{◌<ᵇ◌, ◌≡ᵇ◌, flag}
use Rattle.numbers.specs.NotationLaws.{flag-most, flag-none}
use Rattle.settings.specs.declared.Settings.{Settings}
use Rattle.rms.specs.declared.Marked.{Marked}
use Rattle.reading.specs.Values.{Samples, squares, half, energy, rms, value, halves, in_progress, value_count, history, values}
use Rattle.reading.specs.Clipping.{any_clipped, half_clipped, value_clipped, marks}
use Rattle.reading.specs.Image.{last_sum, last_clipped}
use Rattle.reading_laws.specs.DivisionLaws.{mod_same, mod-next}
use Rattle.reading_laws.specs.RecordingsLaws.{samples-drop, squares-append, squares-le, any_clipped-append, energy-le, half-grow, history-grow, marks-grow}
use Rattle.reading_laws.specs.RecordingsLaws.{halves-same, halves-next, value_count-same, value_count-next, value_count-first}
use Rattle.rms.specs.declared.Gatherer.{Gatherer}
use Rattle.rms.specs.Gather.{part_of, no_sample, with_part, with_half, ends_with, value_with, value_from, gathered, gatherer_of, ValidGatherer}
use Rattle.rms.specs.CutLaws.{ends_with-is}
use Rattle.rms.specs.GatherLaws.{same-gatherer, value_none, value-one}

-- lent to one sample after the other
abbrev pub gathered_each : ℕ → Gatherer → List ℤ → Gatherer
gathered_each m g [] = g
gathered_each m g (x ∷ xs) = gathered_each m (gathered m g x).gatherer xs

module _ (s : Settings) (some : 0 < s.samples) where
  abbrev m : ℕ
  m = s.samples

  module _ (rec : List ℤ) where
    -- where the half-cycle in progress begins
    abbrev start : ℕ
    start = halves s rec * m

    base : start + length rec % m ≡ length rec
    base = div-add-mod' (length rec) m

    -- one sample more
    module _ (x : ℤ) where
      abbrev one : List ℤ
      one = x ∷ []

      abbrev longer : List ℤ
      longer = rec ++ one

      abbrev g : Gatherer
      g = gatherer_of s rec

      in-progress : drop start longer ≡ in_progress s rec ++ one
      in-progress = drop-append-le start rec one (omega (arith, base))

      -- a half-cycle that is whole stays as it is
      half-same : (h : ℕ) → suc h ≤ halves s rec → half s longer (suc h) ≡ half s rec (suc h)
      half-same h p = half-grow s rec one (suc h) (omega arith) ((le-div_iff_mul-le some).0 p)

      last-same : (h : ℕ) → h ≤ halves s rec → last_sum s longer h ≡ last_sum s rec h
      last-same zero p = refl
      last-same (suc h) p = ap squares (half-same h p)

      mark-same : (h : ℕ) → h ≤ halves s rec → last_clipped s longer h ≡ last_clipped s rec h
      mark-same zero p = refl
      mark-same (suc h) p = ap any_clipped (half-same h p)

      -- it completes nothing
      module _ (h : length rec % m + 1 < m) where
        same-halves : halves s longer ≡ halves s rec
        same-halves = halves-same s rec one some h

        part-follows : with_part g (part_of one) ≡ gatherer_of s longer
        part-follows =
            sym (same-gatherer
            (rw length-append (mod_same (length rec) 1 m h))
            (rw (same-halves, in-progress) (squares-append (in_progress s rec) one))
            (rw same-halves (last-same (halves s rec) (omega arith)))
            (rw same-halves)
            (rw (same-halves, in-progress) (any_clipped-append (in_progress s rec) one))
            (rw same-halves (mark-same (halves s rec) (omega arith))))

      -- it completes the half-cycle
      module _ (h : length rec % m + 1 ≡ m) where
        next-halves : halves s longer ≡ suc (halves s rec)
        next-halves = halves-next s rec one some h ∙ add-one (halves s rec)

        half-next : half s longer (suc (halves s rec)) ≡ in_progress s rec ++ one
        half-next =
            let e : suc (halves s rec) - 1 ≡ halves s rec = omega arith in
            rw (e, in-progress) (take_all m (in_progress s rec ++ one) (simp (length-append, length-drop) (omega (arith, base))))

        energy-next : energy s longer (suc (halves s rec)) ≡ g.sum + squares one
        energy-next = ap squares half-next ∙ squares-append (in_progress s rec) one

        mark-next : half_clipped s longer (suc (halves s rec)) ≡ (g.clipped || any_clipped one)
        mark-next = ap any_clipped half-next ∙ any_clipped-append (in_progress s rec) one

        half-follows : with_half g (part_of one) ≡ gatherer_of s longer
        half-follows =
            let all : length longer ≤ halves s longer * m = omega (arith, length-append rec one, base, ap (λ (q : ℕ). q * m) next-halves) in
            let none = drop_of_length-le longer {i = halves s longer * m} all in
            sym (same-gatherer
            (rw length-append (mod-next (length rec) 1 m some h))
            (ap squares none)
            (ap (last_sum s longer) next-halves ∙ energy-next)
            (lt-ltb 0 (halves s longer) (omega (arith, next-halves)))
            (ap any_clipped none)
            (ap (last_clipped s longer) next-halves ∙ mark-next))

        -- the value that is new, of the last half-cycle and this one, and its mark
        module _ (after : suc (value_count s rec) ≡ halves s rec) where
          value-new : value s longer (suc (value_count s rec)) ≡ (value_with m g (part_of one)).value
          value-new =
              ap₂ (rms m)
              (ap (last_sum s longer) after ∙ last-same (halves s rec) (omega arith))
              (ap (energy s longer) (add-one (suc (value_count s rec)) ∙ ap suc after) ∙ energy-next)

          mark-new : value_clipped s longer (suc (value_count s rec)) ≡ (value_with m g (part_of one)).clipped
          mark-new =
              ap₂ ◌||◌
              (ap (last_clipped s longer) after ∙ mark-same (halves s rec) (omega arith))
              (ap (half_clipped s longer) (add-one (suc (value_count s rec)) ∙ ap suc after) ∙ mark-next)

      -- and the cut says which
      ends_at : (b : Bool) → ends_with m g x ≡ b → (length rec % m + 1 ≡ᵇ m) ≡ b
      ends_at b e = sym (ends_with-is m g (mod-lt (length rec) some) x) ∙ e

      ends : ends_with m g x ≡ true → length rec % m + 1 ≡ m
      ends e = eqb-true (length rec % m + 1) m (ends_at true e)

      goes_on : ends_with m g x ≡ false → length rec % m + 1 < m
      goes_on e = omega (arith, eqb-false (length rec % m + 1) m (ends_at false e), mod-lt (length rec) some)

      pub gatherer-follows : (gathered m g x).gatherer ≡ gatherer_of s longer
      gatherer-follows = go (ends_with m g x) refl
        where
          go : (b : Bool) → ends_with m g x ≡ b → (if b then with_half g (part_of one) else with_part g (part_of one)) ≡ gatherer_of s longer
          go true e = half-follows (ends e)
          go false e = part-follows (goes_on e)

      -- what comes out, and a list that is read from a recording up to a value: the values, or their marks
      abbrev out : List Marked
      out = if ends_with m g x then value_from m g (part_of one) else []

      module _ (of : Marked → ℕ) (list : List ℤ → ℕ → List ℕ) (same : list longer (value_count s rec) ≡ list rec (value_count s rec))
          (new : length rec % m + 1 ≡ m → suc (value_count s rec) ≡ halves s rec
          → list longer (suc (value_count s rec)) ≡ of (value_with m g (part_of one)) ∷ list longer (value_count s rec)) where
        list-next : (h : length rec % m + 1 ≡ m) (n : ℕ) → halves s rec ≡ n
            → list longer (value_count s longer) ≡ map of (value_from m g (part_of one)) ++ list rec (value_count s rec)
        list-next h zero e =
            let none : value_count s longer ≡ value_count s rec = omega (arith, value_count-first s rec one some h e) in
            rw (value_none m g (part_of one) (ap (λ (n : ℕ). 0 <ᵇ n) e)) (ap (list longer) none ∙ same)
        list-next h (suc n) e =
            rw (value-one m g (part_of one) (lt-ltb 0 (halves s rec) (omega arith)))
            (ap (list longer) (value_count-next s rec one some h (omega arith) ∙ add-one (value_count s rec))
            ∙ (new h (omega arith) ∙ ap (λ (l : List ℕ). of (value_with m g (part_of one)) ∷ l) same))

        list-follows : list longer (value_count s longer) ≡ map of out ++ list rec (value_count s rec)
        list-follows = go (ends_with m g x) refl
          where
            go : (b : Bool) → ends_with m g x ≡ b
                → list longer (value_count s longer) ≡ map of (if b then value_from m g (part_of one) else []) ++ list rec (value_count s rec)
            go true e = list-next (ends e) (halves s rec) refl
            go false e = ap (list longer) (value_count-same s rec one some (goes_on e)) ∙ same

      pub values-follow : values s longer ≡ map (λ (v : Marked). v.value) out ++ values s rec
      values-follow =
          list-follows (λ v. v.value) (history s) (history-grow s rec one some (value_count s rec) (omega arith))
          (λ h after. ap (λ (v : ℕ). v ∷ history s longer (value_count s rec)) (value-new h after))

      pub marks-follow : marks s longer (value_count s longer) ≡ map (λ (v : Marked). flag v.clipped) out ++ marks s rec (value_count s rec)
      marks-follow =
          list-follows (λ v. flag v.clipped) (marks s) (marks-grow s rec one some (value_count s rec) (omega arith))
          (λ h after. ap (λ (b : Bool). flag b ∷ marks s longer (value_count s rec)) (mark-new h after))

    pub gatherer_of-valid : Samples rec → ValidGatherer m (gatherer_of s rec)
    gatherer_of-valid are = (
      mod-lt (length rec) some,
      (
        omega (arith, squares-le (drop start rec) (samples-drop start rec are), length-drop start rec, base),
        (
          last-le (halves s rec),
          (
            flag-most (0 <ᵇ halves s rec),
            (
              λ p. ap (last_sum s rec) (none p),
              (
                (flag-most (any_clipped (in_progress s rec)), empty),
                (flag-most (last_clipped s rec (halves s rec)), λ p. ap (λ (h : ℕ). flag (last_clipped s rec h)) (none p)),
              ),
            ),
          ),
        ),
      ),
    )
      where
        none : flag (0 <ᵇ halves s rec) ≡ 0 → halves s rec ≡ 0
        none p = omega (arith, ltb-false 0 (halves s rec) (flag-none (0 <ᵇ halves s rec) p))

        last-le : (h : ℕ) → last_sum s rec h ≤ m * 2 ^ 30
        last-le zero = omega arith
        last-le (suc h) = energy-le s rec are (suc h)

        empty : length rec % m ≡ 0 → flag (any_clipped (in_progress s rec)) ≡ 0
        empty p = ap (λ (l : List ℤ). flag (any_clipped l)) (drop_of_length-le rec {i = start} (omega (arith, base)))

  -- from no sample on
  pub no_sample-is : no_sample ≡ gatherer_of s []
  no_sample-is =
      let none = zero-div m in
      let empty = drop-nil (halves s [] * m) in
      sym (same-gatherer (zero-mod m) (ap squares empty) (rw none) (rw none) (ap any_clipped empty) (rw none))

  each_from : (rec xs : List ℤ) → gathered_each m (gatherer_of s rec) xs ≡ gatherer_of s (rec ++ xs)
  each_from rec [] = ap (gatherer_of s) (sym (append-nil rec))
  each_from rec (x ∷ xs) = rw (gatherer-follows rec x) (each_from (rec ++ (x ∷ [])) xs ∙ ap (gatherer_of s) (append_snoc rec x xs))

  pub each-follows : (rec : List ℤ) → gathered_each m no_sample rec ≡ gatherer_of s rec
  each-follows rec = rw no_sample-is (each_from [] rec)
