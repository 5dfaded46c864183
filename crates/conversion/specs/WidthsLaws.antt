-- The widths that differ between editions: each is at most 8 where a count's is, and at least as great where a count's is; and that widths hold numbers, as a
-- test and as a fact.
use Rattle.std.specs.Prelude.{◌≡◌, refl, true, List, [], ◌∷◌, ℕ, suc, ◌^◌, ◌≤◌, length}
use Rattle.std.proofs.Common.{ap, arith, ltb-true, lt-ltb}
use Rattle.std.proofs.Math.Nat.{pow-le-pow_right}
use Rattle.octets.specs.Bytes.{Narrow}
use Rattle.octets.specs.RowLaws.{Fit}
use Rattle.numbers.specs.Notation.{◌<ᵇ◌}
use Rattle.numbers.specs.NotationLaws.{and-true, and_left, and_right}
use Rattle.reading.specs.Layout.{record_widths_with, events_widths_with}
use Rattle.conversion.specs.Conversion.{fits}

pub narrow-record : (c : ℕ) → c ≤ 8 → Narrow (record_widths_with c)
narrow-record c h = (omega arith, (omega arith, (omega arith, (h, (h, (omega arith, (omega arith, tt)))))))

pub narrow-events : (c : ℕ) → c ≤ 8 → Narrow (events_widths_with c)
narrow-events c h = (
  omega arith,
  (
    h,
    (
      omega arith,
      (
        omega arith,
        (
          h,
          (
            h,
            (
              omega arith,
              (
                h,
                (
                  omega arith,
                  (
                    h,
                    (
                      omega arith,
                      (omega arith, (omega arith, (omega arith, (omega arith, tt)))),
                    ),
                  ),
                ),
              ),
            ),
          ),
        ),
      ),
    ),
  ),
)

-- numbers that fit are as many as the widths
pub fit_length : (ws ns : List ℕ) → Fit ws ns → length ns ≡ length ws
fit_length [] [] h = refl
fit_length [] (n ∷ ns) h = absurd h
fit_length (w ∷ ws) [] h = absurd h
fit_length (w ∷ ws) (n ∷ ns) h = ap suc (fit_length ws ns h.1)

-- a row that passes the test fits, and one that fits passes
pub fit-by-test : (ws ns : List ℕ) → length ns ≡ length ws → fits ws ns ≡ true → Fit ws ns
fit-by-test [] [] e h = tt
fit-by-test [] (n ∷ ns) e h = absurd (omega arith)
fit-by-test (w ∷ ws) [] e h = absurd (omega arith)
fit-by-test (w ∷ ws) (n ∷ ns) e h =
    (ltb-true n (256 ^ w) (and_left (n <ᵇ 256 ^ w) (fits ws ns) h), fit-by-test ws ns (omega arith) (and_right (n <ᵇ 256 ^ w) (fits ws ns) h))

pub fit-passes : (ws ns : List ℕ) → Fit ws ns → fits ws ns ≡ true
fit-passes [] ns h = refl
fit-passes (w ∷ ws) [] h = absurd h
fit-passes (w ∷ ws) (n ∷ ns) h = and-true (lt-ltb n (256 ^ w) h.0) (fit-passes ws ns h.1)

-- widths that are each at least as great: what fits the first fits the second
abbrev pub Wider : List ℕ → List ℕ → Type 0
Wider [] [] = Unit {0}
Wider [] (v ∷ vs) = ⊥
Wider (w ∷ ws) [] = ⊥
Wider (w ∷ ws) (v ∷ vs) = (w ≤ v) × Wider ws vs

pub fit-wider : (ws vs ns : List ℕ) → Wider ws vs → Fit ws ns → Fit vs ns
fit-wider [] [] ns h f = f
fit-wider [] (v ∷ vs) ns h f = absurd h
fit-wider (w ∷ ws) [] ns h f = absurd h
fit-wider (w ∷ ws) (v ∷ vs) [] h f = absurd f
fit-wider (w ∷ ws) (v ∷ vs) (n ∷ ns) h f =
    let more : 256 ^ w ≤ 256 ^ v = pow-le-pow_right (omega arith) h.0 in
    (omega (arith, f.0), fit-wider ws vs ns h.1 f.1)

pub wider-record : (from to : ℕ) → from ≤ to → Wider (record_widths_with from) (record_widths_with to)
wider-record from to h = (omega arith, (omega arith, (omega arith, (h, (h, (omega arith, (omega arith, tt)))))))

pub wider-events : (from to : ℕ) → from ≤ to → Wider (events_widths_with from) (events_widths_with to)
wider-events from to h = (
  omega arith,
  (
    h,
    (
      omega arith,
      (
        omega arith,
        (
          h,
          (
            h,
            (
              omega arith,
              (
                h,
                (
                  omega arith,
                  (
                    h,
                    (
                      omega arith,
                      (omega arith, (omega arith, (omega arith, (omega arith, tt)))),
                    ),
                  ),
                ),
              ),
            ),
          ),
        ),
      ),
    ),
  ),
)
