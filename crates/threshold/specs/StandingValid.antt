-- What refusal 11 allows of an event is kept by the step, from every allowed state, also from one that no recording gives.
use Rattle.std.specs.Prelude.{◌≡◌, Bool, ◌||◌, if◌then◌else◌}
use Rattle.std.proofs.Math.Path.{refl}
use Rattle.std.proofs.Math.Bool.{true, false}
use Prim.Native.Nat.{ℕ, suc, ◌≤◌}
use native.Mathlib.Omega.{arith}
use Rattle.std.proofs.lemmas.Bool.{eqb-false}
use Rattle.numbers.specs.Notation.{◌≡ᵇ◌}
use Rattle.numbers.specs.NotationLaws.{flag-most}
use Rattle.reading.specs.declared.Kind.{Kind}
use Rattle.reading.specs.declared.Kind.TheVariants.{Dip, Swell, Interruption}
use Rattle.threshold.specs.declared.Standing.{Standing}
use Rattle.threshold.specs.Standing.{worse, worsened, no_event, stepped, ValidStanding}

pub no_event-valid : (v : ℕ) → ValidStanding v no_event
no_event-valid v = (omega arith, (omega arith, (λ e. refl, (omega arith, λ e. refl))))

worse-le : (k : Kind) (a b : ℕ) → a ≤ 524288 → b ≤ 524288 → worse k a b ≤ 524288
worse-le Dip a b p q = omega arith
worse-le Swell a b p q = omega arith
worse-le Interruption a b p q = omega arith

module _ (k : Kind) (v r : ℕ) (clipped : Bool) (p : Standing) (r-le : r ≤ 524288) (valid : ValidStanding v p) where
  worsened-valid : (p.start ≡ 0 → ⊥) → ValidStanding (suc v) (worsened k r clipped p)
  worsened-valid some = (
    omega arith,
    (worse-le k r p.magnitude r-le valid.1.0, (λ e. absurd (some e), (flag-most (clipped || p.clipped), λ e. absurd (some e)))),
  )

  pub stepped-valid : (begins ends : Bool) → ValidStanding (suc v) (stepped k (suc v) r clipped begins ends p)
  unfolding stepped
  stepped-valid begins ends = go begins ends (p.start ≡ᵇ 0) refl
    where
      go : (b e z : Bool) → (p.start ≡ᵇ 0) ≡ z →
          ValidStanding (suc v) (if b then (if z then record { start = suc v; magnitude = r; clipped = clipped } else worsened k r clipped p)
          else if e then no_event else if z then no_event else worsened k r clipped p)
      go true e true h = (omega arith, (r-le, (λ q. absurd (omega arith), (flag-most clipped, λ q. absurd (omega arith)))))
      go true e false h = worsened-valid (eqb-false p.start 0 h)
      go false true z h = no_event-valid (suc v)
      go false false true h = no_event-valid (suc v)
      go false false false h = worsened-valid (eqb-false p.start 0 h)
