-- Settings that start accepts, as facts; settings to bytes and back, both ways; and what an answer tells.
use Rattle.std.specs.Prelude.{◌≡◌, refl, ◌≢◌, Bool, true, false, List, ℕ, ◌≤◌, ◌<◌, length, if◌then◌else◌}
use Rattle.std.proofs.Math.Path.{sym}
use Rattle.std.proofs.Common.{◌∙◌, ap, ap₂, arith}
use Rattle.std.proofs.Math.Logic.◌⊎◌.{inl, inr}
use borrow.Author.Tests.{eqb-true, eq-eqb}
use Rattle.octets.specs.Bytes.{Bytes}
use Rattle.octets.specs.RowLaws.{Fit, length-row, numbers_in-row, row-numbers_in}
use Rattle.numbers.specs.Notation.{◌≡ᵇ◌}
use Rattle.numbers.specs.NotationLaws.{refuse-passes, refuse-none}
use Rattle.numbers.specs.Rules.{passes, Holds}
use Rattle.numbers.specs.Rules.Rule.{◌and◌}
use Rattle.numbers.proofs.RulesLaws.{holds, passed}
use Rattle.numbers.specs.Answers.{answered}
use Rattle.numbers.specs.Answers.Answered.{accepted, refused}
use Rattle.numbers.specs.AnswersLaws.{accepted-is, refused-is}
use Rattle.settings.specs.Settings.{window_length_of, numbers_of, settings_from, settings_widths, settings_length, settings_bytes, settings_of, ValidSettings}
use Rattle.settings.specs.Settings.{settings_refusal, start_refusal, settings_read}
use Rattle.settings.specs.Settings.{samples_rule, frequency_rule, declared_rule, limit_rule, levels_rule, order_rule}
use Rattle.settings.specs.declared.Settings.{Settings}

-- the window has 100 or 120 values
pub window_length_of-some : (s : Settings) → 0 < window_length_of s
window_length_of-some s = go (s.frequency ≡ᵇ 50)
  where
    go : (b : Bool) → 0 < (if b then 100 else 120)
    go true = omega arith
    go false = omega arith

pub window_length_of-most : (s : Settings) → window_length_of s ≤ 120
window_length_of-most s = go (s.frequency ≡ᵇ 50)
  where
    go : (b : Bool) → (if b then 100 else 120) ≤ 120
    go true = omega arith
    go false = omega arith

module _ (s : Settings) where
  pub refusal-valid : settings_refusal s ≡ 0 → ValidSettings s
  unfolding settings_refusal
  refusal-valid e =
      let r2 = refuse-none 2 (passes (samples_rule s)) _ (omega arith) e in
      let r3 = refuse-none 3 (passes (frequency_rule s)) _ (omega arith) r2.1 in
      let r4 = refuse-none 4 (passes (declared_rule s)) _ (omega arith) r3.1 in
      let r5 = refuse-none 5 (passes (limit_rule s)) _ (omega arith) r4.1 in
      let r6 = refuse-none 6 (passes (levels_rule s and order_rule s)) _ (omega arith) r5.1 in
      let levels = holds (levels_rule s and order_rule s) r6.0 in
      record {
        samples-valid = holds (samples_rule s) r2.0;
        frequency-valid = holds (frequency_rule s) r3.0;
        declared-valid = holds (declared_rule s) r4.0;
        limit-valid = holds (limit_rule s) r5.0;
        levels-valid = levels.0;
        order-valid = levels.1;
      }

  pub valid-refusal : ValidSettings s → settings_refusal s ≡ 0
  unfolding settings_refusal
  valid-refusal v =
      refuse-passes 2 _ (passed (samples_rule s) v.samples-valid)
      ∙ refuse-passes 3 _ (passed (frequency_rule s) v.frequency-valid)
      ∙ refuse-passes 4 _ (passed (declared_rule s) v.declared-valid)
      ∙ refuse-passes 5 _ (passed (limit_rule s) v.limit-valid)
      ∙ refuse-passes 6 _ (passed (levels_rule s and order_rule s) (v.levels-valid, v.order-valid))

  pub frequency-most : ValidSettings s → s.frequency ≤ 60
  frequency-most v = go v.frequency-valid
    where
      go : Holds (frequency_rule s) → s.frequency ≤ 60
      go (inl p) = omega arith
      go (inr p) = omega arith

  -- each of the nine numbers fits 4 bytes
  pub valid-fit : ValidSettings s → Fit settings_widths (numbers_of s)
  valid-fit v = let f = frequency-most v in
      (omega arith, (omega arith, (omega arith, (omega arith, (omega arith, (omega arith, (omega arith, (omega arith, (omega arith, tt)))))))))

-- settings → bytes → settings
pub settings_of-settings_bytes : (s : Settings) → ValidSettings s → settings_of (settings_bytes s) ≡ s
settings_of-settings_bytes s v = ap settings_from (numbers_in-row settings_widths (numbers_of s) (valid-fit s v))

pub length-settings_bytes : (s : Settings) → length (settings_bytes s) ≡ settings_length
length-settings_bytes s = length-row settings_widths (numbers_of s) refl

pub settings_read-settings_bytes : (s : Settings) → ValidSettings s → settings_read (settings_bytes s) ≡ accepted s
unfolding settings_read start_refusal
settings_read-settings_bytes s v =
    let e = settings_of-settings_bytes s v in
    let n : start_refusal (settings_bytes s) ≡ 0 =
    refuse-passes 1 _ (eq-eqb (length (settings_bytes s)) settings_length (length-settings_bytes s)) ∙ (ap settings_refusal e ∙ valid-refusal s v) in
    ap₂ answered n e

-- what an accepted answer tells
module _ (b : List ℕ) where
  pub record Accepted (s : Settings) : Type 0 where
    pub none : start_refusal b ≡ 0
    pub long : length b ≡ settings_length
    pub settings-are : s ≡ settings_of b
    pub valid : ValidSettings s

  pub read-accepted : (s : Settings) → settings_read b ≡ accepted s → Accepted s
  unfolding settings_read start_refusal
  read-accepted s e =
      let is = accepted-is (start_refusal b) (settings_of b) s e in
      let r = refuse-none 1 (length b ≡ᵇ settings_length) (settings_refusal (settings_of b)) (omega arith) is.0 in
      record {
        none = is.0;
        long = eqb-true _ _ r.0;
        settings-are = sym is.1;
        valid = refusal-valid s (ap settings_refusal (sym is.1) ∙ r.1);
      }

  -- bytes → settings → bytes
  pub settings_bytes-settings_read : Bytes b → (s : Settings) → settings_read b ≡ accepted s → settings_bytes s ≡ b
  settings_bytes-settings_read are s e =
      let a = read-accepted s e in
      ap settings_bytes a.settings-are ∙ row-numbers_in settings_widths b are a.long

  -- a refusal is start's number, and not 0
  pub read-refused : (n : ℕ) → settings_read b ≡ refused n → (start_refusal b ≡ n) × (n ≢ 0)
  unfolding settings_read
  read-refused n e =
      let is = refused-is (start_refusal b) n (settings_of b) e in
      (is.0, λ z. omega (arith, is.1))
