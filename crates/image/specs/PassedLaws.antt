-- What an edition's restore accepts: bytes that pass all its tests, and no others. The edition is the one whose counts have c bytes.
use Rattle.std.specs.Prelude.{◌≡◌, ℕ, length, get_or}
use Rattle.std.proofs.Common.{◌∙◌, ap, subst, arith}
use mathlib.Core.List.{List}
use borrow.Author.Tests.{eqb-true, eq-eqb}
use Rattle.numbers.specs.Notation.{◌≡ᵇ◌}
use Rattle.numbers.specs.NotationLaws.{refuse-passes, refuse-none}
use Rattle.numbers.specs.Rules.{passes, Holds}
use Rattle.numbers.proofs.RulesLaws.{holds, passed}
use Rattle.settings.specs.declared.Settings.{Settings}
use Rattle.settings.specs.Settings.{window_length_of, settings_of, start_refusal}
use Rattle.reading.specs.Layout.{table_length, image_length_with}
use Rattle.reading.specs.Image.{table_with}
use Rattle.reading.specs.Restore.{part, same_bytes, gatherer_rule, values_rule, events_rule, settings_part, gatherer_in, values_in_with, events_in_with, restore_refusal_with}
use Rattle.bodies.specs.BodiesLaws.{same-equal, same-itself}

-- what refusal 11 says of the numbers of an image
pub record Allowed (s : Settings) (gatherer values events : List ℕ) : Type 0 where
  pub gatherer-allowed : Holds (gatherer_rule s.samples gatherer)
  pub values-allowed : Holds (values_rule (window_length_of s) (get_or gatherer 3 0) values)
  pub events-allowed : Holds (events_rule (window_length_of s) (get_or values 0 0) events)

pub allowed-as : {s t : Settings} {g h v w e f : List ℕ} → s ≡ t → g ≡ h → v ≡ w → e ≡ f → Allowed s g v e → Allowed t h w f
allowed-as {s} {t} {g} {h} {v} {w} {e} {f} s-is g-is v-is e-is a =
    subst (λ (x : Settings). Allowed x h w f) s-is
    (subst (λ (x : List ℕ). Allowed s x w f) g-is
    (subst (λ (x : List ℕ). Allowed s g x f) v-is
    (subst (λ (x : List ℕ). Allowed s g v x) e-is a)))

pub record Passed (c : ℕ) (b : List ℕ) : Type 0 where
  pub size : length b ≡ image_length_with c
  pub contents : part 0 table_length b ≡ table_with c
  pub start : start_refusal (settings_part b) ≡ 0
  pub allowed : Allowed (settings_of (settings_part b)) (gatherer_in b) (values_in_with c b) (events_in_with c b)

module _ (c : ℕ) (b : List ℕ) where
  abbrev s : Settings
  s = settings_of (settings_part b)

  abbrev n : ℕ
  n = window_length_of s

  pub passes-all : restore_refusal_with c b ≡ 0 → Passed c b
  unfolding restore_refusal_with
  passes-all e =
      let gatherer = gatherer_rule s.samples (gatherer_in b) in
      let values = values_rule n (get_or (gatherer_in b) 3 0) (values_in_with c b) in
      let events = events_rule n (get_or (values_in_with c b) 0 0) (events_in_with c b) in
      let r8 = refuse-none 8 (length b ≡ᵇ image_length_with c) _ (omega arith) e in
      let r9 = refuse-none 9 (same_bytes (part 0 table_length b) (table_with c)) _ (omega arith) r8.1 in
      let r10 = refuse-none 10 (start_refusal (settings_part b) ≡ᵇ 0) _ (omega arith) r9.1 in
      let r11 = refuse-none 11 (passes gatherer) _ (omega arith) r10.1 in
      let r12 = refuse-none 11 (passes values) _ (omega arith) r11.1 in
      let r13 = refuse-none 11 (passes events) 0 (omega arith) r12.1 in
      record {
        size = eqb-true (length b) (image_length_with c) r8.0;
        contents = same-equal (part 0 table_length b) (table_with c) r9.0;
        start = eqb-true (start_refusal (settings_part b)) 0 r10.0;
        allowed = record {
          gatherer-allowed = holds gatherer r11.0;
          values-allowed = holds values r12.0;
          events-allowed = holds events r13.0;
        };
      }

  pub accepts-passed : Passed c b → restore_refusal_with c b ≡ 0
  unfolding restore_refusal_with
  accepts-passed p =
      refuse-passes 8 _ (eq-eqb (length b) (image_length_with c) p.size)
      ∙ refuse-passes 9 _ (ap (λ (l : List ℕ). same_bytes l (table_with c)) p.contents ∙ same-itself (table_with c))
      ∙ refuse-passes 10 _ (eq-eqb (start_refusal (settings_part b)) 0 p.start)
      ∙ refuse-passes 11 _ (passed (gatherer_rule s.samples (gatherer_in b)) p.allowed.gatherer-allowed)
      ∙ refuse-passes 11 _ (passed (values_rule n (get_or (gatherer_in b) 3 0) (values_in_with c b)) p.allowed.values-allowed)
      ∙ refuse-passes 11 _ (passed (events_rule n (get_or (values_in_with c b) 0 0) (events_in_with c b)) p.allowed.events-allowed)
