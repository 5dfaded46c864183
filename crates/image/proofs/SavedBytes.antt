-- What save leaves: a shorter buffer as it was, and in a longer one the five sections, one behind the other.
use mathlib.Core.Path.{◌≡◌, refl, sym, ◌∙◌, ap}
use mathlib.Core.List.{List, ◌++◌, append_assoc}
use Prim.Native.Nat.{ℕ, ◌≤◌, ◌<◌}
use native.Mathlib.Omega.{arith}
use lib.ListN.{length, drop, length-append}
use lib.Seq.{drop-drop}
use borrow.Author.Tests.{lt-ltb, le-ltb}
use borrow.Rule.Slice.PartMut.{put_mid}
use Rattle.octets.specs.PartsLaws.{put_next}
use Rattle.settings.specs.Settings.{settings_bytes, settings_length}
use Rattle.settings.specs.SettingsLaws.{length-settings_bytes}
use Rattle.reading.specs.Image.{table}
use Rattle.reading.specs.Layout.{table_length, gatherer_length, values_length, events_length, image_length, settings_offset, gatherer_offset, values_offset, events_offset}
use Rattle.state.specs.declared.State.{State}
use Rattle.image.specs.Image.{gatherer_body, values_body, events_body, image_bytes, save_answer, saved_bytes}
use Rattle.image.specs.ImageLaws.{values-long, length-image_bytes}

module _ (lent : List ℕ) where
  abbrev all_put : List ℕ → List ℕ → List ℕ → List ℕ → List ℕ → List ℕ
  all_put y₀ y₁ y₂ y₃ y₄ =
      put_mid events_offset events_length (put_mid values_offset values_length
      (put_mid gatherer_offset gatherer_length (put_mid settings_offset settings_length (put_mid 0 table_length lent y₀) y₁) y₂) y₃) y₄

  -- five sections, one behind the other
  five-parts : (y₀ y₁ y₂ y₃ y₄ : List ℕ) → length y₀ ≡ table_length → length y₁ ≡ settings_length → length y₂ ≡ gatherer_length → length y₃ ≡ values_length
      → all_put y₀ y₁ y₂ y₃ y₄
      ≡ (y₀ ++ (y₁ ++ (y₂ ++ (y₃ ++ y₄)))) ++ drop image_length lent
  five-parts y₀ y₁ y₂ y₃ y₄ l₀ l₁ l₂ l₃ =
      let r₀ = drop table_length lent in
      let r₁ = drop settings_length r₀ in
      let r₂ = drop gatherer_length r₁ in
      let n₁ : length (y₀ ++ y₁) ≡ gatherer_offset = length-append y₀ y₁ ∙ omega arith in
      let n₂ : length ((y₀ ++ y₁) ++ y₂) ≡ values_offset = length-append (y₀ ++ y₁) y₂ ∙ omega arith in
      let n₃ : length (((y₀ ++ y₁) ++ y₂) ++ y₃) ≡ events_offset = length-append ((y₀ ++ y₁) ++ y₂) y₃ ∙ omega arith in
      let e₁ = put_next settings_offset settings_length (put_mid 0 table_length lent y₀) y₀ r₀ y₁ refl l₀ in
      let e₂ = put_next gatherer_offset gatherer_length _ (y₀ ++ y₁) r₁ y₂ e₁ n₁ in
      let e₃ = put_next values_offset values_length _ ((y₀ ++ y₁) ++ y₂) r₂ y₃ e₂ n₂ in
      put_next events_offset events_length _ (((y₀ ++ y₁) ++ y₂) ++ y₃) (drop values_length r₂) y₄ e₃ n₃ ∙ simp (drop-drop, append_assoc)

  module _ (st : State) where
    pub short-saved : length lent < image_length → (7 ≡ save_answer lent) × (lent ≡ saved_bytes st lent)
    unfolding save_answer saved_bytes
    short-saved h = rw (lt-ltb (length lent) image_length h) (refl, refl)

    pub long-saved : image_length ≤ length lent → length st.window ≡ 120 → length st.marks ≡ 120 → (y₀ y₁ y₂ y₃ y₄ : List ℕ)
        → y₀ ≡ table → y₁ ≡ settings_bytes st.settings → y₂ ≡ gatherer_body st
        → y₃ ≡ values_body st → y₄ ≡ events_body st
        → (0 ≡ save_answer lent)
        × (all_put y₀ y₁ y₂ y₃ y₄ ≡ saved_bytes st lent)
    unfolding save_answer saved_bytes image_bytes
    long-saved h size marks-size y₀ y₁ y₂ y₃ y₄ e₀ e₁ e₂ e₃ e₄ =
        let values-size = ap length e₃ ∙ values-long st size marks-size in
        rw (le-ltb (length lent) image_length h) (
          refl,
          five-parts y₀ y₁ y₂ y₃ y₄ (ap length e₀) (ap length e₁ ∙ length-settings_bytes st.settings) (ap length e₂) values-size
              ∙ (λ i. (e₀ i ++ (e₁ i ++ (e₂ i ++ (e₃ i ++ e₄ i)))) ++ drop image_length lent)
              ∙ ap (λ (n : ℕ). image_bytes st ++ drop n lent) (sym (length-image_bytes st size marks-size)),
        )
