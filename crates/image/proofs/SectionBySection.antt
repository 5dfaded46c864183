-- An image is read section by section, as the code does it: the answer, by that of a section where those before it are good.
use mathlib.Core.Path.{◌≡◌, refl, sym, ◌∙◌, ap}
use mathlib.Core.Bool.{Bool, true, false}
use mathlib.Core.List.{List}
use Prim.Native.Nat.{ℕ, zero, suc}
use lib.ListN.{length, get_or}
use lib.Dec.{eqb-suc-zero}
use borrow.Author.Tests.{eq-eqb, ne_eqb}
use Rattle.numbers.specs.Notation.{◌≡ᵇ◌, flag, refuse◌unless◌then◌}
use Rattle.numbers.specs.NotationLaws.{refuse-fails, refuse-passes, back-flag}
use Rattle.numbers.specs.Answers.{Answered, answered}
use Rattle.numbers.specs.Answers.Answered.{accepted, refused}
use Rattle.numbers.specs.Rules.{Rule, passes}
use Rattle.numbers.proofs.RulesLaws.{holds}
use Rattle.settings.specs.declared.Settings.{Settings}
use Rattle.settings.specs.Settings.{window_length_of, settings_of, start_refusal, settings_read}
use Rattle.reading.specs.Layout.{count_width, table_length, gatherer_length, values_length, events_length, image_length, gatherer_offset, values_offset, events_offset}
use Rattle.reading.specs.Image.{table}
use Rattle.reading.specs.Restore.{part, same_bytes, gatherer_rule, values_rule, events_rule, settings_part, gatherer_in, values_in, events_in, restore_refusal_with}
use Rattle.rms.specs.declared.Gatherer.{Gatherer}
use Rattle.detection.specs.declared.Detector.{Detector}
use Rattle.state.specs.declared.State.{State}
use Rattle.state.specs.State.{state_with}
use Rattle.bodies.specs.declared.WindowRead.{WindowRead}
use Rattle.bodies.specs.Bodies.{gatherer_from, detector_from, table_answer, body_refusal, window_from, gatherer_answer, window_answer, detector_answer}
use Rattle.image.specs.Image.{state_at_with, state_at, state_read}

module _ (b : List ℕ) where
  abbrev pub by-detector : Settings → Gatherer → WindowRead → Answered Detector → Answered State
  by-detector s g w (accepted d) = accepted (state_with s g d w.window w.marks)
  by-detector s g w (refused n) = refused 11

  abbrev pub by-window : Settings → Gatherer → Answered WindowRead → Answered State
  by-window s g (accepted w) = by-detector s g w (detector_answer s w.count (part events_offset events_length b))
  by-window s g (refused n) = refused 11

  abbrev pub by-gatherer : Settings → Answered Gatherer → Answered State
  by-gatherer s (accepted g) = by-window s g (window_answer s g.whole (part values_offset values_length b))
  by-gatherer s (refused n) = refused 11

  abbrev pub by-settings : Answered Settings → Answered State
  by-settings (accepted s) = by-gatherer s (gatherer_answer s (part gatherer_offset gatherer_length b))
  by-settings (refused n) = refused 10

  abbrev pub by-table : Answered (Unit {0}) → Answered State
  by-table (accepted u) = by-settings (settings_read (settings_part b))
  by-table (refused n) = refused 9

  -- each section's answer is its test's, so the first that fails is the refusal
  abbrev s : Settings
  s = settings_of (settings_part b)

  abbrev n : ℕ
  n = window_length_of s

  abbrev gatherer : Gatherer
  gatherer = gatherer_from (gatherer_in b)

  abbrev left : ℕ → Answered State
  left k = answered k (state_at b)

  abbrev gatherer_body : Rule
  gatherer_body = gatherer_rule s.samples (gatherer_in b)

  abbrev values_body : ℕ → Rule
  values_body mark = values_rule n mark (values_in b)

  abbrev events_body : Rule
  events_body = events_rule n (get_or (values_in b) 0 0) (events_in b)

  abbrev window : WindowRead
  window = window_from (values_in b)

  detector-told : (t : Bool) → left (refuse 11 unless t then 0) ≡ by-detector s gatherer window (answered (refuse 11 unless t then 0) (detector_from window.count (events_in b)))
  unfolding state_at_with
  detector-told true = refl
  detector-told false = refl

  window-told : (t : Bool) → left (refuse 11 unless t then body_refusal events_body) ≡ by-window s gatherer (answered (refuse 11 unless t then 0) window)
  unfolding detector_answer
  window-told true = detector-told (passes events_body)
  window-told false = refl

  gatherer-told : (t : Bool) → passes gatherer_body ≡ t →
      left (refuse 11 unless t then refuse 11 unless passes (values_body (get_or (gatherer_in b) 3 0)) then body_refusal events_body)
      ≡ by-gatherer s (answered (refuse 11 unless t then 0) gatherer)
  unfolding window_answer
  gatherer-told true e =
      let mark : flag gatherer.whole ≡ get_or (gatherer_in b) 3 0 = back-flag _ (holds gatherer_body e).1.1.1.0 in
      window-told (passes (values_body (get_or (gatherer_in b) 3 0))) ∙ ap (λ (k : ℕ). by-window s gatherer (answered (body_refusal (values_body k)) window)) (sym mark)
  gatherer-told false e = refl

  abbrev bodies : ℕ
  bodies = refuse 11 unless passes gatherer_body then refuse 11 unless passes (values_body (get_or (gatherer_in b) 3 0)) then body_refusal events_body

  settings-told : (k : ℕ) → left (refuse 10 unless k ≡ᵇ 0 then bodies) ≡ by-settings (answered k s)
  unfolding gatherer_answer
  settings-told zero = gatherer-told (passes gatherer_body) refl
  settings-told (suc k) = rw (eqb-suc-zero k)

  table-told : (t : Bool) → left (refuse 9 unless t then refuse 10 unless start_refusal (settings_part b) ≡ᵇ 0 then bodies) ≡ by-table (answered (refuse 9 unless t then 0) tt)
  unfolding settings_read
  table-told true = settings-told (start_refusal (settings_part b))
  table-told false = refl

  pub right-length : length b ≡ image_length → state_read b ≡ by-table (table_answer count_width (part 0 table_length b))
  unfolding state_read restore_refusal_with
  right-length size = ap left (refuse-passes 8 _ (eq-eqb (length b) image_length size)) ∙ table-told (same_bytes (part 0 table_length b) table)

  pub other_length : (length b ≡ image_length → ⊥) → state_read b ≡ refused 8
  unfolding state_read restore_refusal_with
  other_length h = ap left (refuse-fails 8 _ (ne_eqb (length b) image_length h))
