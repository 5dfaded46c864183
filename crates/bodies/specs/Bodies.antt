-- The bodies of an image: what is written of each state and what is read from each body's numbers; and the answer of each section. The rules are the reading's.
use Rattle.std.specs.Prelude.{Bool, List, [], ◌∷◌, ◌++◌, ℕ, zero, suc, ◌+◌, ◌*◌, take, drop, get_or}
use Rattle.octets.specs.Bytes.{numbers_in}
use Rattle.numbers.specs.Notation.{◌≡ᵇ◌, flag, refuse◌unless◌then◌}
use Rattle.numbers.specs.Answers.{Answered, answered}
use Rattle.numbers.specs.Rules.{Rule, passes}
use Rattle.settings.specs.declared.Settings.{Settings}
use Rattle.settings.specs.Settings.{window_length_of}
use Rattle.reading.specs.Layout.{count_width, places, gatherer_widths, values_widths, events_widths}
use Rattle.reading.specs.Image.{table_with}
use Rattle.reading.specs.Restore.{same_bytes, gatherer_rule, values_rule, events_rule}
use Rattle.rms.specs.declared.Gatherer.{Gatherer}
use Rattle.threshold.specs.declared.Standing.{Standing}
use Rattle.rvc.specs.declared.Change.{Change}
use Rattle.rvc.specs.declared.Phase.{Phase}
use Rattle.rvc.specs.declared.Phase.TheVariants.{Filling, Unsettled, Steady, Changing}
use Rattle.rvc.specs.Phase.{phase_row, phase_mark}
use Rattle.detection.specs.declared.Detector.{Detector}
use Rattle.bodies.specs.declared.WindowRead.{WindowRead}

-- the detector in the numbers of body 4
abbrev pub standing_row : Standing → List ℕ
standing_row p = p.start ∷ p.magnitude ∷ []

-- a phase's number, a change's four, and its mark
abbrev pub phase_numbers : Phase → List ℕ
phase_numbers p = phase_row p ++ (phase_mark p ∷ [])

abbrev pub detector_row : Detector → List ℕ
detector_row d =
    phase_row d.phase ++ (standing_row d.dip ++ (standing_row d.swell ++ (standing_row d.interruption
    ++ (flag d.dip.clipped ∷ flag d.swell.clipped ∷ flag d.interruption.clipped ∷ phase_mark d.phase ∷ []))))

-- what a body's numbers are: body 2, and body 4 after V values
abbrev pub gatherer_from : List ℕ → Gatherer
gatherer_from ns = record {
  count = get_or ns 0 0;
  sum = get_or ns 1 0;
  last = get_or ns 2 0;
  whole = get_or ns 3 0 ≡ᵇ 1;
  clipped = get_or ns 4 0 ≡ᵇ 1;
  last_clipped = get_or ns 5 0 ≡ᵇ 1;
}

abbrev pub phase_of_number : ℕ → Change → Phase
phase_of_number zero c = Filling
phase_of_number (suc zero) c = Unsettled
phase_of_number (suc (suc zero)) c = Steady
phase_of_number (suc (suc (suc n))) c = Changing c

abbrev pub change_from : List ℕ → Change
change_from ns = record { start = get_or ns 1 0; sum = get_or ns 2 0; difference = get_or ns 3 0; stand = get_or ns 4 0; clipped = get_or ns 14 0 ≡ᵇ 1 }

abbrev pub standing_with : ℕ → ℕ → ℕ → Standing
standing_with start magnitude mark = record { start = start; magnitude = magnitude; clipped = mark ≡ᵇ 1 }

-- start and magnitude from i on, the mark at j
abbrev pub standing_from : ℕ → ℕ → List ℕ → Standing
standing_from i j ns = standing_with (get_or ns i 0) (get_or ns (i + 1) 0) (get_or ns j 0)

abbrev pub detector_from : ℕ → List ℕ → Detector
detector_from v ns = record {
  count = v;
  dip = standing_from 5 11 ns;
  swell = standing_from 7 12 ns;
  interruption = standing_from 9 13 ns;
  phase = phase_of_number (get_or ns 0 0) (change_from ns);
}

-- the table's refusal, in the edition whose counts have c bytes
abbrev pub table_refusal : ℕ → List ℕ → ℕ
table_refusal c b = refuse 9 unless same_bytes b (table_with c) then 0

abbrev pub table_answer : ℕ → List ℕ → Answered (Unit {0})
table_answer c b = answered (table_refusal c b) tt

-- that of a body behind it: 11 where it breaks a rule
abbrev pub body_refusal : Rule → ℕ
body_refusal rule = refuse 11 unless passes rule then 0

-- body 2
unfoldable pub gatherer_answer : Settings → List ℕ → Answered Gatherer
gatherer_answer s body = let ns = numbers_in gatherer_widths body in answered (body_refusal (gatherer_rule s.samples ns)) (gatherer_from ns)

-- body 3: V, and the places of values and of marks
abbrev pub window_from : List ℕ → WindowRead
window_from ns = record { count = get_or ns 0 0; window = take places (drop 1 ns); marks = drop (1 + places) ns }

unfoldable pub window_answer : Settings → Bool → List ℕ → Answered WindowRead
window_answer s whole body =
    let ns = numbers_in values_widths body in answered (body_refusal (values_rule (window_length_of s) (flag whole) ns)) (window_from ns)

-- where its marks stand, behind V and the values
abbrev pub marks_at : ℕ
marks_at = count_width + 4 * places

-- body 4
unfoldable pub detector_answer : Settings → ℕ → List ℕ → Answered Detector
detector_answer s v body = let ns = numbers_in events_widths body in answered (body_refusal (events_rule (window_length_of s) v ns)) (detector_from v ns)
