-- What save writes of a state, what restore reads from bytes, and the answers of both.
use Rattle.std.specs.Prelude.{List, ◌∷◌, ◌++◌, ℕ, zero, suc, ◌+◌, take, drop, get_or, if◌then◌else◌, Result}
use Rattle.octets.specs.Bytes.{row}
use Rattle.numbers.specs.Answers.{Answered, answered}
use Rattle.numbers.specs.Answers.Answered.{accepted, refused}
use Rattle.numbers.specs.declared.Refusal.{Refusal}
use Rattle.numbers.specs.Refusals.{answer_in}
use Rattle.settings.specs.Settings.{settings_bytes, settings_of}
use Rattle.reading.specs.Layout.{count_width, places, gatherer_widths, values_widths, events_widths}
use Rattle.reading.specs.Image.{table}
use Rattle.reading.specs.Restore.{settings_part, gatherer_in, values_in_with, events_in_with, restore_refusal}
use Rattle.reading.specs.Calls.{Restoration}
use Rattle.reading.specs.Engineer.{over, too_short}
use Rattle.rms.specs.Gather.{gatherer_row}
use Rattle.state.specs.declared.State.{State}
use Rattle.state.specs.State.{state_with}
use Rattle.bodies.specs.Bodies.{detector_row, gatherer_from, detector_from}

-- the bodies behind the settings' own
abbrev pub gatherer_body : State → List ℕ
gatherer_body st = row gatherer_widths (gatherer_row st.gatherer)

abbrev pub values_body : State → List ℕ
values_body st = row values_widths (st.detector.count ∷ (st.window ++ st.marks))

abbrev pub events_body : State → List ℕ
events_body st = row events_widths (detector_row st.detector)

unfoldable pub image_bytes : State → List ℕ
image_bytes st = table ++ (settings_bytes st.settings ++ (gatherer_body st ++ (values_body st ++ events_body st)))

-- the state that the numbers of an image are, in the edition whose counts have c bytes
unfoldable pub state_at_with : ℕ → List ℕ → State
state_at_with c b =
    let values = values_in_with c b in
    state_with (settings_of (settings_part b)) (gatherer_from (gatherer_in b)) (detector_from (get_or values 0 0) (events_in_with c b))
    (take places (drop 1 values)) (drop (1 + places) values)

abbrev pub state_at : List ℕ → State
state_at b = state_at_with count_width b

-- save: 7 for a shorter buffer, which stays; else the image, and the rest as it was
unfoldable pub save_answer : List ℕ → ℕ
save_answer lent = if too_short lent then 7 else 0

unfoldable pub saved_bytes : State → List ℕ → List ℕ
saved_bytes st lent = if too_short lent then lent else over (image_bytes st) lent

-- read: the lowest section's refusal; else the state of the bytes
unfoldable pub state_read : List ℕ → Answered State
state_read b = answered (restore_refusal b) (state_at b)

-- restore's answer beside the state that it leaves
abbrev pub restored_to : State → Result (Unit {0}) Refusal → Restoration State
restored_to st answer = record { after = st; answer = answer_in answer }

-- restore: the lowest section's refusal, and the old state; else the state of the bytes
abbrev pub refused_by : ℕ → State → Restoration State
refused_by n old = record { after = old; answer = refused n }

abbrev pub restored_from : ℕ → State → State → Restoration State
restored_from zero old new = record { after = new; answer = accepted tt }
restored_from (suc n) old new = refused_by (suc n) old

unfoldable pub restored_by : State → List ℕ → Restoration State
restored_by old b = restored_from (restore_refusal b) old (state_at b)
