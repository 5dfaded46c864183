-- What samples do to a logger's state, from the state only: a part of a half-cycle, the part that ends one, and so one sample.
use Rattle.std.specs.Prelude.{Bool, List, [], ◌∷◌, ◌++◌, ℕ, ◌+◌, length, ℤ}
use Rattle.numbers.specs.Notation.{◌<ᵇ◌, flag}
use Rattle.settings.specs.Settings.{window_length_of}
use Rattle.reading.specs.declared.Record.{Record}
use Rattle.rms.specs.declared.Marked.{Marked}
use Rattle.reading.specs.Feed.{last_value}
use Rattle.rms.specs.declared.Part.{Part}
use Rattle.rms.specs.declared.Gatherer.{Gatherer}
use Rattle.rms.specs.Gather.{part_of, with_part, with_half, cut, value_from}
use Rattle.window.specs.Window.{pushed}
use Rattle.detection.specs.Detection.{detector_after, due_at}
use Rattle.greedy.specs.Greedy.{Machine}
use Rattle.greedy.specs.Cutter.{Cutter, why_not_by, machine_of}
use Rattle.state.specs.declared.State.{State}
use Rattle.state.specs.State.{state_with}

-- one value more; values, newest first; the records due at them
abbrev pub with_value : Marked → State → State
with_value x st =
    let n = window_length_of st.settings in
    let v = st.detector.count in
    state_with st.settings st.gatherer (detector_after st.settings x st.detector st.window st.marks)
    (pushed n v st.window x.value) (pushed n v st.marks (flag x.clipped))

abbrev pub with_values : List Marked → State → State
with_values [] st = st
with_values (x ∷ xs) st = with_value x (with_values xs st)

abbrev pub due_on : List Marked → State → List Record
due_on [] st = []
due_on (x ∷ xs) st = let before = with_values xs st in due_on xs st ++ due_at st.settings x before.detector before.window before.marks

-- another gatherer
abbrev pub with_gatherer : State → Gatherer → State
with_gatherer st g = state_with st.settings g st.detector st.window st.marks

-- a part more that leaves the half-cycle in progress
abbrev pub part_joined : State → Part → State
part_joined st p = with_gatherer st (with_part st.gatherer p)

-- a part that ends it: the value that comes out, if one does; whether that passes V's end; the records due at it; the state after it
abbrev pub value_out : State → Part → List Marked
value_out st p = value_from st.settings.samples st.gatherer p

unfoldable pub passes_end : State → Part → Bool
passes_end st p = last_value <ᵇ length (value_out st p) + st.detector.count

unfoldable pub half_due : State → Part → List Record
half_due st p = due_on (value_out st p) st

unfoldable pub half_joined : State → Part → State
half_joined st p = with_values (value_out st p) (with_gatherer st (with_half st.gatherer p))

-- why such a part is not taken: 2 past V's end, 1 no room for its records; 0 where it is
abbrev pub why_not : State → Part → ℕ → ℕ
why_not st p room = why_not_by (passes_end st p) (half_due st p) room

-- by half-cycles, as the cut has them; and so sample by sample
abbrev pub cutter : Cutter ℤ State
cutter = record {
  cut = λ st xs. cut st.settings.samples st.gatherer xs;
  part = λ st xs. part_joined st (part_of xs);
  passes = λ st xs. passes_end st (part_of xs);
  due = λ st xs. half_due st (part_of xs);
  half = λ st xs. half_joined st (part_of xs);
}

abbrev pub machine : Machine ℤ State
machine = machine_of cutter
