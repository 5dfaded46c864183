-- What triples do to a three-phase logger's state, from the state only: a part of a half-cycle, the part that ends one, and so one triple.
use Rattle.std.specs.Prelude.{Bool, List, [], ◌∷◌, ◌++◌, ℕ, ◌+◌, length, ℤ, if◌then◌else◌}
use Rattle.numbers.specs.Notation.{◌<ᵇ◌, flag}
use Rattle.settings.specs.Settings.{window_length_of}
use Rattle.reading.specs.declared.Record.{Record}
use Rattle.reading.specs.Feed.{last_value}
use Rattle.rms.specs.declared.Marked.{Marked}
use Rattle.rms.specs.declared.Part.{Part}
use Rattle.rms.specs.Gather.{part_of, with_part, with_half, cut, value_with}
use Rattle.window.specs.Window.{pushed}
use Rattle.greedy.specs.Greedy.{Machine}
use Rattle.greedy.specs.Cutter.{Cutter, machine_of, why_not_by}
use Rattle.rms.specs.declared.Gatherer.{Gatherer}
use Rattle.three_reading.specs.declared.Three.{Three}
use Rattle.three_reading.specs.Three.{at, any_of, Channel, channel}
use Rattle.three_reading.specs.Three.Channel.{on_a, on_b, on_c}
use Rattle.joint.specs.declared.Values.{Values}
use Rattle.joint.specs.Joint.{three_of, joint_after, joint_due_at, pushed_all}
use Rattle.three_state.specs.declared.ThreeState.{ThreeState}
use Rattle.three_state.specs.ThreeState.{three_with}

-- one value of each channel more; such values, newest first; the records due at them
abbrev pub with_joint : Values → ThreeState → ThreeState
with_joint x st =
    let s = st.settings in
    let n = window_length_of s in
    let v = st.joint.count in
    three_with s st.gatherers (joint_after s x st.joint st.windows st.marks) (pushed_all n v st.windows x.sizes)
    (pushed n v st.marks (flag x.clipped))

abbrev pub with_joints : List Values → ThreeState → ThreeState
with_joints [] st = st
with_joints (x ∷ xs) st = with_joint x (with_joints xs st)

abbrev pub due_on_three : List Values → ThreeState → List Record
due_on_three [] st = []
due_on_three (x ∷ xs) st =
    let before = with_joints xs st in
    due_on_three xs st ++ joint_due_at st.settings x before.joint before.windows before.marks

-- other gatherers
abbrev pub with_gatherers : ThreeState → Three Gatherer → ThreeState
with_gatherers st g = three_with st.settings g st.joint st.windows st.marks

-- the part of each channel that triples are
abbrev pub parts_of : List (Three ℤ) → Three Part
parts_of xs = record { a = part_of (channel on_a xs); b = part_of (channel on_b xs); c = part_of (channel on_c xs) }

-- the gatherers with parts that leave the half-cycle in progress, and with parts that end it
abbrev pub with_parts : Three Gatherer → Three Part → Three Gatherer
with_parts g p = record { a = with_part g.a p.a; b = with_part g.b p.b; c = with_part g.c p.c }

abbrev pub with_halves : Three Gatherer → Three Part → Three Gatherer
with_halves g p = record { a = with_half g.a p.a; b = with_half g.b p.b; c = with_half g.c p.c }

-- one value of each channel, as the three that are told: clipped if any of them is
abbrev pub jointly : (Channel → Marked) → Values
jointly x = record {
  sizes = three_of (x on_a).value (x on_b).value (x on_c).value;
  clipped = any_of (three_of (x on_a).clipped (x on_b).clipped (x on_c).clipped);
}

-- parts that end it: the values that come out, if the half-cycle before was whole
abbrev pub values_with : ℕ → Three Gatherer → Three Part → Values
values_with m g p = jointly (λ c. value_with m (at c g) (at c p))

abbrev pub values_out : ThreeState → Three Part → List Values
values_out st p = if st.gatherers.a.whole then values_with st.settings.samples st.gatherers p ∷ [] else []

-- whether that passes V's end; the records due; the state after it
unfoldable pub three_passes : ThreeState → Three Part → Bool
three_passes st p = last_value <ᵇ length (values_out st p) + st.joint.count

unfoldable pub three_half_due : ThreeState → Three Part → List Record
three_half_due st p = due_on_three (values_out st p) st

unfoldable pub three_half : ThreeState → Three Part → ThreeState
three_half st p = with_joints (values_out st p) (with_gatherers st (with_halves st.gatherers p))

abbrev pub three_part : ThreeState → Three Part → ThreeState
three_part st p = with_gatherers st (with_parts st.gatherers p)

-- why such parts are not taken: 2 past V's end, 1 no room for their records; 0 where they are
abbrev pub three_why_not : ThreeState → Three Part → ℕ → ℕ
three_why_not st p room = why_not_by (three_passes st p) (three_half_due st p) room

-- by half-cycles, all cut where channel a is; and so triple by triple
abbrev pub three_cutter : Cutter (Three ℤ) ThreeState
three_cutter = record {
  cut = λ st xs. cut st.settings.samples st.gatherers.a (channel on_a xs);
  part = λ st xs. three_part st (parts_of xs);
  passes = λ st xs. three_passes st (parts_of xs);
  due = λ st xs. three_half_due st (parts_of xs);
  half = λ st xs. three_half st (parts_of xs);
}

abbrev pub three_machine : Machine (Three ℤ) ThreeState
three_machine = machine_of three_cutter
