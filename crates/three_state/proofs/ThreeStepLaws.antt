-- A state of three channels takes triples by half-cycles: its cut goes by one triple, and a part after a triple is one part with it.
use Rattle.std.specs.Prelude.{◌≡◌, refl, List, [], ◌∷◌, ◌++◌, ◌+◌, ◌<◌, ℤ, if◌then◌else◌}
use Rattle.std.proofs.Common.{◌∙◌, ap, arith}
use Rattle.std.proofs.Math.ListN.{length}
use Rattle.numbers.specs.Notation.{◌<ᵇ◌}
use Rattle.reading.specs.Feed.{last_value}
use Rattle.rms.specs.declared.Gatherer.{Gatherer}
use Rattle.rms.specs.Gather.{part_of, with_part, with_half, value_with}
use Rattle.rms.specs.CutLaws.{cut-none, next-below, cut-cons, cut-within}
use Rattle.rms.specs.GatherLaws.{none-joins, part-adds, half-adds, value-with}
use Rattle.greedy.proofs.CutterLaws.{Cuts}
use Rattle.three_reading.specs.declared.Three.{Three}
use Rattle.three_reading.specs.Three.{Channel, at, channel}
use Rattle.three_reading.specs.Three.Channel.{on_a, on_b, on_c}
use Rattle.three_laws.specs.ChannelLaws.{length-channel}
use Rattle.joint.specs.declared.Values.{Values}
use Rattle.joint.specs.Joint.{joint_due_at}
use Rattle.three_state.specs.declared.ThreeState.{ThreeState}
use Rattle.three_state.specs.ThreeStep.{with_joint, with_joints, due_on_three, with_gatherers, parts_of, with_parts, with_halves, jointly, values_with, values_out}
use Rattle.three_state.specs.ThreeStep.{three_passes, three_half_due, three_half, three_part, three_cutter}

-- the values' steps do not look at the gatherers
with_joints-gatherers : (xs : List Values) (st : ThreeState) (g : Three Gatherer) → with_joints xs (with_gatherers st g) ≡ with_gatherers (with_joints xs st) g
with_joints-gatherers [] st g = refl
with_joints-gatherers (x ∷ xs) st g = ap (with_joint x) (with_joints-gatherers xs st g)

due_on_three-gatherers : (xs : List Values) (st : ThreeState) (g : Three Gatherer) → due_on_three xs (with_gatherers st g) ≡ due_on_three xs st
due_on_three-gatherers [] st g = refl
due_on_three-gatherers (x ∷ xs) st g = λ i.
    let before : ThreeState = with_joints-gatherers xs st g i in
    due_on_three-gatherers xs st g i ++ joint_due_at st.settings x before.joint before.windows before.marks

-- no triple joins nothing
none-join : (g : Three Gatherer) → with_parts g (parts_of []) ≡ g
none-join g = λ i. record { a = none-joins g.a i; b = none-joins g.b i; c = none-joins g.c i }

-- a part after a triple
module _ (st : ThreeState) (x : Three ℤ) (xs : List (Three ℤ)) where
  abbrev next : ThreeState
  next = three_part st (parts_of (x ∷ []))

  -- of any channel, and so of the three
  abbrev own : Channel → Gatherer
  own c = at c st.gatherers

  abbrev own_next : Channel → Gatherer
  own_next c = with_part (own c) (part_of (at c x ∷ []))

  part-at : (c : Channel) → with_part (own_next c) (part_of (channel c xs)) ≡ with_part (own c) (part_of (channel c (x ∷ xs)))
  part-at c = part-adds (own c) (at c x) (channel c xs)

  half_at : (c : Channel) → with_half (own_next c) (part_of (channel c xs)) ≡ with_half (own c) (part_of (channel c (x ∷ xs)))
  half_at c = half-adds (own c) (at c x) (channel c xs)

  value-at : (c : Channel) → value_with st.settings.samples (own_next c) (part_of (channel c xs)) ≡ value_with st.settings.samples (own c) (part_of (channel c (x ∷ xs)))
  value-at c = value-with (own c) (at c x) (channel c xs) st.settings.samples

  parts_add : with_parts next.gatherers (parts_of xs) ≡ with_parts st.gatherers (parts_of (x ∷ xs))
  parts_add = λ i. record { a = part-at on_a i; b = part-at on_b i; c = part-at on_c i }

  halves-add : with_halves next.gatherers (parts_of xs) ≡ with_halves st.gatherers (parts_of (x ∷ xs))
  halves-add = λ i. record { a = half_at on_a i; b = half_at on_b i; c = half_at on_c i }

  values-add : values_with st.settings.samples next.gatherers (parts_of xs) ≡ values_with st.settings.samples st.gatherers (parts_of (x ∷ xs))
  values-add = λ i. jointly (λ c. value-at c i)

  out-adds : values_out next (parts_of xs) ≡ values_out st (parts_of (x ∷ xs))
  out-adds = λ i. if st.gatherers.a.whole then values-add i ∷ [] else []

  end-adds : three_passes next (parts_of xs) ≡ three_passes st (parts_of (x ∷ xs))
  unfolding three_passes
  end-adds = λ i. last_value <ᵇ length (out-adds i) + st.joint.count

  due-adds : three_half_due next (parts_of xs) ≡ three_half_due st (parts_of (x ∷ xs))
  unfolding three_half_due
  due-adds = (λ i. due_on_three (out-adds i) next) ∙ due_on_three-gatherers (values_out st (parts_of (x ∷ xs))) st next.gatherers

  half-joins : three_half next (parts_of xs) ≡ three_half st (parts_of (x ∷ xs))
  unfolding three_half
  half-joins = λ i. with_joints (out-adds i) (with_gatherers st (halves-add i))

-- a state within a half-cycle
abbrev pub InHalves : ThreeState → Type 0
InHalves st = st.gatherers.a.count < st.settings.samples

pub three_cuts : Cuts three_cutter InHalves
three_cuts = record {
  cut-none = λ st h. cut-none st.settings.samples st.gatherers.a h;
  cut-cons = λ st h x xs. cut-cons st.settings.samples st.gatherers.a h x.a (channel on_a xs);
  cut_inside = λ st h xs. omega (arith, (cut-within st.settings.samples (channel on_a xs) st.gatherers.a h).inside, length-channel on_a xs);
  cut-some = λ st h xs. (cut-within st.settings.samples (channel on_a xs) st.gatherers.a h).some;
  part-below = λ st h x. next-below st.settings.samples st.gatherers.a h x.a;
  part_none = λ st. ap (with_gatherers st) (none-join st.gatherers);
  part-adds = λ st x xs. ap (with_gatherers st) (parts_add st x xs);
  passes-adds = end-adds;
  due-adds = due-adds;
  half-adds = half-joins;
}
