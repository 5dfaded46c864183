-- A state takes samples by half-cycles: its cut goes by one sample, and a part after a sample is one part with it.
use Rattle.std.specs.Prelude.{◌≡◌, refl, List, [], ◌∷◌, ◌++◌, ◌+◌, ◌<◌, ℤ}
use Rattle.std.proofs.Common.{◌∙◌, ap}
use Rattle.std.proofs.Math.ListN.{length}
use Rattle.numbers.specs.Notation.{◌<ᵇ◌}
use Rattle.reading.specs.Feed.{last_value}
use Rattle.rms.specs.declared.Marked.{Marked}
use Rattle.rms.specs.declared.Gatherer.{Gatherer}
use Rattle.rms.specs.Gather.{part_of}
use Rattle.rms.specs.CutLaws.{cut-none, next-below, cut-cons, cut-within}
use Rattle.rms.specs.GatherLaws.{none-joins, part-adds, half-adds, value-adds}
use Rattle.detection.specs.Detection.{due_at}
use Rattle.greedy.proofs.CutterLaws.{Cuts}
use Rattle.state.specs.declared.State.{State}
use Rattle.state.specs.Step.{with_value, with_values, due_on, with_gatherer, part_joined, value_out, passes_end, half_due, half_joined, cutter}

-- the values' steps do not look at the gatherer
with_values-gatherer : (xs : List Marked) (st : State) (g : Gatherer) → with_values xs (with_gatherer st g) ≡ with_gatherer (with_values xs st) g
with_values-gatherer [] st g = refl
with_values-gatherer (x ∷ xs) st g = ap (with_value x) (with_values-gatherer xs st g)

due_on-gatherer : (xs : List Marked) (st : State) (g : Gatherer) → due_on xs (with_gatherer st g) ≡ due_on xs st
due_on-gatherer [] st g = refl
due_on-gatherer (x ∷ xs) st g = λ i.
    let before : State = with_values-gatherer xs st g i in
    due_on-gatherer xs st g i ++ due_at st.settings x before.detector before.window before.marks

-- a part after a sample
module _ (st : State) (x : ℤ) (xs : List ℤ) where
  abbrev next : State
  next = part_joined st (part_of (x ∷ []))

  out-adds : value_out next (part_of xs) ≡ value_out st (part_of (x ∷ xs))
  out-adds = value-adds st.gatherer x xs st.settings.samples

  end-adds : passes_end next (part_of xs) ≡ passes_end st (part_of (x ∷ xs))
  unfolding passes_end
  end-adds = λ i. last_value <ᵇ length (out-adds i) + st.detector.count

  due-adds : half_due next (part_of xs) ≡ half_due st (part_of (x ∷ xs))
  unfolding half_due
  due-adds = (λ i. due_on (out-adds i) next) ∙ due_on-gatherer (value_out st (part_of (x ∷ xs))) st next.gatherer

  half-joins : half_joined next (part_of xs) ≡ half_joined st (part_of (x ∷ xs))
  unfolding half_joined
  half-joins = λ i. with_values (out-adds i) (with_gatherer st (half-adds st.gatherer x xs i))

-- a state within a half-cycle
abbrev pub InHalf : State → Type 0
InHalf st = st.gatherer.count < st.settings.samples

pub cuts : Cuts cutter InHalf
cuts = record {
  cut-none = λ st h. cut-none st.settings.samples st.gatherer h;
  cut-cons = λ st h. cut-cons st.settings.samples st.gatherer h;
  cut_inside = λ st h xs. (cut-within st.settings.samples xs st.gatherer h).inside;
  cut-some = λ st h xs. (cut-within st.settings.samples xs st.gatherer h).some;
  part-below = λ st h. next-below st.settings.samples st.gatherer h;
  part_none = λ st. ap (with_gatherer st) (none-joins st.gatherer);
  part-adds = λ st x xs. ap (with_gatherer st) (part-adds st.gatherer x xs);
  passes-adds = end-adds;
  due-adds = due-adds;
  half-adds = half-joins;
}
