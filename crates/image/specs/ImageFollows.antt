-- The image of the state that a recording leaves is the reading's image of that recording.
use Rattle.std.specs.Prelude.{◌≡◌, refl, List, [], ◌∷◌, ◌++◌, ℕ, zero, suc, ℤ, if◌then◌else◌}
use Rattle.std.proofs.Math.Dec.{eqb-suc-zero}
use Rattle.octets.specs.Bytes.{row}
use Rattle.numbers.specs.Notation.{◌≡ᵇ◌}
use Rattle.settings.specs.declared.Settings.{Settings}
use Rattle.settings.specs.Settings.{settings_bytes}
use Rattle.reading.specs.declared.Kind.{Kind}
use Rattle.reading.specs.declared.Kind.TheVariants.{Dip, Swell, Interruption}
use Rattle.reading.specs.Values.{values, since}
use Rattle.reading.specs.Clipping.{marks_of}
use Rattle.reading.specs.Thresholds.{stands_since, magnitude}
use Rattle.reading.specs.Changes.{Signal, signal}
use Rattle.reading.specs.Changes.Signal.{filling, unsettled, steady, changing}
use Rattle.reading.specs.Image.{table, gatherer_bytes, values_numbers, phase_number, change_numbers, change_mark, standing_numbers, standing_mark, events_numbers, image_of}
use Rattle.reading.specs.Layout.{values_widths, events_widths}
use Rattle.threshold.specs.Standing.{magnitude_since, standing_of}
use Rattle.rvc.specs.Phase.{phase_on, phase_row, phase_mark}
use Rattle.state.specs.State.{state_of}
use Rattle.bodies.specs.Bodies.{standing_row, detector_row}
use Rattle.image.specs.Image.{image_bytes}

-- the numbers of a phase and of an event, and their marks
module _ (s : Settings) (hist ms : List ℕ) where
  phase-numbers : (q : Signal) → phase_row (phase_on s hist ms q) ≡ phase_number q ∷ change_numbers s hist q
  phase-numbers filling = refl
  phase-numbers unsettled = refl
  phase-numbers steady = refl
  phase-numbers (changing k) = refl

  phase-mark : (q : Signal) → phase_mark (phase_on s hist ms q) ≡ change_mark s ms q
  phase-mark filling = refl
  phase-mark unsettled = refl
  phase-mark steady = refl
  phase-mark (changing k) = refl

  standing-numbers : (k : Kind) → standing_row (standing_of s k hist ms) ≡ standing_numbers s k hist
  standing-numbers k = go (stands_since s k hist)
    where
      go : (a : ℕ) → a ∷ magnitude_since k a hist ∷ [] ≡ (if a ≡ᵇ 0 then 0 ∷ 0 ∷ [] else a ∷ magnitude k (since a hist) ∷ [])
      go zero = refl
      go (suc a) = rw (eqb-suc-zero a)

-- the numbers of body 4
pub events-of-state : (s : Settings) (rec : List ℤ) → detector_row (state_of s rec).detector ≡ events_numbers s (values s rec) (marks_of s rec)
events-of-state s rec =
    let hist = values s rec in
    let ms = marks_of s rec in
    let phase = phase-numbers s hist ms (signal s hist) in
    let dip = standing-numbers s hist ms Dip in
    let swell = standing-numbers s hist ms Swell in
    let interruption = standing-numbers s hist ms Interruption in
    let change-mark = phase-mark s hist ms (signal s hist) in
    λ i. phase i ++ (dip i ++ (swell i ++ (interruption i
    ++ (standing_mark s Dip hist ms ∷ standing_mark s Swell hist ms ∷ standing_mark s Interruption hist ms ∷ change-mark i ∷ []))))

pub image-of-state : (s : Settings) (rec : List ℤ) → image_bytes (state_of s rec) ≡ image_of s rec
unfolding image_bytes
image-of-state s rec =
    λ i. table
    ++ (settings_bytes s ++ (gatherer_bytes s rec ++ (row values_widths (values_numbers s (values s rec) (marks_of s rec)) ++ row events_widths (events-of-state s rec i))))
