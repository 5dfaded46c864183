-- Behind each section stands the answer by those read so far, and each way out is one of them.
use mathlib.Core.Path.{◌≡◌, sym, ◌∙◌, ap}
use mathlib.Core.List.{List}
use Prim.Native.Nat.{ℕ}
use lib.ListN.{length}
use native.Mathlib.Omega.{arith}
use Rattle.numbers.specs.Answers.{Answered}
use Rattle.numbers.specs.Answers.Answered.{accepted}
use Rattle.settings.specs.declared.Settings.{Settings}
use Rattle.settings.specs.Settings.{settings_read}
use Rattle.reading.specs.Layout.{count_width, table_length, gatherer_offset, gatherer_length, values_offset, values_length, events_offset, events_length, image_length}
use Rattle.reading.specs.Restore.{part, settings_part}
use Rattle.rms.specs.declared.Gatherer.{Gatherer}
use Rattle.detection.specs.declared.Detector.{Detector}
use Rattle.bodies.specs.declared.WindowRead.{WindowRead}
use Rattle.bodies.specs.Bodies.{table_answer, gatherer_answer, window_answer, detector_answer}
use Rattle.image.specs.Image.{state_read}
use Rattle.image.proofs.SectionBySection.{by-table, by-settings, by-gatherer, by-window, by-detector, right-length, other_length}
use Rattle.image.proofs.read.Goals as goal

-- the answer by a section, where those before it are good
module _ (b : List ℕ) (size : length b ≡ image_length) where
  table : (r : Answered (Unit {0})) → r ≡ table_answer count_width (part 0 table_length b) → by-table b r ≡ state_read b
  table r is = ap (by-table b) is ∙ sym (right-length b size)

  module _ (contents : accepted tt ≡ table_answer count_width (part 0 table_length b)) where
    settings : (r : Answered Settings) → r ≡ settings_read (settings_part b) → by-settings b r ≡ state_read b
    settings r is = ap (by-settings b) is ∙ table (accepted tt) contents

    module _ (s : Settings) (settings_are : accepted s ≡ settings_read (settings_part b)) where
      gatherer : (r : Answered Gatherer) → r ≡ gatherer_answer s (part gatherer_offset gatherer_length b) → by-gatherer b s r ≡ state_read b
      gatherer r is = ap (by-gatherer b s) is ∙ settings (accepted s) settings_are

      module _ (g : Gatherer) (gatherer_is : accepted g ≡ gatherer_answer s (part gatherer_offset gatherer_length b)) where
        window : (r : Answered WindowRead) → r ≡ window_answer s g.whole (part values_offset values_length b) → by-window b s g r ≡ state_read b
        window r is = ap (by-window b s g) is ∙ gatherer (accepted g) gatherer_is

        detector : (w : WindowRead) → accepted w ≡ window_answer s g.whole (part values_offset values_length b)
            → (r : Answered Detector) → r ≡ detector_answer s w.count (part events_offset events_length b) → by-detector b s g w r ≡ state_read b
        detector w window-is r is = ap (by-detector b s g w) is ∙ window (accepted w) window-is

pub returns-then-bytes-ne-IMAGE_LENGTH : goal.returns-then-bytes-ne-IMAGE_LENGTH
returns-then-bytes-ne-IMAGE_LENGTH c = sym (other_length c.args.bytes.now c.if-bytes-ne-IMAGE_LENGTH.true)

pub returns-in_default : goal.returns-in_default
returns-in_default c = table c.args.bytes.now (omega arith) _ c.in_default.ensures

pub returns-in_default-from_bytes : goal.returns-in_default-from_bytes
returns-in_default-from_bytes c = settings c.args.bytes.now (omega arith) c.in-Ok.ensures _ c.in_default-from_bytes.ensures

pub returns-in_default-read_gatherer : goal.returns-in_default-read_gatherer
returns-in_default-read_gatherer c =
    gatherer c.args.bytes.now (omega arith) c.in-Ok.ensures _ c.in-Ok-from_bytes.ensures _ c.in_default-read_gatherer.ensures

pub returns-in_default-read_window : goal.returns-in_default-read_window
returns-in_default-read_window c =
    window c.args.bytes.now (omega arith) c.in-Ok.ensures _ c.in-Ok-from_bytes.ensures _ c.in-Ok-read_gatherer.ensures _ c.in_default-read_window.ensures

pub returns-in_default-read_detector : goal.returns-in_default-read_detector
returns-in_default-read_detector c =
    detector c.args.bytes.now (omega arith) c.in-Ok.ensures _ c.in-Ok-from_bytes.ensures _ c.in-Ok-read_gatherer.ensures _ c.in-Ok-read_window.ensures
    _ c.in_default-read_detector.ensures

pub returns : goal.returns
returns c =
    detector c.args.bytes.now (omega arith) c.in-Ok.ensures _ c.in-Ok-from_bytes.ensures _ c.in-Ok-read_gatherer.ensures _ c.in-Ok-read_window.ensures
    _ c.in-Ok-read_detector.ensures
