-- Each way out is one of an image's conversion, as code goes back.
use mathlib.Core.Path.{◌≡◌, sym}
use mathlib.Core.List.{List}
use Prim.Native.Nat.{ℕ}
use native.Mathlib.Omega.{arith}
use lib.ListN.{length, length-take, length-drop}
use Rattle.octets.specs.BytesLaws.{bytes-by}
use Rattle.reading.specs.Layout.{count_width, earlier_width, image_length_with}
use Rattle.numbers.specs.Answers.Answered.{accepted}
use Rattle.state.specs.declared.State.{State}
use Rattle.image.specs.Image.{state_read}
use Rattle.image.proofs.RestoredRead.{read-none, read-some, read-count}
use Rattle.image.specs.PassedLaws.{passes-all}
use Rattle.conversion.proofs.ImageConvertedLaws.{not_good, count-above, back-short, back_done}
use Rattle.conversion.proofs.convert_image_back.Goals as goal

-- an image that reads has its length
size : (b : List ℕ) (st : State) → accepted st ≡ state_read b → length b ≡ image_length_with count_width
size b st e = (passes-all count_width b (read-none b st e)).size

pub returns-in_default : goal.returns-in_default
returns-in_default c =
    sym (not_good count_width earlier_width c.args.image.now c.args.earlier.now (read-some c.args.image.now _ c.in_default.ensures))

pub returns-then-state-gt-EARLIER_MOST : goal.returns-then-state-gt-EARLIER_MOST
returns-then-state-gt-EARLIER_MOST c =
    let b = c.args.image.now in
    sym (count-above earlier_width b c.args.earlier.now (bytes-by b (λ i. (c.type_inv.image i).fits)) (read-none b _ c.in-Ok.ensures)
    (omega (arith, read-count b _ c.in-Ok.ensures, c.if-state-gt-EARLIER_MOST.true)))

pub returns-then-earlier-lt-EARLIER_IMAGE_LENGTH : goal.returns-then-earlier-lt-EARLIER_IMAGE_LENGTH
returns-then-earlier-lt-EARLIER_IMAGE_LENGTH c =
    let b = c.args.image.now in
    sym (back-short earlier_width b c.args.earlier.now (bytes-by b (λ i. (c.type_inv.image i).fits)) (read-none b _ c.in-Ok.ensures)
    (omega (arith, read-count b _ c.in-Ok.ensures, c.if-state-gt-EARLIER_MOST.false)) (omega (arith, c.if-earlier-lt-EARLIER_IMAGE_LENGTH.true)))

pub put_image-requires : goal.put_image-requires
put_image-requires c = (
  size c.args.image.now _ c.in-Ok.ensures,
  simp (length-take, length-drop) (omega (arith, c.if-earlier-lt-EARLIER_IMAGE_LENGTH.false)),
)

pub returns : goal.returns
returns c =
    let b = c.args.image.now in
    back_done earlier_width b c.args.earlier.now (bytes-by b (λ i. (c.type_inv.image i).fits)) (read-none b _ c.in-Ok.ensures)
    (omega (arith, read-count b _ c.in-Ok.ensures, c.if-state-gt-EARLIER_MOST.false)) (omega (arith, c.if-earlier-lt-EARLIER_IMAGE_LENGTH.false)) _ c.put_image.ensures
