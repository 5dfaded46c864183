-- Each way out is one of an image's conversion, as code goes forth.
use mathlib.Core.Path.{◌≡◌, sym, ◌∙◌, ap}
use mathlib.Core.List.{List}
use Prim.Native.Nat.{ℕ}
use native.Mathlib.Omega.{arith}
use Rattle.octets.specs.BytesLaws.{bytes-by}
use Rattle.numbers.specs.Answers.Answered.{accepted, refused}
use Rattle.numbers.specs.AnswersLaws.{accepted-is, refused-is}
use Rattle.numbers.specs.NotationLaws.{refuse-passes, refuse-none}
use Rattle.reading.specs.Layout.{count_width, earlier_width}
use Rattle.reading.specs.Image.{table_with}
use Rattle.reading.specs.Restore.{same_bytes, restore_refusal}
use Rattle.bodies.specs.Bodies.{table_refusal, table_answer}
use Rattle.bodies.specs.BodiesLaws.{same-equal, same-itself}
use Rattle.image.proofs.RestoredRead.{read-none, read-some}
use Rattle.conversion.proofs.ImageConvertedLaws.{other_length, other-table, made-refused, forth-short, forth-done}
use Rattle.conversion.proofs.convert_image.Goals as goal

-- what the answer on a table says of it
table-good : (c : ℕ) (p : List ℕ) → accepted tt ≡ table_answer c p → p ≡ table_with c
table-good c p e =
    let none = (accepted-is (table_refusal c p) tt tt (sym e)).0 in
    same-equal p (table_with c) (refuse-none 9 (same_bytes p (table_with c)) 0 (omega arith) none).0

table-bad : (c n : ℕ) (p : List ℕ) → refused n ≡ table_answer c p → p ≡ table_with c → ⊥
table-bad c n p e is =
    let some = refused-is (table_refusal c p) n tt (sym e) in
    omega (arith, some, ap (table_refusal c) is ∙ refuse-passes 9 0 (same-itself (table_with c)))

pub returns-then-earlier-ne-EARLIER_IMAGE_LENGTH : goal.returns-then-earlier-ne-EARLIER_IMAGE_LENGTH
returns-then-earlier-ne-EARLIER_IMAGE_LENGTH c =
    let b = c.args.earlier.now in
    sym (other_length earlier_width count_width b c.args.image.now (bytes-by b (λ i. (c.type_inv.earlier i).fits)) (omega arith)
    c.if-earlier-ne-EARLIER_IMAGE_LENGTH.true)

pub returns-in_default : goal.returns-in_default
returns-in_default c =
    let b = c.args.earlier.now in
    sym (other-table earlier_width count_width b c.args.image.now (bytes-by b (λ i. (c.type_inv.earlier i).fits)) (omega arith)
    (table-bad earlier_width _ _ c.in_default.ensures))

pub returns-in_default-read : goal.returns-in_default-read
returns-in_default-read c =
    let b = c.args.earlier.now in
    let contents = table-good earlier_width _ c.in-Ok.ensures in
    sym (made-refused earlier_width count_width b c.args.image.now (bytes-by b (λ i. (c.type_inv.earlier i).fits)) (omega arith)
    (omega (arith, c.if-earlier-ne-EARLIER_IMAGE_LENGTH.false)) contents
    (λ e. read-some _ _ c.in_default-read.ensures (ap restore_refusal c.put_image.ensures ∙ e)))

pub returns-then-image-lt-IMAGE_LENGTH : goal.returns-then-image-lt-IMAGE_LENGTH
returns-then-image-lt-IMAGE_LENGTH c =
    let b = c.args.earlier.now in
    let contents = table-good earlier_width _ c.in-Ok.ensures in
    sym (forth-short earlier_width count_width b c.args.image.now (bytes-by b (λ i. (c.type_inv.earlier i).fits)) (omega arith)
    (omega (arith, c.if-earlier-ne-EARLIER_IMAGE_LENGTH.false)) contents
    (sym (ap restore_refusal c.put_image.ensures) ∙ read-none _ _ c.in-Ok-read.ensures) (omega (arith, c.if-image-lt-IMAGE_LENGTH.true)))

pub returns : goal.returns
returns c =
    let b = c.args.earlier.now in
    let contents = table-good earlier_width _ c.in-Ok.ensures in
    forth-done earlier_width count_width b c.args.image.now (bytes-by b (λ i. (c.type_inv.earlier i).fits)) (omega arith)
    (omega (arith, c.if-earlier-ne-EARLIER_IMAGE_LENGTH.false)) contents
    (sym (ap restore_refusal c.put_image.ensures) ∙ read-none _ _ c.in-Ok-read.ensures) (omega (arith, c.if-image-lt-IMAGE_LENGTH.false)) _
    (c.copy_from_slice.ensures.after ∙ c.put_image.ensures)
