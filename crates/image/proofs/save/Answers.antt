-- The five sections stand in their parts, one behind the other; a shorter buffer stays as it was.
use mathlib.Core.Path.{◌≡◌}
use lib.ListN.{length}
use borrow.Author.Rules.{rules}
use Rattle.image.proofs.SavedBytes.{short-saved, long-saved}
use Rattle.image.proofs.save.Goals as goal

pub returns-then-image-lt-IMAGE_LENGTH : goal.returns-then-image-lt-IMAGE_LENGTH
returns-then-image-lt-IMAGE_LENGTH c = short-saved c.args.image.now c.args.state c.if-image-lt-IMAGE_LENGTH.true

pub returns : goal.returns
returns c =
    let st = c.args.state in
    let size : length st.window ≡ 120 = search rules in
    let marks-size : length st.marks ≡ 120 = search rules in
    long-saved c.args.image.now st c.if-image-lt-IMAGE_LENGTH.false size marks-size _ _ _ _ _ c.put_table.ensures c.write.ensures c.put_gatherer.ensures
    c.put_values.ensures c.put_detector.ensures
