-- The row of the three numbers.
use Rattle.std.specs.Prelude.{[], ◌∷◌}
use Rattle.std.proofs.Common.{◌∙◌}
use Rattle.octets.specs.Bytes.{row}
use Rattle.reading.specs.Engineer.{over}
use Rattle.reading.specs.Layout.{reply_widths}
use Rattle.host.specs.Host.{replied}
use Rattle.host.proofs.put_reply.Goals as goal

pub returns : goal.returns
unfolding replied
returns c =
    let t = c.args.told in
    let why = c.from.ensures ∙ c.why_number-why.ensures in
    c.put_front.ensures ∙ (λ i. over (row reply_widths (t.taken ∷ t.written ∷ why i ∷ [])) c.args.reply.now)
