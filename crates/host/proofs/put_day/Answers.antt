-- The row of the four numbers, the last two of which are a yes or no each.
use Rattle.std.specs.Prelude.{[], ◌∷◌}
use Rattle.std.proofs.Common.{◌∙◌}
use Rattle.octets.specs.Bytes.{row}
use Rattle.reading.specs.Engineer.{over}
use Rattle.reading.specs.Layout.{day_reply_widths}
use Rattle.host.specs.Host.{day_replied}
use Rattle.host.proofs.put_day.Goals as goal

pub returns : goal.returns
unfolding day_replied
returns c =
    let d = c.args.day in
    c.put_front.ensures
    ∙ (λ i. over (row day_reply_widths (d.second.count ∷ d.first.count ∷ c.from.ensures i ∷ c.from-2.ensures i ∷ [])) c.args.reply.now)
