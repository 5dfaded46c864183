-- The count's answer, then the reply's length; each way out is a law of Answers.
use Rattle.std.proofs.lemmas.Result.{err_from_is_err_and}
use Rattle.host.proofs.Answers.{counts, day-refused, day-told}
use Rattle.host.proofs.count_day.Goals as goal

pub returns-in_err-count : goal.returns-in_err-count
returns-in_err-count c =
    let a = c.args in
    let p = err_from_is_err_and c.from_residual.result c.from_residual.ensures.1 in
    rw (p.1, p.2) (counts a.settings.now a.records.now a.z _ a.day a.reply.now _ c.in_err-count.ensures)

pub returns-then-reply-lt-DAY_REPLY_LENGTH : goal.returns-then-reply-lt-DAY_REPLY_LENGTH
returns-then-reply-lt-DAY_REPLY_LENGTH c =
    let a = c.args in
    day-refused a.settings.now a.records.now a.z _ a.day a.reply.now c.in_ok-count.count c.in_ok-count.ensures c.if-reply-lt-DAY_REPLY_LENGTH.true

pub returns : goal.returns
returns c =
    let a = c.args in
    day-told a.settings.now a.records.now a.z _ a.day a.reply.now c.in_ok-count.count c.in_ok-count.ensures c.if-reply-lt-DAY_REPLY_LENGTH.false _ c.put_day.ensures
