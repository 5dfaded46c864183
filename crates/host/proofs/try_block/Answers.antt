-- What it begins with, then the reply's length; each way out is a law of Answers.
use Rattle.std.proofs.lemmas.Result.{err_from_is_err_and}
use Rattle.reading.specs.Told.{told_in}
use Rattle.numbers.specs.declared.Refusal.TheVariants.{OddSamples}
use Rattle.host.proofs.Answers.{image-refused, odd-refused, good-resumed, try-not-resumed, try-reply-refused, try-done}
use Rattle.host.proofs.try_block.Goals as goal

pub returns-in_err-logger : goal.returns-in_err-logger
returns-in_err-logger c =
    let a = c.args in
    let p = err_from_is_err_and c.from_residual.result c.from_residual.ensures.1 in
    rw (p.1, p.2) (try-not-resumed a.image.now a.samples.now a.scratch.now a.reply.now _ (image-refused a.image.now a.samples.now _ c.in_err-logger.ensures))

pub returns-then-samples-ne0 : goal.returns-then-samples-ne0
returns-then-samples-ne0 c =
    let a = c.args in
    try-not-resumed a.image.now a.samples.now a.scratch.now a.reply.now OddSamples (odd-refused a.image.now a.samples.now c.in_ok-logger.logger c.in_ok-logger.ensures c.if-samples-ne0.true)

pub returns-then-reply-lt-REPLY_LENGTH : goal.returns-then-reply-lt-REPLY_LENGTH
returns-then-reply-lt-REPLY_LENGTH c =
    let a = c.args in
    try-reply-refused a.image.now a.samples.now a.scratch.now a.reply.now c.in_ok-logger.logger
    (good-resumed a.image.now a.samples.now c.in_ok-logger.logger c.in_ok-logger.ensures c.if-samples-ne0.false) c.if-reply-lt-REPLY_LENGTH.true

pub returns : goal.returns
returns c =
    let a = c.args in
    let fed = c.feed_chunks-told in
    try-done a.image.now a.samples.now a.scratch.now a.reply.now c.in_ok-logger.logger
    (good-resumed a.image.now a.samples.now c.in_ok-logger.logger c.in_ok-logger.ensures c.if-samples-ne0.false) c.if-reply-lt-REPLY_LENGTH.false
    fed.new.logger.state (told_in fed.result) _ _ fed.ensures c.put_reply.ensures
