-- What it begins with, then the tests in 01's order; each way out is a law of Answers.
use Rattle.std.proofs.lemmas.Result.{err_from_is_err_and}
use Rattle.std.proofs.Common.{arith}
use Rattle.reading.specs.Told.{told_in}
use Rattle.numbers.specs.declared.Refusal.TheVariants.{OddSamples}
use Rattle.host.proofs.Answers.{image-refused, odd-refused, good-resumed, not-resumed, next-refused, reply-refused, all_done}
use Rattle.host.proofs.advance.Goals as goal

pub returns-in_err-logger : goal.returns-in_err-logger
returns-in_err-logger c =
    let a = c.args in
    let p = err_from_is_err_and c.from_residual.result c.from_residual.ensures.1 in
    rw (p.1, p.2) (not-resumed a.image.now a.samples.now a.next.now a.records.now a.reply.now _ (image-refused a.image.now a.samples.now _ c.in_err-logger.ensures))

pub returns-then-samples-ne0 : goal.returns-then-samples-ne0
returns-then-samples-ne0 c =
    let a = c.args in
    not-resumed a.image.now a.samples.now a.next.now a.records.now a.reply.now OddSamples (odd-refused a.image.now a.samples.now c.in_ok-logger.logger c.in_ok-logger.ensures c.if-samples-ne0.true)

pub returns-then-next-lt-IMAGE_LENGTH : goal.returns-then-next-lt-IMAGE_LENGTH
returns-then-next-lt-IMAGE_LENGTH c =
    let a = c.args in
    next-refused a.image.now a.samples.now a.next.now a.records.now a.reply.now c.in_ok-logger.logger
    (good-resumed a.image.now a.samples.now c.in_ok-logger.logger c.in_ok-logger.ensures c.if-samples-ne0.false) c.if-next-lt-IMAGE_LENGTH.true

pub returns-then-reply-lt-REPLY_LENGTH : goal.returns-then-reply-lt-REPLY_LENGTH
returns-then-reply-lt-REPLY_LENGTH c =
    let a = c.args in
    reply-refused a.image.now a.samples.now a.next.now a.records.now a.reply.now c.in_ok-logger.logger
    (good-resumed a.image.now a.samples.now c.in_ok-logger.logger c.in_ok-logger.ensures c.if-samples-ne0.false) (omega arith) c.if-reply-lt-REPLY_LENGTH.true

pub returns : goal.returns
returns c =
    let a = c.args in
    let fed = c.feed_chunks-told in
    all_done a.image.now a.samples.now a.next.now a.records.now a.reply.now c.in_ok-logger.logger
    (good-resumed a.image.now a.samples.now c.in_ok-logger.logger c.in_ok-logger.ensures c.if-samples-ne0.false) (omega arith) c.if-reply-lt-REPLY_LENGTH.false
    fed.new.logger.state (told_in fed.result) _ _ _ _ fed.ensures c.put_reply.ensures c.save.ensures
