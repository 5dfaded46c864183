-- A refused block leaves all as it was; of any other the walk leaves and tells what feed does, by the laws of FeedLaws.
use Rattle.std.proofs.Common.{arith}
use Rattle.three_logger.proofs.FeedLaws.{feed-refused, feed-fed, taken-within}
use Rattle.three_logger.proofs.ThreeSettled.{three-settled}
use Rattle.three_logger.proofs.ThreeLogger.feed.Goals as goal

pub returns-then-block-ne0 : goal.returns-then-block-ne0
returns-then-block-ne0 c = feed-refused c.args.self.state c.args.block.now c.args.records.now c.if-block-ne0.true

pub walk-told-requires : goal.walk-told-requires
walk-told-requires c = (three-settled c.args.self.state c.args.self.valid, c.if-block-ne0.false)

pub overflow_mul-result : goal.overflow_mul-result
overflow_mul-result c =
    let a = c.args in
    let within = taken-within a.self.state a.block.now a.records.now _ c.walk-told.ensures.0 in
    record { fits = omega (arith, within, c.well_formed) }

pub returns : goal.returns
returns c =
    let a = c.args in
    feed-fed a.self.state a.block.now a.records.now c.if-block-ne0.false _ c.walk-told.ensures.0
