-- A logger's state is valid.
use Rattle.state.proofs.ValidSettled.{valid-settled}
use Rattle.logger.proofs.Logger.feed_in_place.Goals as goal

pub walk-requires : goal.walk-requires
walk-requires c = valid-settled c.args.self.now.state c.args.self.now.valid
