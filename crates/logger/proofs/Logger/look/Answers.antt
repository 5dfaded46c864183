-- A logger's state is valid.
use Rattle.state.proofs.ValidSettled.{valid-settled}
use Rattle.logger.proofs.Logger.look.Goals as goal

pub look-requires : goal.look-requires
look-requires c = valid-settled c.args.self.state c.args.self.valid
