-- A logger's state is valid.
use Rattle.three_logger.proofs.ThreeSettled.{three-settled}
use Rattle.three_logger.proofs.ThreeLogger.look.Goals as goal

pub look-requires : goal.look-requires
look-requires c = three-settled c.args.self.state c.args.self.valid
