-- Each part asks for what a valid state and its windows give, and the parts are put together by `tried-is`.
use Rattle.std.proofs.Common.{add-one}
use Rattle.joint.specs.JointLaws.{entered-small, tried-is}
use Rattle.joint.proofs.Joint.try_values.Goals as goal

pub go_on-moved-requires : goal.go_on-moved-requires
go_on-moved-requires c =
    (c.window_length.ensures.2, entered-small c.requires c.enter-entered.ensures)

pub returns : goal.returns
returns c =
    tried-is c.requires (add-one c.args.self.count) c.step-after.ensures c.stands_at-stands.ensures c.enter-entered.ensures
    c.window_length.ensures.0 c.go_on-moved.ensures c.due.ensures c.after_of.ensures c.sums_of.ensures
