-- The window is joined and the own signal tested as in one channel alone; the parts are put together by `entering-is`.
use Rattle.std.proofs.Common.{arith}
use Rattle.joint.specs.JointLaws.{enters-window, enters-test, entering-is}
use Rattle.joint.proofs.Own.enter.Goals as goal

pub join_window-joined-requires : goal.join_window-joined-requires
join_window-joined-requires c =
    let ready = c.requires in
    let n = c.window_length-window_length.ensures in
    (omega (arith, n.1), n.2, ready.count-lt, enters-window ready n.0)

pub is_true-truth-requires : goal.is_true-truth-requires
is_true-truth-requires c =
    enters-test c.requires c.window_length-window_length.ensures.0 c.join_window-joined.ensures

pub returns : goal.returns
returns c =
    entering-is c.requires c.window_length-window_length.ensures.0 c.join_window-joined.ensures
    c.first_staying-first.ensures.0 c.is_true-truth.ensures c.after.ensures
