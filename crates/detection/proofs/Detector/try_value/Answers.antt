-- Each part asks for what a valid detector and window give, and the parts are put together by `tried-is`.
use native.Mathlib.Numerals.{add-one}
use native.Mathlib.Omega.{arith}
use Rattle.detection.specs.DetectionLaws.{window-ready-at, phase-joins, tried-is}
use Rattle.detection.proofs.Detector.try_value.Goals as goal

pub join_window-joined-requires : goal.join_window-joined-requires
join_window-joined-requires c =
    let ready = c.requires in
    let n = c.window_length-window_length.ensures in
    (omega (arith, n.1), n.2, ready.count-lt, window-ready-at ready n.0)

pub phase_after-moved-requires : goal.phase_after-moved-requires
phase_after-moved-requires c = phase-joins c.requires c.window_length-window_length.ensures.0 c.join_window-joined.ensures

pub returns : goal.returns
returns c =
    tried-is c.requires c.window_length-window_length.ensures.0 (add-one c.args.self.count) c.standing_after-dip.ensures c.standing_after-swell.ensures
    c.standing_after-interruption.ensures c.stands_at-stands.ensures c.join_window-joined.ensures c.phase_after-moved.ensures
    c.ended.ensures c.ended-2.ensures c.ended-3.ensures
