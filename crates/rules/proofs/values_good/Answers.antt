-- The numbers of the body are V, the window and the marks.
use Rattle.std.proofs.Common.{rules, take_at, drop_at}
use Rattle.rules.proofs.values_good.Goals as goal

pub returns-then-places_good : goal.returns-then-places_good
returns-then-places_good c =
    let a = c.args in
    rw (take_at a.window.now a.marks.now 120 c.told-window, drop_at a.window.now a.marks.now 120 c.told-window) (search rules)

pub returns-else-places_good : goal.returns-else-places_good
returns-else-places_good c =
    let a = c.args in
    rw (take_at a.window.now a.marks.now 120 c.told-window, drop_at a.window.now a.marks.now 120 c.told-window) (search rules)
