-- Good numbers have a count below M, which fits 4 bytes.
use mathlib.Core.Path.{sym, ◌∙◌}
use native.Mathlib.Omega.{arith}
use Rattle.numbers.proofs.RulesLaws.{holds}
use Rattle.reading.specs.Restore.{gatherer_rule}
use Rattle.bodies.proofs.read_gatherer.Goals as goal

pub overflow_cast-result : goal.overflow_cast-result
overflow_cast-result c =
    let h = holds (gatherer_rule c.args.settings.samples c.get_row.new.numbers) (sym c.gatherer_good.ensures ∙ c.if-not-gatherer_good.false) in
    omega (arith, h.0)
