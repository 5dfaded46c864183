-- The numbers that are read with the widths of the one edition are written with those of the other.
use mathlib.Core.Path.{sym, ◌∙◌, ap, ap₂, subst}
use mathlib.Core.List.{List}
use Prim.Native.Nat.{ℕ}
use lib.ListN.{length}
use Rattle.octets.specs.Bytes.{row, numbers_in, total, Narrow}
use Rattle.octets.specs.RowLaws.{length-numbers_in}
use Rattle.conversion.specs.WidthsLaws.{narrow-events}
use Rattle.conversion.proofs.put_events.Goals as goal

pub get_row-requires : goal.get_row-requires
get_row-requires c =
    let are = c.events_widths-widths.ensures in
    (sym (ap length are), c.requires.0 ∙ sym (ap total are), subst Narrow (sym are) (narrow-events c.args.from.width c.args.from.narrow))

pub put_row-requires : goal.put_row-requires
put_row-requires c =
    let are = c.events_widths-others.ensures in
    let widths = c.events_widths-widths.ensures in
    let got = c.get_row.ensures in
    (ap length got ∙ (length-numbers_in c.events_widths-widths.result c.args.events.now ∙ (ap length widths ∙ sym (ap length are))), c.requires.1 ∙ sym (ap total are))

pub returns : goal.returns
returns c =
    let events : List ℕ = c.args.events.now in
    c.put_row.ensures
    ∙ ap₂ row c.events_widths-others.ensures
    (c.get_row.ensures ∙ ap (λ (ws : List ℕ). numbers_in ws events) c.events_widths-widths.ensures)
