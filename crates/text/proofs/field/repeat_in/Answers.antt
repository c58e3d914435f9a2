-- `repeat_in` is `repeat_at` over the row's nodes; a row of fewer than four numbers has none. Assumes nothing.
use Rattle.std.proofs.Common.{◌≡◌, Some, sym, ap, ◌∙◌, arith}
use Rattle.text.specs.RowFaults.{row_repeat}
use Rattle.text.specs.FieldSearch.{repeat_fits, repeat_short}
use Rattle.text.proofs.field.repeat_in.Goals as goal

pub returns-in-Some : goal.returns-in-Some
returns-in-Some c =
    let e : c.repeat_at.result ≡ row_repeat (Some c.in-Some.row) = c.repeat_at.ensures ∙ rw c.route.ensures in
    (e ∙ ap row_repeat (sym c.in-Some.is), omega (arith, e, repeat_fits c.in-Some.row))

pub returns-in_default : goal.returns-in_default
returns-in_default c = (repeat_short c.in-Some.row c.if-row-ge4.false ∙ ap row_repeat (sym c.in-Some.is), omega arith)
