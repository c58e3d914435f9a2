use Rattle.std.proofs.Common.{length, refl, ap, ◌∙◌, arith, take_all, le_refl}
use Rattle.document.specs.Superframe.{row_lines}
use Rattle.text.specs.Put.{putting_start, putting_more, putting_done}
use Rattle.text.specs.WrittenRows.{line_next, rows_chunks}
use Rattle.text.proofs.rows.put_rows.Goals as goal

pub loop-row-init : goal.loop-row-init
unfolding row_lines
loop-row-init c = putting_start _ _ _ _ refl (omega arith)

pub loop-row-preserved : goal.loop-row-preserved
loop-row-preserved c =
    putting_more _ _ _ _ _ _ _ c.loop-row.invariant _ _ _ c.loop-row-test.true (omega arith) (line_next _ c.loop-row.row-index _ c.loop-row-test.true)
    c.put_row_of-place.ensures

pub returns : goal.returns
returns c =
    let rs = c.as_chunks.result.0.now in
    putting_done _ _ _ _ _ _ _ c.loop-row.invariant _ c.loop-row-test.false
    (ap row_lines (take_all (length rs) rs (le_refl _) ∙ c.as_chunks.ensures.front ∙ rows_chunks _ _))
