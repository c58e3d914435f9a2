use Rattle.std.proofs.Common.{ℕ, List, length, sym, ap, ◌∙◌}
use Rattle.std.specs.Prelude.{nat_le}
use Rattle.document.specs.Superframe.{row_lines}
use Rattle.text.specs.WrittenRows.{measured_none, measured_more, measured_short, measured_all, rows_chunks}
use Rattle.text.proofs.rows.lines_fit.Goals as goal

pub loop-row-init : goal.loop-row-init
loop-row-init c = measured_none _ _

pub loop-row-preserved : goal.loop-row-preserved
loop-row-preserved c = measured_more c.loop-row.invariant _ _ c.loop-row-test.true c.line_length-n.ensures.0 c.if-left-n.false

pub returns-then-left-n : goal.returns-then-left-n
returns-then-left-n c =
    sym (ap (λ (rs : List (List ℕ)). nat_le (length (row_lines rs)) c.args.room) (sym (rows_chunks _ _) ∙ sym c.as_chunks.ensures.front)
    ∙ measured_short c.loop-row.invariant _ _ c.loop-row-test.true c.line_length-n.ensures.0 c.if-left-n.true)

pub returns : goal.returns
returns c =
    sym (ap (λ (rs : List (List ℕ)). nat_le (length (row_lines rs)) c.args.room) (sym (rows_chunks _ _) ∙ sym c.as_chunks.ensures.front)
    ∙ measured_all c.loop-row.invariant c.loop-row-test.false)
