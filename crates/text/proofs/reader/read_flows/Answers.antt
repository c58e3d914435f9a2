use Rattle.std.proofs.Common.{◌≡◌, ◌<◌, length, drop, arith}
use Rattle.std.specs.Prelude.{ℕ, List, Result}
use Rattle.model.specs.declared.kinds.FlowSet.{FlowSet}
use Rattle.model.specs.declared.answers.Reading.{Reading}
use Rattle.model.specs.declared.answers.Fault.{Fault}
use Rattle.text.specs.declared.line.Row.{Row}
use Rattle.text.specs.RowFaults.{flow_read}
use Rattle.text.specs.FlowRows.{Lines, NextLine, lines_done, lines_refused, lines_good, lines_on, lines_more}
use Rattle.text.proofs.reader.read_flows.Goals as goal

-- the line that the loop has come to
next_line : {s : List ℕ} {r : Reading} {at k : ℕ} {t : FlowSet} {x : Result Row Fault} → Lines s r at k t → at < length s
    → x ≡ flow_read k at (drop at s) → NextLine s r at k t x
next_line z i w = record { so_far = z; inside = i; says = w }

pub returns-in-Err : goal.returns-in-Err
returns-in-Err c =
    lines_refused (next_line c.loop-at.invariant c.loop-at-test.true c.flow_line.ensures) _ c.in-Err.is _ c.blank-set-in-Err.ensures

pub flow_of-requires : goal.flow_of-requires
flow_of-requires c =
    let g = lines_good (next_line c.loop-at.invariant c.loop-at-test.true c.flow_line.ensures) _ c.in-Ok.is in (g.four, g.few)

pub bounds-set-k : goal.bounds-set-k
bounds-set-k c =
    let g = lines_good (next_line c.loop-at.invariant c.loop-at-test.true c.flow_line.ensures) _ c.in-Ok.is in omega (arith, g.fits)

pub loop-at-smaller : goal.loop-at-smaller
loop-at-smaller c =
    omega (arith, lines_on (next_line c.loop-at.invariant c.loop-at-test.true c.flow_line.ensures) _ c.in-Ok.is)

pub loop-at-preserved : goal.loop-at-preserved
loop-at-preserved c =
    lines_more (next_line c.loop-at.invariant c.loop-at-test.true c.flow_line.ensures) _ c.in-Ok.is _ c.flow_of.ensures

pub returns : goal.returns
returns c = rw c.none-fault.ensures (lines_done _ _ _ _ _ c.loop-at.invariant c.loop-at-test.false)
