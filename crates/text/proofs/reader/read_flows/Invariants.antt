-- `read_flows` goes over the lines; what is left of them, read after the flows so far, is the whole answer (`Lines`).
-- The measure is what is left of the text. Assumes nothing.
use Rattle.std.proofs.Common.{◌-◌, length, drop}
use Rattle.document.specs.Reader.{read_flows}
use Rattle.document.specs.Text.{lines}
use Rattle.text.specs.RowFaults.{set_with}
use Rattle.text.specs.FlowRows.{Lines}
use Rattle.text.proofs.reader.read_flows.Given as goal

abbrev pub invariant-loop-at : goal.invariant-loop-at
invariant-loop-at l = Lines l.text (read_flows (set_with l.map) (lines (drop l.from l.text))) l.at l.k l.set

abbrev pub decreases-loop-at : goal.decreases-loop-at
decreases-loop-at l = length l.text - l.at
