-- `judge_lines` goes over the lines; what is left of them, judged after the row before, is the whole fault (`Judging`).
-- The measure is what is left of the text. Assumes nothing.
use Rattle.std.proofs.Common.{◌-◌, length}
use Rattle.text.specs.LinesJudged.{Judging}
use Rattle.text.proofs.table.judge_lines.Given as goal

abbrev pub invariant-loop-at : goal.invariant-loop-at
invariant-loop-at l = Judging l.text l.at l.rows l.least

abbrev pub decreases-loop-at : goal.decreases-loop-at
decreases-loop-at l = length l.text - l.at
