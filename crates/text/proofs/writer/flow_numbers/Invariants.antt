-- `flow_numbers` puts the four numbers first and copies the nodes behind them (`Copied`). Assumes nothing.
use Rattle.text.specs.FlowNumbers.{Copied}
use Rattle.text.proofs.writer.flow_numbers.Given as goal

abbrev pub invariant-loop-i : goal.invariant-loop-i
invariant-loop-i l = Copied l.initial.numbers l.f.route l.numbers l.i
