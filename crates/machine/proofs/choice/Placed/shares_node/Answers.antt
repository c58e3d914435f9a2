-- `shares_node` asks the placed links only if a class is marked. Assumes nothing.
use Rattle.machine.specs.LinkColumns.{busy_free}
use mathlib.Core.Path.{sym}
use Rattle.machine.proofs.choice.Placed.shares_node.Goals as goal

pub returns : goal.returns
returns c = sym (busy_free _ _ _ _ _ _ c.args.self.now.marked_ends c.if-self-a.false c.if-self-a-2.false)
