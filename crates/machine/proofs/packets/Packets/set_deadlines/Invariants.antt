-- `set_deadlines` sets each flow's deadline in turn. Assumes nothing.
use Rattle.machine.specs.PacketNumbers.{due_by}
use Rattle.machine.specs.ArrayLists.{Through}
use mathlib.Core.Path.{◌≡◌}
use Rattle.machine.proofs.packets.Packets.set_deadlines.Given as goal

abbrev pub invariant-loop-k : goal.invariant-loop-k
invariant-loop-k l =
    Through (due_by l.c.start l.c.period l.c.deadline l.t) l.k l.initial.self.due l.self.due × (l.self.sent ≡ l.initial.self.sent)
