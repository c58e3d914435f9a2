-- `restart` sets each flow's count in turn. Assumes nothing.
use Rattle.machine.specs.PacketNumbers.{had_by}
use Rattle.machine.specs.ArrayLists.{Through}
use mathlib.Core.Path.{◌≡◌}
use Rattle.machine.proofs.packets.Packets.restart.Given as goal

abbrev pub invariant-loop-k : goal.invariant-loop-k
invariant-loop-k l =
    Through (had_by l.initial.self.due l.c.deadline l.t l.initial.self.sent) l.k l.initial.self.sent l.self.sent × (l.self.due ≡ l.initial.self.due)
