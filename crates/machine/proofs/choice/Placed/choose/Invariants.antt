-- `choose` judges the ordered in turn: what is placed so far and what is still to be judged stay together the same choice. Assumes nothing.
use Rattle.machine.specs.PacketNumbers.{ready_by}
use Rattle.machine.specs.PlacedChoice.{ChoiceSoFar}
use Rattle.machine.specs.LinkColumns.{link_in}
use Rattle.machine.specs.Structs.{links_of, packets_at, placing_in}
use lib.ListN.{take, drop}
use mathlib.Core.Path.{◌≡◌}
use Rattle.machine.proofs.choice.Placed.choose.Given as goal

abbrev pub invariant-loop-k : goal.invariant-loop-k
invariant-loop-k l =
    ChoiceSoFar l.c.ways (link_in l.p.sent (links_of l.c)) (ready_by (packets_at l.c l.p) l.t) (take l.line.waiting l.line.order) l.k-index (placing_in l.self)
    × (drop l.self.count l.self.flows ≡ drop l.self.count l.initial.self.flows)
