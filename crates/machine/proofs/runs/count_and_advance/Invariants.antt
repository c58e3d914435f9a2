-- `count_and_advance` takes the flows in turn: each adds what it is to the counts. Assumes nothing.
use Rattle.machine.specs.SlotAnswers.{count_by, delivered_to, dropped_to}
use Rattle.machine.specs.ArrayLists.{Through}
use Rattle.machine.specs.Structs.{packets_at}
use lib.ListN.{length}
use mathlib.Core.Path.{◌≡◌}
use Rattle.machine.proofs.runs.count_and_advance.Given as goal

abbrev pub invariant-loop-k : goal.invariant-loop-k
invariant-loop-k l = let old = l.initial.p in
    (l.delivered ≡ length (delivered_to old.sent l.c.work l.placed.marked l.k))
    × (l.dropped ≡ length (dropped_to l.t (packets_at l.c old) l.placed.marked l.k))
    × Through (count_by old.sent l.placed.marked) l.k old.sent l.p.sent × (l.p.due ≡ old.due)
