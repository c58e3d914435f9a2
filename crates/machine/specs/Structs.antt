-- The code's structs as the records of lists that definitions and laws speak of.
use Rattle.machine.specs.declared.columns.Columns.{Columns}
use Rattle.machine.specs.declared.packets.Packets as held
use Rattle.machine.specs.declared.choice.Placed.{Placed}
use Rattle.machine.specs.declared.releases.Run.{Run}
use Rattle.machine.specs.declared.runs.SlotCounts.{SlotCounts}
use Rattle.std.specs.Prelude.{Option, None, Some}
use Rattle.machine.specs.LentArrays.{Numbers, Links, Packets, Placing, RunArrays, SlotArrays, packets_of, placing_of, run_arrays_of}

abbrev pub numbers_of : Columns → Numbers
numbers_of c = record { start = c.start; period = c.period; deadline = c.deadline; work = c.work }

abbrev pub links_of : Columns → Links
links_of c = record { tries = c.tries; routes = c.routes }

-- what rule 2 asks of each flow's packet
abbrev pub packets_at : Columns → held.Packets → Packets
packets_at c p = packets_of c.start p.due p.sent c.work

-- rule 4's choice so far
abbrev pub placing_in : Placed → Placing
placing_in p = placing_of p.from p.to p.flows p.marked p.count

-- what a run keeps from slot to slot
abbrev pub run_arrays : Run → RunArrays
run_arrays run = run_arrays_of run.packets.due run.next run.packets.sent run.line.order run.soonest.0 run.line.waiting

-- a slot whose packets are placed
abbrev pub slot_arrays : Columns → held.Packets → Placed → SlotArrays
slot_arrays c p placed =
    record {
      packets = packets_at c p;
      deadline = c.deadline;
      links = links_of c;
      chosen = placed.flows;
      marked = placed.marked;
      placed = placed.count;
    }

-- what a slot counts: nothing where no packet waits
abbrev pub counted : Option SlotCounts → SlotCounts
counted None = record { placed = 0; delivered = 0; dropped = 0 }
counted (Some counts) = counts
