-- `run_all_slots` takes one slot after the other: what is reached is the run so far, of every set whose numbers these are, and if rows are put those
-- of the slots so far stand at the table's start. Assumes nothing.
use mathlib.Core.Bool.{true}
use mathlib.Core.Path.{◌≡◌}
use Prim.Native.Nat.{◌*◌, ◌≤◌}
use lib.ListN.{length}
use Rattle.model.specs.declared.kinds.FlowSet.{FlowSet}
use Rattle.model.specs.declared.answers.Fault.{Fault}
use Rattle.machine.specs.RunSoFar.{RunSoFar, RunOfSome, counts_of}
use Rattle.machine.specs.RowsPut.{RowsSoFar}
use Rattle.machine.specs.Structs.{links_of, numbers_of, run_arrays}
use Rattle.machine.proofs.runs.run_all_slots.Given as goal

abbrev pub invariant-loop-t : goal.invariant-loop-t
invariant-loop-t l = let numbers = numbers_of l.c in
    let links = links_of l.c in
    let run₀ = run_arrays l.initial.run in
    RunOfSome l.by l.c.count l.c.ways l.t numbers links (run_arrays l.run)
    × ((s : FlowSet) (fault : Fault) → RunSoFar l.by s fault l.c.count l.c.ways 0 (counts_of 0 0) numbers links run₀
    → RunSoFar l.by s fault l.c.count l.c.ways l.t (counts_of l.delivered l.dropped) numbers links (run_arrays l.run))
    × (l.put ≡ true → (s : FlowSet) (fault : Fault) → RunSoFar l.by s fault l.c.count l.c.ways 0 (counts_of 0 0) numbers links run₀
    → RowsSoFar l.by s l.t l.at l.initial.table l.table)
    × (l.delivered ≤ 4294967295 * l.t) × (l.dropped ≤ 4294967295 * l.t) × (length l.table ≡ length l.initial.table) × (l.at ≤ length l.table)
