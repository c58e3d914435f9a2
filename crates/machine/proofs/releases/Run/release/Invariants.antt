-- `release` takes the flows in turn: one whose next release is t gets its new numbers. Assumes nothing.
use Rattle.machine.specs.LentArrays.{releases_in}
use Rattle.machine.specs.NextReleases.{NoneBefore, Released}
use Rattle.machine.specs.Structs.{run_arrays}
use Rattle.machine.proofs.releases.Run.release.Given as goal

abbrev pub invariant-loop-k : goal.invariant-loop-k
invariant-loop-k l =
    Released l.k l.t l.c.period l.c.deadline (releases_in (run_arrays l.initial.self)) (releases_in (run_arrays l.self))
    × NoneBefore l.k l.soonest l.self.next
