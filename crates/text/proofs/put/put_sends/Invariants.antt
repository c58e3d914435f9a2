-- `put_sends` puts the lines of the sends in turn (`Putting`), none beyond the array. Assumes nothing.
use Rattle.std.proofs.Common.{length, take}
use Rattle.document.specs.Program.{send_lines}
use Rattle.text.specs.Put.{Putting}
use Rattle.text.proofs.put.put_sends.Given as goal

abbrev pub invariant-loop-x : goal.invariant-loop-x
invariant-loop-x l = Putting l.initial.out l.at (λ k. send_lines (take k l.x-items)) (length l.x-items) l.out l.place l.x-index
