-- `put_flows` puts the lines of the flows in turn (`Putting`). Assumes nothing.
use Rattle.std.specs.Prelude.{map}
use Rattle.std.proofs.Common.{length, take}
use Rattle.document.specs.Reader.{flow_lines}
use Rattle.model.specs.Sets.{exact}
use Rattle.text.specs.Put.{Putting}
use Rattle.text.proofs.writer.put_flows.Given as goal

abbrev pub invariant-loop-f : goal.invariant-loop-f
invariant-loop-f l = Putting l.initial.out l.at (λ k. flow_lines (map exact (take k l.flows))) (length l.flows) l.out l.place l.f-index
