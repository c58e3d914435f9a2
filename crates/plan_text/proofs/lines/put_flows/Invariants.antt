-- Each turn puts the line of one flow more.
use Rattle.model.specs.Sets.{used}
use Rattle.text.specs.Put.{Putting}
use Rattle.plan_text.proofs.lines.put_flows.Given as goal

abbrev pub invariant-loop-k : goal.invariant-loop-k
invariant-loop-k g l = Putting l.initial.out l.at (g.T.Told.flow_lines (used l.s)) l.s.count l.out l.place l.k
