-- Each turn puts the lines of one slot more.
use mathlib.Core.Path.{◌≡◌}
use Rattle.model.specs.Sets.{used}
use Rattle.document.specs.Machine.{order_of, run_with}
use Rattle.document.specs.Program.{run_lines_with}
use Rattle.text.specs.Put.{Putting}
use Rattle.plan_text.proofs.lines.put_run.Given as goal

abbrev pub invariant-loop-slot : goal.invariant-loop-slot
invariant-loop-slot l =
    (l.st ≡ (run_with (order_of l.by) (used l.s) l._slot).last) × Putting l.initial.out l.at (run_lines_with (order_of l.by) (used l.s)) 12 l.out l.place l._slot
