-- `run_accepted` goes as far as the last slot, from where on a run stays. Assumes nothing.
use mathlib.Core.Path.{sym, ap, ◌∙◌}
use Rattle.model.specs.Sets.{used}
use Rattle.document.specs.Machine.{Priority, order_of, run_with}
use Rattle.machine.specs.States.{run_cut}
use Rattle.machine.proofs.runs.run_accepted.Goals as goal

pub returns : goal.returns
returns c =
    let u = used c.args.s.now in
    let first : Priority = order_of c.args.by in
    sym c.run_to.ensures.run ∙ ap (run_with first u) c.min.ensures ∙ sym (run_cut first u c.requires c.args.budget)
