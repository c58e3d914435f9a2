-- `run` is the run by absolute deadline; an admitted set's drops nothing, by the promise. Assumes nothing.
use Rattle.machine.specs.RunKept.{never_drops_in}
use borrow.Author.Rules.{rules}
use Rattle.machine.proofs.run.Goals as goal

pub returns-clause-kept : goal.returns-clause-kept
returns-clause-kept c = never_drops_in c.args.s (search rules) c.args.budget _ c.run_by.ensures
