-- `is_bad` looks at the slot and then at the counts. Assumes nothing.
use borrow.Author.Tests.{le-ltb}
use Rattle.machine.proofs.state.is_bad.Goals as goal

pub returns-else-t-gt-LAST : goal.returns-else-t-gt-LAST
returns-else-t-gt-LAST c = rw (le-ltb _ _ c.if-t-gt-LAST.false) c.any_above.ensures
