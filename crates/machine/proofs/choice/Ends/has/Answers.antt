-- `has` compares with one end and then with the other. Assumes nothing.
use Rattle.model.specs.Sets.{any_of}
use borrow.Author.Tests.{eq-eqb, ne_eqb}
use mathlib.Core.Bool.{or-false}
use Rattle.machine.proofs.choice.Ends.has.Goals as goal

pub returns-then-node-self : goal.returns-then-node-self
unfolding any_of
returns-then-node-self c = rw (eq-eqb _ _ c.if-node-self.true)

pub returns-else-node-self : goal.returns-else-node-self
unfolding any_of
returns-else-node-self c = rw (ne_eqb _ _ c.if-node-self.false, or-false)
