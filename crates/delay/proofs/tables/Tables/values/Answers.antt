use Rattle.delay.specs.EquationValues.{values_start}
use Rattle.delay.proofs.tables.Tables.values.Goals as goal

pub loop-j-init : goal.loop-j-init
loop-j-init c = values_start _

pub value-requires-clause-sums_fit : goal.value-requires-clause-sums_fit
value-requires-clause-sums_fit c = c.requires.sums_fit_to _ _ c.loop-j-test.true
