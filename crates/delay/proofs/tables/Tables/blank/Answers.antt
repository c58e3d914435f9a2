-- `blank`: no number of any flow. Assumes nothing.
use Rattle.delay.specs.DelayTables.{blank_tables}
use Rattle.delay.proofs.tables.Tables.blank.Goals as goal

pub returns : goal.returns
returns c = λ i. record blank_tables { numbers = c.blank.ensures i }
