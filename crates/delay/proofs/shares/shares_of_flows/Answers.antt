use Rattle.delay.specs.DelayTables.{zero_from_start}
use Rattle.delay.proofs.shares.shares_of_flows.Goals as goal

pub loop-k-init : goal.loop-k-init
loop-k-init c = (zero_from_start _, c.requires.shares_to)
