-- `none`: nothing is counted and nothing is marked. Assumes nothing.
use mathlib.Core.Path.{refl}
use Rattle.machine.specs.ArrayLists.{get_or_zeros}
use Rattle.model.specs.Limits.{most_flows}
use Rattle.machine.proofs.choice.Placed.none.Goals as goal

pub returns : goal.returns
returns c = record { count = refl; marks = get_or_zeros most_flows }
