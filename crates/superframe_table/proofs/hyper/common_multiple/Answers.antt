-- `common_multiple`: the order of the two numbers is free. Assumes nothing beyond its `requires`.
use Rattle.superframe_table.specs.LoadedHyper.{lcm_larger_first}
use Rattle.superframe_table.proofs.hyper.common_multiple.Goals as goal

pub returns : goal.returns
returns c = let e = lcm_larger_first c.args.h c.args.t in cc
