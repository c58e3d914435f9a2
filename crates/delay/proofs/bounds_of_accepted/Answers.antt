-- `bounds_of_accepted`: the tables, then the tests by them. Assumes nothing beyond its `requires`.
use Rattle.laws.specs.Accepted.{accepted}
use Rattle.delay.specs.BoundsReached.{all_given}
use Rattle.delay.proofs.bounds_of_accepted.Goals as goal

pub fill-requires : goal.fill-requires
fill-requires c = (accepted _ c.requires, c.blank-tables.ensures)

pub bounds_by_tables-requires : goal.bounds_by_tables-requires
bounds_by_tables-requires c = (accepted _ c.requires, c.fill.ensures)

pub returns : goal.returns
returns c = all_given _ _ c.requires c.bounds_by_tables.ensures
