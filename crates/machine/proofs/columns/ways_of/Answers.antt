-- A map of 16 bits has no more than 16 ones. Assumes nothing.
use lib.Count.{ones-le}
use Prim.Native.Nat.{◌<◌, ◌^◌}
use Rattle.model.specs.Limits.{most_channels}
use borrow.Author.Rules.{rules}
use Rattle.machine.proofs.columns.ways_of.Goals as goal

pub returns : goal.returns
returns c =
    let map = c.args.map.0 in
    let narrow : map < 2 ^ most_channels = search rules in
    (c.ways.ensures, rw c.ways.ensures (ones-le most_channels map narrow))
