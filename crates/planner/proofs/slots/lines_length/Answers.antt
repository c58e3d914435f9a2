-- `lines_length` is where the lines end, and they end before the last place. Assumes nothing.
use native.Mathlib.Nat.{le_trans, le_of_eq}
use native.Mathlib.Omega.{arith}
use Rattle.text.specs.Lengths.{put_length, sends_take_le}
use Rattle.model.specs.Limits.{most_channels}
use Rattle.planner.proofs.slots.lines_length.Goals as goal

pub returns : goal.returns
returns c =
    let h = sends_take_le c.args.n most_channels c.args.sent (le_of_eq c.well_formed.0.1.0.1) in
    put_length c.put_sends.ensures (le_trans h (omega arith))
