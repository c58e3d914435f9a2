-- `channel_of` refuses what is no map, and else asks the machine. Assumes nothing.
use Prim.Native.Nat.{◌≤◌}
use native.Mathlib.Omega.{arith}
use borrow.Author.Tests.{lt-ltb, le-ltb}
use Rattle.document.specs.ForC.{channel_for_c}
use Rattle.planner.proofs.superframes.channel_of.Goals as goal

pub returns-in-Ok : goal.returns-in-Ok
unfolding channel_for_c
returns-in-Ok c =
    let a = c.args in
    let h = c.in-Ok.ensures in
    let l : a.bits ≤ 65535 = omega (arith, h.0) in
    rw (le-ltb _ _ l, ← h.1, ← c.new.ensures, c.from.ensures) c.radio_channel.ensures

pub returns-in-Err : goal.returns-in-Err
unfolding channel_for_c
returns-in-Err c = let h = c.in-Err.ensures in rw (lt-ltb 65535 c.args.bits (omega (arith, h)))
