-- `state_of` reads 68 bytes, and takes the fresh state of others. Assumes nothing.
use mathlib.Core.Path.{◌≡◌}
use native.Mathlib.Omega.{arith}
use lib.ListN.{length}
use Rattle.planner.specs.StateBytes.{state_read}
use Rattle.document.specs.Program.{state_length}
use Rattle.planner.proofs.state_bytes.state_of.Goals as goal

pub returns : goal.returns
returns c =
    let p = c.in-Some.ensures.cases in
    let w = c.in-Ok.ensures.1 in
    let l : length c.args.b.now ≡ state_length = omega (arith, p.2, w.long) in
    rw (c.from_le_bytes.ensures, w.same) (state_read c.args.b.now _ _ l p.0 p.1)
