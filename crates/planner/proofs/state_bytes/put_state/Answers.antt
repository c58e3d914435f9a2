-- `put_state` writes over 68 bytes, and leaves others. Assumes nothing.
use mathlib.Core.Path.{◌∙◌}
use Rattle.planner.specs.StateBytes.{state_put}
use Rattle.planner.proofs.state_bytes.put_state.Goals as goal

pub returns-then-b-eq-LENGTH : goal.returns-then-b-eq-LENGTH
returns-then-b-eq-LENGTH c =
    state_put c.args.st c.args.b.now _ _ c.if-b-eq-LENGTH.true (c.copy_from_slice.ensures.after ∙ c.to_le_bytes.ensures) c.copy_from_slice-then-b-eq-LENGTH.ensures.after
