-- `put_lines` puts from place 0 on. Assumes nothing.
use Rattle.planner.proofs.slots.put_lines.Goals as goal

pub returns : goal.returns
returns c = c.put_sends.ensures
