-- `rembasuk_fixed_slot` is `slot_of_text` with fixed priority. Assumes nothing.
use Rattle.planner.proofs.rembasuk_fixed_slot.Goals as goal

pub returns : goal.returns
returns c =
    let w = c.slot_of_text.ensures in record { value = w.value; state_after_is = w.state_after_is; lines_after = w.lines_after }
