-- Each turn makes one part more, from the state after the parts so far, and comes nearer to the hyper-period.
use Rattle.std.proofs.Common.{length, ◌-◌, ◌≡◌}
use Rattle.model.specs.Sets.{used}
use Rattle.superframe_table.specs.Parts.{parts_state}
use Rattle.superframe.specs.Prints.{part_room}
use Rattle.superframe.proofs.write_parts.Given as goal

abbrev pub invariant-loop-st : goal.invariant-loop-st
invariant-loop-st g l = (l.st ≡ parts_state (used l.set) l.hyper part_room l.parts) × (length l.out ≡ 65536)

abbrev pub decreases-loop-st : goal.decreases-loop-st
decreases-loop-st g l = l.hyper - l.st.slot.0
