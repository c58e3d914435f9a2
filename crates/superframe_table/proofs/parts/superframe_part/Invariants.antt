-- `superframe_part` puts the lines of one slot more each time (`Putting`), from the state after the slots before it. Assumes nothing.
use mathlib.Core.Path.{◌≡◌}
use Prim.Native.Nat.{◌≤◌}
use lib.ListN.{length}
use Rattle.model.specs.Sets.{used}
use Rattle.text.specs.Put.{last_place, Putting}
use Rattle.superframe_table.specs.Parts.{part_slots, part_text, state_after}
use Rattle.superframe_table.proofs.parts.superframe_part.Given as goal

abbrev pub invariant-loop-made : goal.invariant-loop-made
invariant-loop-made l =
    (length l.initial.out ≤ last_place) × (l.n ≡ part_slots l.hyper l.initial.state (length l.initial.out)) × (l.state ≡ state_after (used l.s) l.initial.state l._made)
    × Putting l.initial.out 0 (part_text (used l.s) l.initial.state) l.n l.out l.place l._made
