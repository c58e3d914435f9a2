-- `bad_number` goes from field to field, each after its tab; what is left of the line says the rest (`FieldsSoFar`). Each field takes two bytes or
-- more, so the count stays within its width. The measure is what is left of the text. Assumes nothing beyond its `requires`.
use Rattle.std.proofs.Common.{◌-◌, length}
use Rattle.text.specs.FieldSearch.{FieldsSoFar}
use Rattle.text.proofs.field.bad_number.Given as goal

abbrev pub invariant-loop-field : goal.invariant-loop-field
invariant-loop-field l = FieldsSoFar l.s l.from l.field l.i

abbrev pub decreases-loop-field : goal.decreases-loop-field
decreases-loop-field l = length l.s - l.i
