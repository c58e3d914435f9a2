-- `put_fields` puts the numbers in turn (`Putting`). Assumes nothing.
use Rattle.std.proofs.Common.{length, take}
use Rattle.text.specs.Put.{fields_of, Putting}
use Rattle.text.proofs.put.put_fields.Given as goal

abbrev pub invariant-loop-v : goal.invariant-loop-v
invariant-loop-v l = Putting l.initial.out l.at (λ i. fields_of (take i l.numbers)) (length l.numbers) l.out l.place l.v-index
