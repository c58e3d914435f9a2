-- `put_word` puts the bytes of the word in turn (`Putting`). Assumes nothing.
use Rattle.std.proofs.Common.{length, take}
use Rattle.text.specs.Put.{Putting}
use Rattle.text.proofs.put.put_word.Given as goal

abbrev pub invariant-loop-b : goal.invariant-loop-b
invariant-loop-b l = Putting l.initial.out l.at (λ i. take i l.word) (length l.word) l.out l.place l.b-index
