-- `after_word` compares the word byte by byte; what is left of it says the rest (`Spelling`). Assumes nothing.
use Rattle.text.specs.Rows.{Spelling}
use Rattle.text.proofs.line.after_word.Given as goal

abbrev pub invariant-loop-c : goal.invariant-loop-c
invariant-loop-c l = Spelling l.s l.word l.from l.c-index l.at
