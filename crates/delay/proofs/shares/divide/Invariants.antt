-- `divide`: the quotients and remainders of the periods so far. Assumes nothing beyond its `requires`.
use Rattle.delay.specs.ShareRows.{Divided}
use Rattle.delay.proofs.shares.divide.Given as goal

abbrev pub invariant-loop-l : goal.invariant-loop-l
invariant-loop-l l = Divided l.k l.l l.deadline l.numbers.period l.initial.q l.q l.initial.remainder l.remainder
