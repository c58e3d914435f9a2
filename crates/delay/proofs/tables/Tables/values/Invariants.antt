-- `values`: the first j entries are the equation's values. Assumes nothing beyond its `requires`.
use Rattle.delay.specs.EquationValues.{table_value, ValuesTo}
use Rattle.delay.proofs.tables.Tables.values.Given as goal

abbrev pub invariant-loop-j : goal.invariant-loop-j
invariant-loop-j l = ValuesTo (table_value l.self l.m l.slack) l.j l.out
