-- `digit_at` sees a digit exactly where `look_at` does: a byte less 48, taken round, is below 10 for a digit alone. Assumes nothing.
use Rattle.std.proofs.Common.{ℕ, min, sym, ap, ◌∙◌, arith}
use Rattle.text.specs.DigitsRead.{look_here, look_beyond}
use Rattle.text.specs.EndedNumbers.{digit_less}
use Rattle.text.proofs.table.digit_at.Goals as goal

pub returns-then-at-s : goal.returns-then-at-s
returns-then-at-s c = record { as_is = digit_less _ _ (omega arith) (omega (arith, (c.type_inv.s c.args.at).fits)) ∙ ap (λ (n : ℕ). min n 10) (sym (look_here _ _ c.if-at-s.true)) }

pub returns-else-at-s : goal.returns-else-at-s
returns-else-at-s c = record { as_is = ap (λ (n : ℕ). min n 10) (sym (look_beyond _ _ c.if-at-s.false)) }
