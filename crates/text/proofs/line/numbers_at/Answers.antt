use Rattle.std.proofs.Common.{sym, ◌∙◌, arith}
use Rattle.std.specs.Prelude.{◌≡◌, ℕ, ◌+◌, Option, List, drop, slice_index_or}
use Rattle.text.specs.Places.{first}
use Rattle.text.specs.NumberAnswers.{number_in}
use Rattle.text.specs.Rows.{NumbersSoFar, NextNumber, numbers_refused, numbers_within, numbers_next, numbers_full, numbers_on, numbers_ended, numbers_other}
use Rattle.text.proofs.line.numbers_at.Goals as goal
use Rattle.text.proofs.line.numbers_at.Goals.{then-count-lt-MOST, else-count-lt-MOST}

-- the number that the loop has come to
next_number : {s : List ℕ} {from i k : ℕ} {ns : List ℕ} {x : Option (ℕ × ℕ)} → NumbersSoFar s from i k ns → slice_index_or s i 0 ≡ 9
    → x ≡ number_in (i + 1) (first (drop (i + 1) s)) → NextNumber s from i k ns x
next_number z t n = record { so_far = z; tab_is = t; says = n }

pub returns-in_default : goal.returns-in_default
returns-in_default c =
    numbers_refused (next_number c.loop-i.invariant (sym c.byte_at.ensures ∙ c.loop-i-test.true) c.number_at.ensures.answer) c.in_default.is

pub loop-i-smaller : goal.loop-i-smaller
loop-i-smaller c =
    let n = next_number c.loop-i.invariant (sym c.byte_at.ensures ∙ c.loop-i-test.true) c.number_at.ensures.answer in
    omega (arith, numbers_within n, numbers_on n _ _ c.in-Some.is)

pub loop-i-preserved : goal.loop-i-preserved
loop-i-preserved c =
    let n = next_number c.loop-i.invariant (sym c.byte_at.ensures ∙ c.loop-i-test.true) c.number_at.ensures.answer in
    numbers_next n _ _ _
    (elim c.if-count-lt-MOST.branch [
      | then-count-lt-MOST w ↦ sym w.numbers-is
      | else-count-lt-MOST w ↦ numbers_full n _ _ w.if-count-lt-MOST.false w.numbers-is
    ])
    c.in-Some.is

pub returns-then-byte_at-eq10 : goal.returns-then-byte_at-eq10
returns-then-byte_at-eq10 c = numbers_ended _ _ _ _ _ c.loop-i.invariant (sym c.byte_at-2.ensures ∙ c.if-byte_at-eq10.true)

pub returns : goal.returns
returns c =
    numbers_other _ _ _ _ _ c.loop-i.invariant (λ q. c.loop-i-test.false (c.byte_at.ensures ∙ q))
    (λ q. c.if-byte_at-eq10.false (c.byte_at-2.ensures ∙ q))
