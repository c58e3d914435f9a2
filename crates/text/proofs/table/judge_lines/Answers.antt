use Rattle.std.proofs.Common.{◌<◌, ◌≤◌, length, arith}
use Rattle.std.specs.Prelude.{◌≡◌, ℕ, Option, List, drop}
use Rattle.text.specs.RowAtPlace.{found_in}
use Rattle.text.specs.LinesJudged.{key_of, Judging, judging_start, judging_ends, NextRow, row_refused, row_low, row_further, row_passes, judges_bad, judges_good}
use Rattle.text.proofs.table.judge_lines.Goals as goal

-- the line that the loop has come to
next_row : {s : List ℕ} {at rows least : ℕ} {x : Option (ℕ × ℕ × ℕ)} → Judging s at rows least → at < length s → x ≡ found_in at (drop at s)
    → NextRow s at rows least x
next_row z i n = record { so_far = z; inside = i; says = n }

pub loop-at-init : goal.loop-at-init
loop-at-init c = judging_start _

pub returns : goal.returns
returns c = judges_good _ _ (judging_ends _ _ _ _ c.loop-at.invariant c.loop-at-test.false)

pub returns-in_default : goal.returns-in_default
returns-in_default c =
    rw c.bad_after.ensures (judges_bad _ _ (row_refused (next_row c.loop-at.invariant c.loop-at-test.true c.row_at.ensures.answer) c.in_default.is))

pub returns-then-key-least : goal.returns-then-key-least
returns-then-key-least c =
    let low : key_of c.in-Some.slot c.in-Some.offset < c.loop-at.least = omega (arith, c.key_of-key.ensures.0, c.if-key-least.true) in
    rw c.bad_after-then-key-least.ensures (judges_bad _ _ (row_low (next_row c.loop-at.invariant c.loop-at-test.true c.row_at.ensures.answer) _ _ _ c.in-Some.is low))

pub loop-at-smaller : goal.loop-at-smaller
loop-at-smaller c =
    omega (arith, c.loop-at-test.true, row_further (next_row c.loop-at.invariant c.loop-at-test.true c.row_at.ensures.answer) _ _ _ c.in-Some.is)

pub loop-at-preserved : goal.loop-at-preserved
loop-at-preserved c =
    let high : c.loop-at.least ≤ key_of c.in-Some.slot c.in-Some.offset = omega (arith, c.key_of-key.ensures.0, c.if-key-least.false) in
    rw c.key_of-key.ensures.0 (row_passes (next_row c.loop-at.invariant c.loop-at-test.true c.row_at.ensures.answer) _ _ _ c.in-Some.is high)
