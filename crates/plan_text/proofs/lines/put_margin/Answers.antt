-- The margin is written by whether the bound is above the deadline.
use Prim.Native.Nat.{◌≤◌}
use native.Mathlib.Omega.{arith}
use borrow.Author.Tests.{lt-ltb}
use lib.ListN.{length}
use Rattle.text.specs.Put.{put_put, last_place}
use Rattle.plan_text.proofs.lines.put_margin.Goals as goal

pub returns-then-deadline-bound : goal.returns-then-deadline-bound
returns-then-deadline-bound c =
    let a = c.args in
    let h : length a.out.now ≤ last_place = omega arith in
    rw (lt-ltb a.deadline a.bound c.if-deadline-bound.true) (put_put _ _ _ _ _ _ _ _ h c.put_word-place.ensures c.put_number.ensures)
