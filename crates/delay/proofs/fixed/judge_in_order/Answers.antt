use mathlib.Core.Path.{◌≡◌, refl, sym, ◌∙◌}
use Prim.Native.Nat.{◌≤◌}
use native.Mathlib.Omega.{arith}
use borrow.Author.Tests.{leb-true, leb-false}
use Rattle.model.specs.Sets.{used}
use Rattle.document.specs.Delay.{deadline}
use Rattle.laws.specs.Accepted.{ones_pos}
use Rattle.delay.specs.AcceptedFlows.{count_at_law}
use Rattle.delay.specs.FirstShares.{column_bound_law, small_first}
use Rattle.delay.specs.FixedJudged.{judged_start, kept_below, judged_on, judged_over, all_kept}
use Rattle.delay.specs.VerdictAnswers.{keeps_entry}
use Rattle.delay.proofs.fixed.judge_in_order.Goals as goal
use Rattle.delay.proofs.fixed.judge_in_order.Goals.{Else-not-keeps}

pub loop-k-init : goal.loop-k-init
loop-k-init c = (count_at_law c.args.s.now c.requires.accepted.0, judged_start _)

pub bound_after-b-requires : goal.bound_after-b-requires
unfolding used
bound_after-b-requires c =
    let u = used c.args.s.now in
    let a = c.requires.accepted.0 in
    let h = c.loop-k-test.true in
    let j = c.loop-k.invariant in (
      omega (arith, j.0),
      omega (arith, ones_pos c.args.s.now.map.0 a.some_channel),
      small_first u a _ _ _ c.requires.accepted.1 c.requires.rows_below _ h (kept_below u _ _ j.1),
    )

-- the next flow is judged only where this one's bound is at most its deadline
bound-kept : (c : Else-not-keeps) → c.bound_after-b.result ≤ deadline (used c.args.s.now) c.loop-k.k
bound-kept c =
    leb-true _ _ (sym (c.keeps.ensures ∙ keeps_entry c.args.s.now (λ i. c.bound_after-b.result) c.loop-k.k c.loop-k-test.true) ∙ c.if-not-keeps.false)

pub loop-k-preserved : goal.loop-k-preserved
unfolding used
loop-k-preserved c =
    let s = c.args.s.now in
    let k = c.loop-k.k in
    let h = c.loop-k-test.true in
    let j = c.loop-k.invariant in
    let p = c.requires in
    let given = c.bound_after-b.ensures ∙ column_bound_law (used s) p.accepted.0 _ _ _ p.accepted.1 p.rows_below k h _ c.ways-m.ensures in
    (j.0, judged_on _ _ _ j.1 h j.0 _ given (bound-kept c))

pub returns-then-not-keeps : goal.returns-then-not-keeps
unfolding used
returns-then-not-keeps c =
    let s = c.args.s.now in
    let k = c.loop-k.k in
    let h = c.loop-k-test.true in
    let j = c.loop-k.invariant in
    let p = c.requires in
    let given = c.bound_after-b.ensures ∙ column_bound_law (used s) p.accepted.0 _ _ _ p.accepted.1 p.rows_below k h _ c.ways-m.ensures in
    let over = sym (c.keeps.ensures ∙ keeps_entry s (λ i. c.bound_after-b.result) k h) ∙ c.if-not-keeps.true in
    judged_over _ _ _ j.1 h j.0 _ given (leb-false _ _ over) _ c.last_judged.ensures.bound_is c.last_judged.ensures.judged_is

pub returns : goal.returns
unfolding used
returns c =
    let e : c.loop-k.k ≡ c.args.s.now.count = omega arith in
    all_kept _ _ (rw e at c.loop-k.invariant.1) refl
