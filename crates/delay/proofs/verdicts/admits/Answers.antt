use mathlib.Core.Path.{◌≡◌, sym, ap₂, ◌∙◌}
use mathlib.Core.Bool.{Bool, ◌&&◌}
use native.Mathlib.Omega.{arith}
use lib.ListN.{get_or}
use Rattle.model.specs.Sets.{used}
use Rattle.document.specs.Delay.{admits}
use Rattle.delay.specs.VerdictAnswers.{all_zero, all_next, all_not, keeps_entry}
use Rattle.delay.proofs.verdicts.admits.Goals as goal

pub loop-k-init : goal.loop-k-init
loop-k-init c = all_zero _

pub loop-k-preserved : goal.loop-k-preserved
loop-k-preserved c =
    let k = c.loop-k.k in
    let e = keeps_entry c.args.s.now (λ i. get_or c.args.bound.now i 0) k c.loop-k-test.true in
    all_next _ k ∙ ap₂ (λ (x y : Bool). x && y) c.loop-k.invariant (sym (c.keeps.ensures ∙ e) ∙ c.if-not-keeps.false)

pub returns-then-not-keeps : goal.returns-then-not-keeps
unfolding admits used
returns-then-not-keeps c =
    let k = c.loop-k.k in
    let e = keeps_entry c.args.s.now (λ i. get_or c.args.bound.now i 0) k c.loop-k-test.true in
    sym (all_not _ _ k c.loop-k-test.true (sym (c.keeps.ensures ∙ e) ∙ c.if-not-keeps.true))

pub returns : goal.returns
unfolding admits used
returns c =
    let e : c.loop-k.k ≡ c.args.s.now.count = omega arith in
    sym (rw e at c.loop-k.invariant)
