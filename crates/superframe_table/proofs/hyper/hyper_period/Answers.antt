use mathlib.Core.Path.{◌≡◌, ◌∙◌, sym}
use Prim.Native.Nat.{◌+◌}
use native.Mathlib.Omega.{arith}
use Rattle.model.specs.{Sets.{used}}
use Rattle.document.specs.Superframe.{hyper_to}
use Rattle.laws.specs.{Accepted.{accepted}}
use Rattle.delay.specs.AcceptedFlows.{good_at, count_at_law}
use Rattle.superframe_table.specs.LoadedHyper.{if_loaded, hyper_none, hyper_step, hyper_above, hyper_next, hyper_all}
use Rattle.superframe_table.proofs.hyper.hyper_period.Goals as goal
use Rattle.superframe_table.proofs.hyper.hyper_period.Goals.{After-common_multiple}

pub loop-k-init : goal.loop-k-init
loop-k-init c = (count_at_law c.args.s (accepted (used c.args.s) c.requires), hyper_none c.args.s)

pub common_multiple-requires : goal.common_multiple-requires
common_multiple-requires c =
    let s = c.args.s in
    let g = good_at s (accepted (used s) c.requires) c.loop-k.k c.loop-k-test.true in
    let h = c.loop-k.invariant.1 in
    (h.some, h.small, rw (← c.slots.ensures.0) at g.period_pos)

-- with one period more
one_more : (c : After-common_multiple) → c.common_multiple.result ≡ if_loaded (hyper_to (used c.args.s) (c.loop-k.k + 1))
one_more c =
    hyper_step c.args.s c.loop-k.k c.loop-k.h _ _ c.loop-k-test.true c.loop-k.invariant.1 c.slots.ensures.0 c.common_multiple.ensures

pub returns-in_err-h : goal.returns-in_err-h
returns-in_err-h c =
    c.from_residual.ensures
    ∙ hyper_above c.args.s c.loop-k.k c.loop-k-test.true (sym c.in_err-h.was ∙ one_more c.before.before.before)

pub loop-k-preserved : goal.loop-k-preserved
loop-k-preserved c =
    (c.loop-k.invariant.0, hyper_next c.args.s _ _ (sym c.in_ok-h.was ∙ one_more c.before.before))

pub returns : goal.returns
returns c = hyper_all c.args.s c.loop-k.k _ (omega arith) c.loop-k.invariant.1
