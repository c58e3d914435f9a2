use Rattle.std.proofs.Common.{le_trans, mul-le-mul_right, arith}
use Rattle.std.proofs.Math.Nat.{div-mul-le_self}
use Rattle.document.specs.Superframe.{most_hyper}
use Rattle.superframe_table.specs.LoadedHyper.{reached_first, reached_end, reached_above, reached_next}
use Rattle.superframe_table.proofs.hyper.first_common.Goals as goal

pub loop-k-init : goal.loop-k-init
loop-k-init c = reached_first _ _ c.requires.0 c.requires.2

pub returns-then-x-b-eq0 : goal.returns-then-x-b-eq0
returns-then-x-b-eq0 c =
    let r = c.requires in
    let h = le_trans (mul-le-mul_right c.args.a c.loop-k-test.true) (div-mul-le_self most_hyper c.args.a) in
    reached_end _ _ r.0 r.2 _ c.loop-k.invariant h c.if-x-b-eq0.true

pub loop-k-preserved : goal.loop-k-preserved
loop-k-preserved c = reached_next _ _ c.requires.0 c.requires.2 _ c.loop-k.invariant c.if-x-b-eq0.false

pub returns-else-x-b-eq0 : goal.returns-else-x-b-eq0
returns-else-x-b-eq0 c =
    let r = c.requires in
    let h = reached_next _ _ r.0 r.2 _ c.loop-k.invariant c.if-x-b-eq0.false in
    reached_above _ _ r.0 r.2 _ h (omega arith)
