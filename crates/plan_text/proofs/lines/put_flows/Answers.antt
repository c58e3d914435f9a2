use mathlib.Core.Path.{refl}
use native.Mathlib.Omega.{arith}
use Rattle.model.specs.Sets.{used}
use Rattle.text.specs.Put.{putting_start, putting_more, putting_done}
use Rattle.plan_text.proofs.lines.put_flows.Goals as goal

pub loop-k-init : goal.loop-k-init
loop-k-init g c = putting_start _ _ _ _ (g.met.T.Told.laws.none (used c.args.s)) (omega arith)

pub loop-k-preserved : goal.loop-k-preserved
loop-k-preserved g c =
    let l = c.loop-k in
    let e = g.met.T.Told.laws.more (used c.args.s) l.k in
    putting_more _ _ _ _ _ _ _ l.invariant _ _ _ c.loop-k-test.true (omega arith) e c.put_flow-place.ensures

pub returns : goal.returns
returns g c = putting_done _ _ _ _ _ _ _ c.loop-k.invariant _ c.loop-k-test.false refl
