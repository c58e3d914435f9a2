use mathlib.Core.Path.{◌≡◌, refl, sym, ap, ◌∙◌}
use Prim.Native.Nat.{◌+◌, ◌-◌}
use native.Mathlib.Omega.{arith}
use Rattle.laws.specs.Judged.{err_of, judged_err, judged_ok, ok_of}
use Rattle.model.specs.declared.answers.Refusal.TheVariants.{TooManyFlows}
use Rattle.model.specs.Refusals.{fault_at}
use Rattle.model.specs.Sets.{used}
use Rattle.document.specs.Reader.{flows_fault}
use Rattle.rules.specs.RecordFlows.{flows_here, flows_on, flows_end, flow_fault_at, too_many}
use Rattle.rules.proofs.flows_fault.Goals as goal

pub loop-k-init : goal.loop-k-init
loop-k-init c = let e : c.args.s.now.count ≡ c.args.s.now.count - 0 = omega arith in ap (flows_fault (used c.args.s.now) 0) e

pub returns-then-k-ge-MOST : goal.returns-then-k-ge-MOST
returns-then-k-ge-MOST c =
    let s = c.args.s.now in
    let l = c.loop-k in
    let e = too_many s l.k (omega arith) c.if-k-ge-MOST.true in
    err_of (fault_at TooManyFlows (l.k + 2)) _ refl (flows_here s l.k (omega arith) TooManyFlows e refl ∙ sym l.invariant)

pub returns-in-Err : goal.returns-in-Err
returns-in-Err c =
    let s = c.args.s.now in
    let l = c.loop-k in
    let w = judged_err _ c.record_flow_fault.ensures c.in-Err.is in
    let e = w.0 ∙ flow_fault_at s l.k (omega arith) in
    err_of _ _ w.1 (flows_here s l.k (omega arith) _ e w.1 ∙ sym l.invariant)

pub loop-k-preserved : goal.loop-k-preserved
loop-k-preserved c =
    let w = judged_ok _ c.record_flow_fault.ensures c.in_default.is in
    c.loop-k.invariant ∙ flows_on c.args.s.now c.loop-k.k (omega arith) w

pub returns : goal.returns
returns c = ok_of _ (flows_end c.args.s.now c.loop-k.k (omega arith) ∙ sym c.loop-k.invariant)
