use mathlib.Core.Path.{◌≡◌, refl, ap, ◌∙◌}
use Prim.Native.Nat.{◌<◌}
use native.Mathlib.Omega.{arith}
use Rattle.model.specs.Sets.{used}
use Rattle.document.specs.Machine.{order_of, step_with, run_with}
use Rattle.document.specs.Program.{run_lines_with}
use Rattle.text.specs.Put.{putting_start, putting_more, putting_done}
use Rattle.plan_text.specs.RunSlotBySlot.{run_more_law, run_last}
use Rattle.plan_text.proofs.lines.put_run.Goals as goal

pub loop-slot-init : goal.loop-slot-init
unfolding run_lines_with run_with
loop-slot-init c = (c.fresh-st.ensures, putting_start _ _ _ _ refl (omega arith))

pub loop-slot-preserved : goal.loop-slot-preserved
loop-slot-preserved c =
    let s = c.args.s in
    let first = order_of c.args.by in
    let l = c.loop-slot in
    let a = c.step_accepted-stepped in
    let e : a.result ≡ step_with first (used s) (run_with first (used s) l._slot).last = a.ensures ∙ ap (step_with first (used s)) l.invariant.0 in
    let m : s.map.0 < 65536 = c.well_formed.1.1.1.0.1.1.0.1.1.0.1 in
    let f = run_more_law first s l._slot a.result c.requires m (omega arith) e in
    let p = putting_more _ _ _ _ _ _ _ l.invariant.1 _ _ _ c.loop-slot-test.true (omega arith) f c.put_sends-place.ensures in
    (run_last first (used s) l._slot a.result e, p)

pub returns : goal.returns
returns c = putting_done _ _ _ _ _ _ _ c.loop-slot.invariant.1 _ c.loop-slot-test.false refl
