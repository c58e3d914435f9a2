use mathlib.Core.Path.{◌≡◌, refl, ap, ◌∙◌}
use mathlib.Core.List.{◌++◌}
use Prim.Native.Nat.{ℕ, ◌+◌, ◌*◌}
use native.Mathlib.Omega.{arith}
use lib.ListN.{take, drop}
use Rattle.model.specs.declared.answers.Bounds.{Bounds}
use Rattle.model.specs.Sets.{used}
use Rattle.document.specs.ForC.{bounds_row, bounds_rows}
use Rattle.planner.specs.TableRows.{rows_more_law}
use Rattle.planner.proofs.tables.put_rows.Goals as goal

pub loop-k-init : goal.loop-k-init
unfolding bounds_rows
loop-k-init c = (refl, refl)

pub loop-k-preserved : goal.loop-k-preserved
loop-k-preserved c =
    let l = c.loop-k in
    let a = c.args in
    let s = used a.s in
    let e = c.put_row.ensures ∙ ap (λ (x : Bounds). take (4 * l.k) l.table ++ bounds_row x ++ drop (4 * l.k + 4) l.table) c.bounds-b.ensures in
    (c.put_row.auto.table ∙ l.invariant.0, e ∙ rows_more_law s l.k a.table.now l.table l.invariant.1)

pub returns : goal.returns
returns c =
    let a = c.args in
    let e : c.loop-k.k ≡ a.s.count = omega arith in
    c.loop-k.invariant.1 ∙ ap (λ (n : ℕ). bounds_rows (used a.s) n ++ drop (4 * n) a.table.now) e
