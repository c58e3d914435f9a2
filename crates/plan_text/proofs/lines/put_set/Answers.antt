-- The first line, the flows' lines and the run are put one after the other.
use mathlib.Core.Path.{sym, ap}
use Prim.Native.Nat.{◌≤◌}
use native.Mathlib.Omega.{arith}
use lib.ListN.{length}
use Rattle.model.specs.Sets.{used}
use Rattle.laws.specs.Used.{used_count}
use Rattle.text.specs.Put.{put_put, put_same, last_place}
use Rattle.plan_text.proofs.lines.put_set.Goals as goal

pub returns : goal.returns
returns g c =
    let s = c.args.s in
    let h : length c.args.out.now ≤ last_place = omega arith in
    let e = ap (g.T.Told.flow_lines (used s)) (sym (used_count s)) in
    let b = put_same _ _ _ _ _ _ e c.put_flows-second.ensures in
    let run = rw c.order.ensures at c.put_run.ensures in
    put_same _ _ _ _ _ _ (g.met.T.Told.laws.parts (used s)) (put_put _ _ _ _ _ _ _ _ h (put_put _ _ _ _ _ _ _ _ h c.put_first-first.ensures b) run)
