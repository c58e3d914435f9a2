use mathlib.Core.Path.{◌≡◌}
use Prim.Native.Nat.{◌<◌}
use native.Mathlib.Nat.{le_trans}
use native.Mathlib.Omega.{arith}
use Rattle.delay.specs.FirstShares.{packets_by, first_sums_start, first_sums_next, share_small, conflict_small}
use Rattle.laws.specs.Loops.{begins, goes_on, ends}
use borrow.Author.Rules.{rules}
use Rattle.delay.proofs.fixed.first_sums.Goals as goal
use Rattle.delay.proofs.fixed.first_sums.Goals.{In-loop-l, After-packets_first-n}

-- the loop takes only flows below k
below : (c : In-loop-l) → c.loop-l.l < c.args.k
below c = c.loop-l-test.true

-- and counts their packets in k's window
packets_of_k : (c : After-packets_first-n)
    → c.packets_first-n.result ≡ packets_by c.args.numbers.now c.args.bound.now c.args.k c.loop-l.l
packets_of_k c = c.packets_first-n.ensures

pub packets_first-n-requires : goal.packets_first-n-requires
packets_first-n-requires c =
    let o = c.requires.1 in
    let l = c.loop-l.l in record { k_lt_most_flows = (search rules, omega arith); nonzero = (o.deadline_pos, o.period_pos l (below c), o.bound_le l (below c)) }

pub work_of_packets-x-requires : goal.work_of_packets-x-requires
work_of_packets-x-requires c =
    let o = c.requires.1 in
    let n = packets_of_k c.before.before.before in
    let h = c.loop-l-test.true in
    le_trans (conflict_small _ _ _ _ _ o h _ n) (share_small _ _ _ _ _ o h _ n)

pub work_of_packets-w-requires : goal.work_of_packets-w-requires
work_of_packets-w-requires c =
    share_small _ _ _ _ _ c.requires.1 c.loop-l-test.true _ c.packets_first-n.ensures

pub loop-l-preserved : goal.loop-l-preserved
loop-l-preserved c =
    let h = c.loop-l-test.true in
    goes_on h
    (first_sums_next _ _ _ _ _ c.requires.1 h _ c.packets_first-n.ensures _ _ _ _
    c.loop-l.invariant.holds c.work_of_packets-x.ensures.0 c.work_of_packets-w.ensures.0)

pub loop-l-init : goal.loop-l-init
loop-l-init c = begins (first_sums_start _ _ _ _)

pub returns : goal.returns
returns c = ends c.loop-l.invariant (omega (arith, c.loop-l-test.false))
