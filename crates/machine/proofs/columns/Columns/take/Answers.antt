-- `take` gives each flow's numbers in turn; C fits a byte since the set is accepted. Assumes nothing.
use Rattle.machine.specs.PacketNumbers.{accepted_count, accepted_flow}
use Rattle.machine.specs.LinkColumns.{routes_next}
use Rattle.machine.specs.ArrayLists.{set_le_all, through_all, through_next}
use Rattle.machine.specs.SlotByColumns.{after_numbers, flows_none}
use Rattle.machine.specs.Structs.{links_of}
use Rattle.laws.specs.Accepted.{work_small}
use Rattle.laws.specs.Used.{used_flow}
use Rattle.model.specs.Limits.{most_flows}
use Rattle.model.specs.Sets.{work, flow_at}
use Rattle.model.specs.declared.kinds.Flow.{Flow}
use lib.ListN.{length-set}
use native.Mathlib.Omega.{arith}
use Prim.Native.Nat.{◌≤◌, ◌<◌}
use mathlib.Core.Path.{◌≡◌, refl, sym, ap, ◌∙◌}
use borrow.Author.Rules.{rules}
use Rattle.machine.proofs.columns.Columns.take.Goals as goal

pub invariant_of-self : goal.invariant_of-self
invariant_of-self c = record { some_ways = c.ways_of-self.ensures.1; few = accepted_count _ c.requires.good; small = c.args.self.now.small }

pub loop-k-init : goal.loop-k-init
loop-k-init c =
    (c.ways_of-self.ensures.0, rw (← c.requires.none) at (flows_none c.args.s.now _ (links_of c.args.self.now) refl (search rules) (search rules)))

pub put-requires : goal.put-requires
put-requires c =
    let s = c.args.s.now in
    let k = c.loop-k.k in
    let below : k < s.count = omega (arith, c.loop-k-test.true, c.loop-k.invariant.1.count_is) in
    let w : work (flow_at s k) ≤ 64 = work_small _ (accepted_flow s c.requires.good k below) in
    (omega (arith, c.loop-k-test.true, c.loop-k.self.few), omega (arith, w))

pub loop-k-preserved : goal.loop-k-preserved
loop-k-preserved c =
    let v = c.loop-k in
    let m = v.invariant.1 in
    let s = c.args.s.now in
    let h : v.k < s.count = omega (arith, c.loop-k-test.true, m.count_is) in
    let l : v.k < most_flows = omega (arith, c.loop-k-test.true, v.self.few) in
    let u = sym (used_flow s v.k h) in
    let e = c.put.ensures in (
      e.counts.0 ∙ v.invariant.0,
      record {
        count_is = e.counts.1 ∙ m.count_is;
        starts = rw e.start (through_next _ v.k _ _ _ l (ap (λ (f : Flow). f.start) u) m.starts);
        periods = rw e.period (through_next _ v.k _ _ _ l (ap (λ (f : Flow). f.period.0) u) m.periods);
        deadlines = rw e.deadline (through_next _ v.k _ _ _ l (ap (λ (f : Flow). f.deadline.0) u) m.deadlines);
        works = rw e.work (through_next _ v.k _ _ _ l (ap work u) m.works);
        small_period = rw e.period (set_le_all _ v.k _ 65535 m.small_period e.widths.0);
        small_deadline = rw e.deadline (set_le_all _ v.k _ 65535 m.small_deadline e.widths.1);
        long_tries = rw e.tries (length-set _ v.k _ ∙ m.long_tries);
        long_routes = rw e.routes (length-set _ v.k _ ∙ m.long_routes);
        links_are = rw (e.tries, e.routes) (routes_next s v.k _ _ (rw m.long_tries l) (rw m.long_routes l) e.widths.2 m.links_are);
      },
    )

pub returns-clause-numbers : goal.returns-clause-numbers
returns-clause-numbers c =
    let v = c.loop-k in
    let m = v.invariant.1 in
    let e : v.k ≡ c.args.s.now.count = omega (arith, m.count_is, c.loop-k-test.false) in
    after_numbers _ _ c.requires.good (through_all _ _ _ _ _ e m.starts) (through_all _ _ _ _ _ e m.periods) (through_all _ _ _ _ _ e m.deadlines)
    (through_all _ _ _ _ _ e m.works) v.self.small m.small_period m.small_deadline
