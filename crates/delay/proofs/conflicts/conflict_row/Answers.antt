use mathlib.Core.Path.{refl, ap₂, ◌∙◌}
use mathlib.Core.List.{List}
use Prim.Native.Nat.{ℕ, ◌*◌}
use native.Mathlib.Nat.{lt_of_le_of_lt, mul-le-mul}
use native.Mathlib.Omega.{arith}
use lib.Dec.{lit<}
use lib.ListN.{take}
use Rattle.model.specs.Sets.{flow_at, links}
use Rattle.delay.specs.AcceptedFlows.{count_at_law, good_at}
use Rattle.delay.specs.PairGrids.{row_start, row_next}
use Rattle.delay.specs.RoutePlaces.{conflict_law, ends_on}
use Rattle.delay.proofs.conflicts.conflict_row.Goals as goal

pub offset_bounds-s-k : goal.offset_bounds-s-k
offset_bounds-s-k c = omega (arith, count_at_law c.args.s.now c.requires.accepted)

pub bounds-s-k : goal.bounds-s-k
bounds-s-k c = omega (arith, count_at_law c.args.s.now c.requires.accepted)

pub of-mine-requires : goal.of-mine-requires
of-mine-requires c = (good_at c.args.s.now c.requires.accepted c.args.k (omega arith)).nodes_le

pub loop-l-init : goal.loop-l-init
loop-l-init c = (omega (arith, count_at_law c.args.s.now c.requires.accepted), row_start _ _ _ c.requires.small.2)

pub links_touched-requires : goal.links_touched-requires
links_touched-requires c = (good_at c.args.s.now c.requires.accepted c.loop-l.l (omega arith)).nodes_le

pub overflow_mul-t : goal.overflow_mul-t
overflow_mul-t c =
    let tries = (good_at c.args.s.now c.requires.accepted c.loop-l.l (omega arith)).tries_le in
    record { fits = lt_of_le_of_lt (mul-le-mul tries c.links_touched.ensures.small.0) (lit< tt) }

pub loop-l-preserved : goal.loop-l-preserved
loop-l-preserved c =
    let s = c.args.s.now in
    let k = c.args.k in
    let l = c.loop-l.l in
    let it = flow_at s l in
    let mine = c.of-mine.ensures in
    let touched = c.links_touched.ensures.touched ∙ ap₂ (λ (n : ℕ) (r : List ℕ). ends_on it.route (take n r) (links it)) mine.0 mine.1 in
    let work = ap₂ (λ (x y : ℕ). x * y) refl touched ∙ conflict_law s c.requires.accepted k l (omega arith) (omega arith) c.links_touched.ensures.small.1 in
    (c.loop-l.invariant.0, row_next _ l k _ _ _ (omega arith) (omega arith) c.loop-l.invariant.1 work)
