-- Each turn makes one part more, from the state after the parts so far, and comes nearer to the hyper-period. Assumes nothing beyond its `requires`.
use Rattle.std.proofs.Common.{refl, rules}
use Rattle.superframe_table.specs.Parts.{parts_state}
use Rattle.superframe.specs.Prints.{one_more, all_parts}
use Rattle.superframe.proofs.write_parts.Goals as goal

pub loop-st-init : goal.loop-st-init
unfolding parts_state
loop-st-init g c = (c.fresh-st.ensures, refl)

pub overflow_add-parts : goal.overflow_add-parts
overflow_add-parts g c =
    let turn = one_more _ c.requires.0 _ c.requires.1 _ _ c.loop-st.invariant.0 c.loop-st-test.true _ c.loop-st.invariant.1 _ c.superframe_part-part.ensures.value in
    let few = turn.few in
    search rules

pub loop-st-smaller : goal.loop-st-smaller
loop-st-smaller g c =
    (one_more _ c.requires.0 _ c.requires.1 _ _ c.loop-st.invariant.0 c.loop-st-test.true _ c.loop-st.invariant.1 _ c.superframe_part-part.ensures.value).nearer

pub loop-st-preserved : goal.loop-st-preserved
loop-st-preserved g c = (
  (one_more _ c.requires.0 _ c.requires.1 _ _ c.loop-st.invariant.0 c.loop-st-test.true _ c.loop-st.invariant.1 _ c.superframe_part-part.ensures.value).state,
  search rules,
)

pub returns : goal.returns
returns g c = all_parts _ c.requires.0 _ c.requires.1 _ _ c.loop-st.invariant.0 c.loop-st-test.false
