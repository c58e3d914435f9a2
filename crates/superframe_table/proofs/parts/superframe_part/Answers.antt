use mathlib.Core.Path.{◌≡◌, refl, ap, ◌∙◌}
use native.Mathlib.Omega.{arith}
use lib.ListN.{length}
use Rattle.model.specs.Sets.{used}
use Rattle.document.specs.Machine.{step_of}
use Rattle.document.specs.Superframe.{row_lines}
use Rattle.text.specs.HeldByCode.{set_held}
use Rattle.text.specs.Put.{putting_start, putting_more, putting_done}
use Rattle.superframe_table.specs.Parts.{part_slots, part_text, rows_more, state_after}
use Rattle.superframe_table.specs.SendRows.{few_sends, part_is, part_left, part_next, state_next}
use Rattle.superframe_table.proofs.parts.superframe_part.Goals as goal

pub loop-made-init : goal.loop-made-init
unfolding state_after rows_more row_lines
loop-made-init c = (omega arith, c.slots_of-n.ensures, refl, putting_start _ _ _ _ refl (omega arith))

pub loop-made-preserved : goal.loop-made-preserved
loop-made-preserved c =
    let s = c.args.s in
    let l = c.loop-made in
    let m = (set_held s _ c.well_formed.0).map_fits in
    let a = c.step-stepped in
    let e : a.result ≡ step_of (used s) (state_after (used s) c.args.st l._made) = a.ensures ∙ ap (step_of (used s)) l.invariant.2 in
    let f = part_next s (omega arith) c.args.st l._made _ e in (
      l.invariant.0,
      l.invariant.1,
      state_next (used s) c.args.st l._made _ e,
      putting_more _ _ _ _ _ _ _ l.invariant.3 _ _ _ c.loop-made-test.true l.invariant.0 f c.put_slot_rows-place.ensures,
    )

pub returns : goal.returns
returns c =
    let s = c.args.s in
    let m = (set_held s _ c.well_formed.0).map_fits in
    let v = c.loop-made.invariant in
    let n = part_slots c.args.hyper c.args.st (length c.args.out.now) in
    let p = putting_done _ _ _ _ _ _ _ v.3 _ c.loop-made-test.false (ap (part_text (used s) c.args.st) v.1) in
    let d = part_left s (omega arith) c.args.st c.args.hyper v.0 p in record { value = part_is (used s) c.args.st c.loop-made._made n (omega arith) v.2 d.0; out_after = d.1 }

pub shared_ref_as_front-sent : goal.shared_ref_as_front-sent
shared_ref_as_front-sent c =
    let m = (set_held c.args.s _ c.well_formed.0).map_fits in
    few_sends c.args.s (omega arith) _ _ c.step-stepped.ensures
