-- The text goes into a buffer that is long enough for every text of a program, and from there into the lent one if there is room.
use mathlib.Core.Path.{◌≡◌, ap, ◌∙◌}
use Prim.Native.Nat.{ℕ}
use lib.ListN.{length, length-replicate, replicate}
use Rattle.model.specs.declared.answers.Fault.{Fault}
use Rattle.document.specs.Reader.{refused_writing}
use Rattle.plan_text.specs.PlanOfReading.{most_plan}
use Rattle.plan_text.specs.PlanInBuffer.{said_long, said_part, said_no_room, said_room}
use Rattle.plan_text.proofs.print.Goals as goal

zeros : length (replicate {A = ℕ} most_plan 0) ≡ most_plan
zeros = length-replicate {A = ℕ} most_plan 0

pub returns-then-out-n : goal.returns-then-out-n
returns-then-out-n g c =
    let a = c.args in
    let w = said_no_room g.T.Told.all_lines g.met.T.Told.laws.short a.input.now c.put_text-n.ensures zeros a.out.now c.if-out-n.true in record { value = c.refused.ensures ∙ ap refused_writing c.of.ensures ∙ w.0; out_after = w.1 }

pub slice_bounds-text-end : goal.slice_bounds-text-end
slice_bounds-text-end g c =
    said_long g.T.Told.all_lines g.met.T.Told.laws.short c.args.input.now c.put_text-n.ensures zeros

pub slice_bounds-put_word-end : goal.slice_bounds-put_word-end
slice_bounds-put_word-end g c =
    said_part g.T.Told.all_lines g.met.T.Told.laws.short c.args.input.now c.put_text-n.ensures zeros

pub returns : goal.returns
returns g c =
    let a = c.args in
    let z = said_room g.T.Told.all_lines g.met.T.Told.laws.short a.input.now c.put_text-n.ensures zeros a.out.now _ _ c.if-out-n.false c.put_word.ensures in record { value = ap (λ (f : Fault). record { fault = f; length = c.put_text-n.result }) c.none.ensures ∙ z.0; out_after = z.1 }
