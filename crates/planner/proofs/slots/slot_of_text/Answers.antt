-- `slot_of_text` numbers the slot of what was read, and hands both buffers on. Assumes nothing.
use mathlib.Core.Path.{ap, ◌∙◌}
use lib.ListN.{length}
use Rattle.model.specs.declared.answers.Reading.{Reading}
use Rattle.document.specs.Program.{slot_state_with, slot_buffer_with}
use Rattle.document.specs.ForC.{slot_answer_with, slot_for_c_with, slot_numbers}
use Rattle.document.specs.Machine.{order_of}
use Rattle.promise.specs.TextHeld.{text_passes}
use Rattle.planner.specs.SlotIsStep.{slot_told}
use Rattle.planner.proofs.slots.slot_of_text.Goals as goal

pub slot_of_reading-written-requires : goal.slot_of_reading-written-requires
slot_of_reading-written-requires c = rw c.read.ensures.value (text_passes c.args.text.now)

pub returns : goal.returns
unfolding slot_for_c_with
returns c =
    let a = c.args in
    let w = c.slot_of_reading-written.ensures in
    let r = c.read.ensures.value in
    let room = length a.lines.now in
    let told = slot_told (order_of a.by) c.read.result a.state.now room c.unwrap_or_else.result w.value c.unwrap_or_else.ensures in
    record {
      value = c.slot_numbers.ensures ∙ ap slot_numbers (told ∙ ap (λ (x : Reading). slot_answer_with (order_of a.by) x a.state.now room) r);
      state_after_is = w.state_after_is ∙ ap (λ (x : Reading). slot_state_with (order_of a.by) x a.state.now room) r;
      lines_after = w.lines_after ∙ ap (λ (x : Reading). slot_buffer_with (order_of a.by) x a.state.now a.lines.now) r;
    }
