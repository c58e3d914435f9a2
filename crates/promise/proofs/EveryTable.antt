-- All that is promised of the superframe, of every accepted set and of every text that gives one.
use Rattle.std.specs.Prelude.{◌≡◌, true}
use Rattle.model.specs.declared.kinds.FlowSet.{FlowSet}
use Rattle.model.specs.Refusals.{good}
use Rattle.model.specs.Sets.{used}
use Rattle.document.specs.Reader.{record_fault}
use Rattle.document.specs.Superframe.{hyper}
use Rattle.promise.specs.Promise.{set_in}
use Rattle.promise.specs.Repeated.{Repeated, Repeats, TextRepeats}
use Rattle.promise.specs.TextHeld.{text_passes}
use Rattle.promise.specs.LeastHyper.{least_common}
use Rattle.promise.proofs.SlotsRepeat.{repeats_in}
use Rattle.promise.specs.SlotRows.{rows_most}
use Rattle.promise.proofs.TableLength.{table_length}
use Rattle.promise.specs.TableShape.{rows_shaped}

repeated : (s : FlowSet) → good (record_fault s).refusal ≡ true → Repeated s
repeated s g =
    let c = least_common s g in
    record {
      least = c;
      repeats = λ z. repeats_in s (g, z) c.positive c.divided;
      length = λ z. table_length s (g, z) c.divided;
      shape = rows_shaped s g (hyper s);
      most = rows_most s (hyper s);
    }

pub repeats : Repeats
repeats s g = repeated (used s) g

pub text_repeats : TextRepeats
text_repeats text read = repeated (set_in text) (text_passes text read)
