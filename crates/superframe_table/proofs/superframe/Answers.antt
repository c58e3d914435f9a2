-- `superframe` is `put_table`, refusals put into an answer. Assumes nothing.
use lib.ListN.{length}
use Rattle.model.specs.Sets.{used}
use Rattle.document.specs.Superframe.{superframe_answer, superframe_fault}
use Rattle.superframe_table.specs.SizeAnswers.{told}
use Rattle.superframe_table.proofs.superframe.Goals as goal

pub returns : goal.returns
unfolding superframe_answer
returns c =
    let s = used c.args.s in
    let w = c.put_table.ensures in
    let f = superframe_fault s (length c.args.table.now) in
    record { value = told s f c.unwrap_or_else.result w.value c.unwrap_or_else.ensures; table_after_is = w.table_after_is }
