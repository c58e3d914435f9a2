-- `superframe_size` is `table_size`, refusals put into an answer. Assumes nothing.
use Rattle.model.specs.Sets.{used}
use Rattle.document.specs.Superframe.{size_answer, size_fault}
use Rattle.superframe_table.specs.SizeAnswers.{told}
use Rattle.superframe_table.proofs.superframe_size.Goals as goal

pub returns : goal.returns
unfolding size_answer
returns c =
    let s = used c.args.s in told s (size_fault s) c.unwrap_or_else.result c.table_size.ensures c.unwrap_or_else.ensures
