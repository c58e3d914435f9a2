-- `route` copies the numbers from the fourth on, as many as there are. Assumes nothing.
use Rattle.std.proofs.Common.{◌∙◌, sym, ap, length}
use Rattle.text.specs.PaddedEntries.{pad_long}
use Rattle.text.proofs.line.Row.route.Goals as goal

pub returns : goal.returns
returns c =
    let e = c.copy_from_slice.ensures in
    e.after ∙ pad_long _ _ (ap length (sym e.after) ∙ e.len)
