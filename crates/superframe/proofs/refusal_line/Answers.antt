-- `refusal_line` puts the refusal's number, line and field. Assumes nothing beyond its `requires`.
use Rattle.superframe.specs.Prints.{refusal_left}
use Rattle.superframe.proofs.refusal_line.Goals as goal

pub returns : goal.returns
returns c = refusal_left c.args.fault _ c.code.ensures c.requires.2 c.put_refused.ensures
