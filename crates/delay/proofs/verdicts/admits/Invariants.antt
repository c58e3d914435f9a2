-- `admits`: the bounds so far are all kept. Assumes nothing beyond its `requires`.
use mathlib.Core.Path.{◌≡◌}
use mathlib.Core.Bool.{true}
use lib.Dec.{leb}
use lib.ListN.{get_or}
use Rattle.model.specs.Sums.{all_to}
use Rattle.model.specs.Sets.{used}
use Rattle.document.specs.Delay.{deadline}
use Rattle.delay.proofs.verdicts.admits.Given as goal

abbrev pub invariant-loop-k : goal.invariant-loop-k
invariant-loop-k l = all_to (λ i. leb (get_or l.bound i 0) (deadline (used l.s) i)) l.k ≡ true
