-- The other reading of S, and the same test with bounds one less, which the promise excludes.
use Rattle.std.specs.Prelude.{not, ◌&&◌}
use Prim.Native.Nat.{ℕ, ◌-◌, ◌*◌}
use Rattle.model.specs.declared.kinds.Flow.{Flow}
use Rattle.model.specs.declared.kinds.FlowSet.{FlowSet}
use Rattle.model.specs.Sums.{bit, sum_to, any_to}
use Rattle.model.specs.Sets.{flow_at, links}
use Rattle.document.specs.Text.{same}
use Rattle.document.specs.Delay.{ways, work_at, link, touches, whole_packets, remainder, whole_share, joined, share, over_others}
use Rattle.promise.specs.Promise.{Test}

-- The other reading of S: a link of l's route counts only where no earlier link of the route is the same. The basic bound by it:
unfoldable pub different_links : Flow → Flow → ℕ
different_links k l = l.tries * sum_to (λ i. bit (touches k l i && not (any_to (λ j. same (link l j) (link l i)) i))) (links l)

unfoldable pub different_bound : FlowSet → ℕ → ℕ
different_bound s k =
    joined (work_at s k)
    (over_others s k (λ l. share (whole_packets s k l) (different_links (flow_at s k) (flow_at s l)) (remainder s k l)))
    (over_others s k (whole_share s (remainder s k) k))
    (ways s)

-- the same test with bounds one less
abbrev pub one_less : Test → Test
one_less test = record { admits = test.admits; bound = λ s k. test.bound s k - 1 }
