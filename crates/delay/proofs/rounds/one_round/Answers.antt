use mathlib.Core.Path.{◌≡◌}
use native.Mathlib.Omega.{arith}
use borrow.Author.Rules.{rules}
use Rattle.delay.specs.OneRound.{underway_start, underway_done, underway_falls, underway_stays}
use Rattle.delay.proofs.rounds.one_round.Goals as goal
use Rattle.delay.proofs.rounds.one_round.Goals.{then-list-k, else-list-k}

pub loop-k-init : goal.loop-k-init
loop-k-init c = underway_start _ _ _ _ (search rules) c.requires.n_le_most_flows.2

pub value-x-requires-clause-sums_fit : goal.value-x-requires-clause-sums_fit
value-x-requires-clause-sums_fit c = c.requires.sums_fit_to _ _ c.loop-k-test.true

pub loop-k-preserved : goal.loop-k-preserved
loop-k-preserved c =
    let l = c.loop-k in
    let h = c.loop-k-test.true in
    let few = c.requires.n_le_most_flows.0 in
    let f = c.deadline_less_value-next.ensures in
    elim c.if-list-k.branch [
      | then-list-k w ↦ rw (w.slack-is, w.changed-is, f) (underway_falls _ _ _ _ _ l.k _ l.invariant h few _ c.value-x.ensures.0 (rw f at w.if-list-k.true))
      | else-list-k w ↦ rw (w.slack-is, w.changed-is) (underway_stays _ _ _ _ _ l.k _ l.invariant h few _ c.value-x.ensures.0 (rw f at w.if-list-k.false))
    ]

pub returns-clause-round_for : goal.returns-clause-round_for
returns-clause-round_for c =
    let l = c.loop-k in
    let e : l.k ≡ c.args.n = omega arith in
    underway_done _ _ _ _ _ _ (rw e at l.invariant)
