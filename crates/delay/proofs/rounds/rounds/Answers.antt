use mathlib.Core.Path.{sym}
use Prim.Native.Nat.{◌<◌}
use native.Mathlib.Omega.{arith}
use Rattle.model.specs.Sets.{used}
use Rattle.laws.specs.Accepted.{ones_pos}
use Rattle.delay.specs.EquationValues.{sums_fit_carried}
use Rattle.delay.specs.RoundsReached.{going_start, most_small, round_after, deadlines_carried, zero_slack}
use Rattle.delay.proofs.rounds.rounds.Goals as goal

pub loop-changes-init : goal.loop-changes-init
unfolding used
loop-changes-init c =
    let u = used c.args.s.now in
    let t = c.args.tables.now in
    (zero_slack t.numbers.deadline c.args.s.now.count, rw (deadlines_carried u t.numbers.deadline c.requires.1.numbers.deadlines) (going_start u))

pub one_round-requires : goal.one_round-requires
unfolding used
one_round-requires c =
    let a = c.requires.0 in
    let m : 0 < c.ways-m.result = omega (arith, ones_pos c.args.s.now.map.0 a.some_channel) in
    record { n_le_most_flows = (a.count_le, m, c.loop-changes.invariant.0); sums_fit_to = sums_fit_carried (used c.args.s.now) a.count_le _ c.requires.1 }

pub overflow_add-changes : goal.overflow_add-changes
unfolding used
overflow_add-changes c =
    omega (arith, c.loop-changes.invariant.1.1, most_small (used c.args.s.now) c.requires.0.count_le c.requires.1.numbers.deadlines_le)

pub loop-changes-preserved : goal.loop-changes-preserved
unfolding used
loop-changes-preserved c =
    let r = c.one_round.ensures in
    let going = round_after (used c.args.s.now) c.requires.0 c.args.tables.now c.requires.1 _ c.ways-m.ensures _ _ _ _ c.loop-changes.invariant.1 r.round_for in
    (r.slack_within, rw c.loop-changes-test.true at going)

pub overflow_add-result : goal.overflow_add-result
unfolding used
overflow_add-result c =
    omega (arith, c.loop-changes.invariant.1.1, most_small (used c.args.s.now) c.requires.0.count_le c.requires.1.numbers.deadlines_le)

pub returns-clause-rounds_value : goal.returns-clause-rounds_value
unfolding used
returns-clause-rounds_value c =
    let r = c.one_round.ensures in
    let going = round_after (used c.args.s.now) c.requires.0 c.args.tables.now c.requires.1 _ c.ways-m.ensures _ _ _ _ c.loop-changes.invariant.1 r.round_for in
    let over = rw c.loop-changes-test.false at going in
    (sym over.2, sym over.1)
