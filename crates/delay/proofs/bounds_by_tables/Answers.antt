-- `bounds_by_tables`: the values without slack are the basic bounds, and those at the last list the tightened ones. Assumes nothing beyond its `requires`.
use Prim.Native.Nat.{◌<◌}
use native.Mathlib.Omega.{arith}
use Rattle.model.specs.Sets.{used}
use Rattle.delay.specs.EquationValues.{sums_fit_carried}
use Rattle.delay.specs.BoundsReached.{basic_carried, tight_carried, values_ext}
use Rattle.laws.specs.Accepted.{ones_pos}
use Rattle.delay.proofs.bounds_by_tables.Goals as goal

pub values-basic-requires : goal.values-basic-requires
unfolding used
values-basic-requires c =
    let a = c.requires.0 in
    let m : 0 < c.ways-m.result = omega (arith, ones_pos c.args.s.now.map.0 a.some_channel) in
    record { n_le_most_flows = (a.count_le, m); sums_fit_to = sums_fit_carried (used c.args.s.now) a.count_le _ c.requires.1 }

pub values-tightened-requires : goal.values-tightened-requires
unfolding used
values-tightened-requires c =
    let a = c.requires.0 in
    let m : 0 < c.ways-m.result = omega (arith, ones_pos c.args.s.now.map.0 a.some_channel) in
    record { n_le_most_flows = (a.count_le, m); sums_fit_to = sums_fit_carried (used c.args.s.now) a.count_le _ c.requires.1 }

pub returns : goal.returns
unfolding used
returns c =
    let u = used c.args.s.now in
    let t = c.args.tables.now in
    let n = c.requires.0.count_le in
    let o = c.requires.1 in
    let e = c.ways-m.ensures in
    let r = c.rounds-end.ensures in
    record {
      basics = values_ext _ _ _ _ (basic_carried u n t o _ e) c.values-basic.ensures;
      tights = values_ext _ _ _ _ (tight_carried u n t o _ e _ r.slack_within r.rounds_value.1) c.values-tightened.ensures;
      rounds = r.rounds_value.0;
    }
