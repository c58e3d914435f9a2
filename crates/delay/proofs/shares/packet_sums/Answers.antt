use mathlib.Core.Path.{refl, sym, ap₂, ◌∙◌}
use Prim.Native.Nat.{ℕ, ◌+◌, ◌≤◌}
use native.Mathlib.Omega.{arith}
use native.Mathlib.Nat.{mul-le-mul}
use lib.ListN.{get_or}
use Rattle.laws.specs.SumLaws.{sum_next, sum_zero}
use Rattle.delay.proofs.shares.packet_sums.Goals as goal

pub loop-l-init : goal.loop-l-init
loop-l-init c = (omega arith, omega arith, sym (sum_zero _ 0 (λ j h. omega arith)), sym (sum_zero _ 0 (λ j h. omega arith)))

pub loop-l-preserved : goal.loop-l-preserved
loop-l-preserved c =
    let w = c.loop-l in
    let a = c.args in
    let packets : get_or a.q.now w.l 0 ≤ 65535 = omega arith in
    let x = mul-le-mul packets (c.requires.1.conflicts w.l c.loop-l-test.true) in
    let y = mul-le-mul packets (c.requires.1.works w.l c.loop-l-test.true) in (
      omega arith,
      omega arith,
      ap₂ (λ (i j : ℕ). i + j) w.invariant.2 refl ∙ sym (sum_next _ w.l),
      ap₂ (λ (i j : ℕ). i + j) w.invariant.3 refl ∙ sym (sum_next _ w.l),
    )
