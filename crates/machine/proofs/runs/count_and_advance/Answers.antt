use Rattle.machine.specs.Structs.{packets_at}
use Rattle.machine.specs.SlotAnswers.{delivered_by, dropped_by}
use Rattle.machine.specs.ArrayLists.{through_none, through_next, length_filter_to, filter_le}
use Rattle.laws.specs.SumLaws.{sum_next}
use Rattle.model.specs.Sets.{filter_to}
use Rattle.model.specs.Sums.{bit}
use lib.Dec.{leb, ltb, eqb}
use lib.ListN.{get_or, length}
use native.Mathlib.Nat.{le_refl}
use native.Mathlib.Omega.{arith}
use mathlib.Core.List.{List}
use Prim.Native.Nat.{ℕ, ◌+◌}
use mathlib.Core.Bool.{Bool, ◌&&◌}
use mathlib.Core.Path.{◌≡◌, refl, sym, ap, ap₂, ◌∙◌}
use Rattle.machine.proofs.runs.count_and_advance.Goals as goal

pub loop-k-init : goal.loop-k-init
unfolding filter_to
loop-k-init c = (refl, refl, through_none _ _, refl)

-- one number more is looked at
more : (p : ℕ → Bool) (k : ℕ) → length (filter_to p (k + 1)) ≡ length (filter_to p k) + bit (p k)
more p k = length_filter_to p (k + 1) ∙ sum_next (λ j. bit (p j)) k ∙ ap (λ (x : ℕ). x + bit (p k)) (sym (length_filter_to p k))

pub overflow_add-delivered : goal.overflow_add-delivered
overflow_add-delivered c =
    let a = c.args in
    let got = delivered_by a.p.now.sent a.c.now.work a.placed.now.marked in
    let v = c.loop-k in
    omega (arith, c.bit-delivered.ensures.1, v.invariant.0, filter_le got v.k, c.loop-k-test.true)

pub overflow_add-dropped : goal.overflow_add-dropped
overflow_add-dropped c =
    let a = c.args in
    let lost = dropped_by a.t (packets_at a.c.now a.p.now) a.placed.now.marked in
    let v = c.loop-k in
    omega (arith, c.bit-dropped.ensures.1, v.invariant.1, filter_le lost v.k, c.loop-k-test.true)

pub loop-k-preserved : goal.loop-k-preserved
loop-k-preserved c =
    let v = c.loop-k in
    let a = c.args in
    let p = a.p.now in
    let work = a.c.now.work in
    let got = delivered_by p.sent work a.placed.now.marked in
    let lost = dropped_by a.t (packets_at a.c.now p) a.placed.now.marked in
    let k = v.k in
    let m : ℕ = get_or a.placed.now.marked k 0 in
    let i = v.invariant in
    let u : get_or v.p.sent k 0 ≡ get_or p.sent k 0 = i.2.above k (le_refl k) in (
      ap₂ (λ (x y : ℕ). x + y) i.0
          (c.bit-delivered.ensures.0 ∙ ap bit (c.is_delivered-got.ensures ∙ ap (λ (n : ℕ). eqb m 1 && eqb (n + 1) (get_or work k 0)) u))
          ∙ sym (more got k),
      ap₂ (λ (x y : ℕ). x + y) i.1
          (c.bit-dropped.ensures.0 ∙ ap bit (c.is_dropped-lost.ensures
          ∙ ap₂ (λ (n : ℕ) (due : List ℕ). leb (get_or a.c.now.start k 0) a.t && eqb (a.t + 1) (get_or due k 0) && ltb (n + m) (get_or work k 0)) u i.3))
          ∙ sym (more lost k),
      through_next _ _ _ _ _ (omega arith) (ap (λ (x : ℕ). x + m) u) i.2,
      i.3,
    )
