-- What document 01 says of the two tests, as theorems of the answers `verdict_of` and `bounds_of`: an answer of a set that is not refused is what
-- the equation and the rounds give, and the laws of these carry over; a refused one is zeros.
use Rattle.std.specs.Prelude.{◌≡◌, refl, Bool, true, false, cond, List, ℕ, zero, suc, ◌-◌, ◌≤◌, ◌<◌, leb, ltb, eqb}
use Rattle.std.proofs.Common.{ap, zero-le, le_trans, mul-le-mul, div-le_self, arith, leb-true, le-leb}
use Rattle.model.specs.declared.kinds.FlowSet.{FlowSet}
use Rattle.model.specs.Sums.{all_to, sum_to}
use Rattle.model.specs.Refusals.{good}
use Rattle.model.specs.Sets.{flow_at, list_to}
use Rattle.document.specs.Text.{same}
use Rattle.document.specs.Reader.{record_fault}
use Rattle.document.specs.Delay.{ways, period, deadline, work_at, whole_packets, share, whole_share, conflict_share, over_others, bound_with, basic_bound, value_at, Greatest, deadlines, round_to, rounds_in, most_rounds, reached, tight_bound, admits, verdict_if, verdict_of, bounds_if, bounds_fault, bounds_of}
use Rattle.laws.specs.SumLaws.{sum_le, sum_const, and_l, and_r, and_i}
use Rattle.laws.specs.Accepted.{Accepted, accepted, work_small}
use Rattle.laws.specs.Values.{sums_le}
use Rattle.laws.specs.Rounds.{accepted_fits, Ends, reached_ends, reached_rounds_le}
use Rattle.laws.specs.Largest.{reached_greatest, tight_is_value, tight_le_basic, negative, difference_sign}

-- the rounds of a set that is not refused: what they reach is the greatest list, and their number is that of the rounds to there
pub greatest_reached : (s : FlowSet) → good (record_fault s).refusal ≡ true → Greatest s (reached s).list
greatest_reached s e = reached_greatest s (accepted_fits s (accepted s e))

pub rounds_counted : (s : FlowSet) → good (record_fault s).refusal ≡ true → Ends s (deadlines s) (verdict_of s).rounds (reached s).list
unfolding verdict_of
rounds_counted s e =
    let v : verdict_of s ≡ verdict_if s true = ap (verdict_if s) e in
    rw v (reached_ends s (accepted_fits s (accepted s e)))

-- never above 1 + Σ(D − C)
pub rounds_le : (s : FlowSet) → (verdict_of s).rounds ≤ most_rounds s
unfolding verdict_of
rounds_le s = go (good (record_fault s).refusal)
  where
    go : (b : Bool) → (verdict_if s b).rounds ≤ most_rounds s
    go true = reached_rounds_le s
    go false = zero-le

-- the tightened bound is the equation's value at the greatest list
pub tightened_at_greatest : (s : FlowSet) → good (record_fault s).refusal ≡ true → (v : List ℕ) → Greatest s v → (k : ℕ) → tight_bound s k ≡ value_at s v k
tightened_at_greatest s e v g k = tight_is_value s (accepted_fits s (accepted s e)) v g k

-- never above the basic one
pub bounds_le : (s : FlowSet) (k : ℕ) → (bounds_of s k).tightened ≤ (bounds_of s k).basic
unfolding bounds_of
bounds_le s k = go (good (bounds_fault s k).refusal)
  where
    go : (b : Bool) → (bounds_if s k b).tightened ≤ (bounds_if s k b).basic
    go true = tight_le_basic s k
    go false = zero-le

-- the margin is negative exactly for a flow over its deadline
pub margin_sign : (s : FlowSet) (k : ℕ) → negative (bounds_of s k).margin ≡ ltb (bounds_of s k).deadline.0 (bounds_of s k).tightened
unfolding bounds_of
margin_sign s k = go (good (bounds_fault s k).refusal)
  where
    go : (b : Bool) → negative (bounds_if s k b).margin ≡ ltb (bounds_if s k b).deadline.0 (bounds_if s k b).tightened
    go true = difference_sign (deadline s k) (tight_bound s k)
    go false = refl

-- a test that admits with these bounds admits with smaller ones
pub admits_le : (s : FlowSet) (f g : ℕ → ℕ) → ((k : ℕ) → g k ≤ f k) → admits s f ≡ true → admits s g ≡ true
unfolding admits all_to
admits_le s f g h = go s.count
  where
    go : (n : ℕ) → all_to (λ k. leb (f k) (deadline s k)) n ≡ true → all_to (λ k. leb (g k) (deadline s k)) n ≡ true
    go zero e = refl
    go (suc n) e =
        let a = go n (and_l (all_to (λ k. leb (f k) (deadline s k)) n) _ e) in
        let b = leb-true (f n) (deadline s n) (and_r (all_to (λ k. leb (f k) (deadline s k)) n) _ e) in
        and_i _ _ a (le-leb (g n) (deadline s n) (le_trans (h n) b))

-- so what the basic test admits the tightened one does
pub basic_then_tightened : (s : FlowSet) → (verdict_of s).basic ≡ true → (verdict_of s).tightened ≡ true
unfolding verdict_of
basic_then_tightened s = go (good (record_fault s).refusal)
  where
    go : (b : Bool) → (verdict_if s b).basic ≡ true → (verdict_if s b).tightened ≡ true
    go true e = admits_le s (basic_bound s) (tight_bound s) (tight_le_basic s) e
    go false e = e

-- with no flows both tests admit, after one round that changes nothing
pub no_flows_admit : (s : FlowSet) → s.count ≡ 0 → good (record_fault s).refusal ≡ true
    → ((verdict_of s).basic ≡ true) × ((verdict_of s).tightened ≡ true) × ((verdict_of s).rounds ≡ 1)
unfolding verdict_of admits all_to reached rounds_in deadlines list_to sum_to round_to same
no_flows_admit s e g =
    let v : verdict_of s ≡ verdict_if s true = ap (verdict_if s) g in
    rw (v, e) (refl, refl, refl)

-- no sum passes 32 bits: with 16-bit deadlines each bound of an accepted set is at most 268,435,520
pub work_le_most : (s : FlowSet) → Accepted s → (k : ℕ) → k < s.count → work_at s k ≤ 64
work_le_most s a k h = work_small (flow_at s k) (a.flow k h)

share_le_most : (s : FlowSet) → Accepted s → (k l : ℕ) → l < s.count → deadline s k ≤ 65535 → (y : ℕ → ℕ) → whole_share s y k l ≤ 4194304
unfolding share
share_le_most s a k l i d y =
    let m = work_le_most s a l i in
    let q : whole_packets s k l ≤ 65535 = le_trans (div-le_self (deadline s k) (period s l)) d in
    omega (arith, mul-le-mul q m)

sum_le_most : (s : FlowSet) → Accepted s → (k : ℕ) → deadline s k ≤ 65535 → (y : ℕ → ℕ) → over_others s k (whole_share s y k) ≤ 268435456
unfolding over_others
sum_le_most s a k d y =
    let n = a.count_le in
    let each : (l : ℕ) → l < s.count → cond (eqb l k) 0 (whole_share s y k l) ≤ 4194304 =
    λ l i. pick (eqb l k) (whole_share s y k l) (share_le_most s a k l i d y) in
    let t = sum_le (λ l. cond (eqb l k) 0 (whole_share s y k l)) (λ l. 4194304) s.count each in
    omega (arith, sum_const 4194304 s.count)
  where
    pick : (b : Bool) (x : ℕ) → x ≤ 4194304 → cond b 0 x ≤ 4194304
    pick true x i = zero-le
    pick false x i = i

pub bound_le_most : (s : FlowSet) → Accepted s → (k : ℕ) → k < s.count → deadline s k ≤ 65535 → (y : ℕ → ℕ) → bound_with s y k ≤ 268435520
unfolding bound_with
bound_le_most s a k h d y =
    let x = sums_le s y k in
    let c = work_le_most s a k h in
    let w = sum_le_most s a k d y in
    omega (arith, div-le_self (over_others s k (whole_share s y k) - over_others s k (conflict_share s y k)) (ways s))
