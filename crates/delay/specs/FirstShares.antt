-- The sums of n·S and n·C over the flows that go first, from the flows' numbers; the bound that they give is the definition's.
use Rattle.std.specs.Prelude.{◌≡◌, List, ℕ, ◌+◌, ◌-◌, ◌*◌, ◌≤◌, ◌<◌}
use Rattle.std.proofs.Common.{sym, ap, ◌∙◌, le_trans, le_of_eq, mul-le-mul_left, arith}
use Rattle.std.proofs.Math.Path.{ap₂}
use Rattle.std.proofs.Math.ListN.{get_or}
use Rattle.model.specs.declared.kinds.FlowSet.{FlowSet}
use Rattle.model.specs.Sets.{flow_at}
use Rattle.model.specs.Sums.{sum_to}
use Rattle.document.specs.Delay.{ways, deadline, work_at, joined}
use Rattle.document.specs.Fixed.{rounded_up, packets_first, conflict_first, whole_first, bound_after}
use Rattle.laws.specs.{Accepted.{Accepted}, FixedBounds.{rounded_le}, SumLaws.{sum_ext, sum_zero, sum_next}}
use Rattle.laws.specs.{TestAnswers.{work_le_most}, Values.{conflict_le_work}}
use Rattle.delay.specs.PairGrids.{RowsBelow, conflict_of, pair_at}
use Rattle.delay.specs.ShareRows.{FlowNumbersTo}
use Rattle.delay.specs.declared.shares.FlowNumbers.{FlowNumbers}

-- n of flows k and l, by T, D and the bounds
abbrev pub packets_by : FlowNumbers → List ℕ → ℕ → ℕ → ℕ
packets_by p bs k l = rounded_up (get_or p.deadline k 0 + get_or bs l 0 - 1) (get_or p.period l 0)

-- the sum of n·f over the first j flows, f l being S or C
abbrev pub first_sum : FlowNumbers → List ℕ → ℕ → (ℕ → ℕ) → ℕ → ℕ
first_sum p bs k f j = sum_to (λ l. packets_by p bs k l * f l) j

-- the bound of k by the numbers
abbrev pub column_bound : FlowNumbers → List ℕ → List ℕ → ℕ → ℕ → ℕ
column_bound p c bs m k =
    joined (get_or p.work k 0) (first_sum p bs k (λ l. pair_at c k l) k) (first_sum p bs k (λ l. get_or p.work l 0) k) m

-- why n·C is small: of each flow below k, T is positive and no smaller than C, C is at most 64 and no smaller than S, and the bound fits 16 bits,
-- as D of k does
pub record SmallFirst (p : FlowNumbers) (c bs : List ℕ) (k : ℕ) : Type 0 where
  pub deadline_pos : 0 < get_or p.deadline k 0
  pub deadline_le : get_or p.deadline k 0 ≤ 65535
  pub period_pos : (l : ℕ) → l < k → 0 < get_or p.period l 0
  pub work_le_period : (l : ℕ) → l < k → get_or p.work l 0 ≤ get_or p.period l 0
  pub work_le : (l : ℕ) → l < k → get_or p.work l 0 ≤ 64
  pub conflict_le : (l : ℕ) → l < k → pair_at c k l ≤ get_or p.work l 0
  pub bound_le : (l : ℕ) → l < k → get_or bs l 0 ≤ 65535

-- both sums over the first j flows, and how large they are
pub record FirstSumsTo (p : FlowNumbers) (c bs : List ℕ) (k j x y : ℕ) : Type 0 where
  pub conflict : x ≡ first_sum p bs k (λ l. pair_at c k l) j
  pub whole : y ≡ first_sum p bs k (λ l. get_or p.work l 0) j
  pub conflict_le : x ≤ y
  pub whole_le : y ≤ 131134 * j

pub first_sums_start : (p : FlowNumbers) (c bs : List ℕ) (k : ℕ) → FirstSumsTo p c bs k 0 0 0
first_sums_start p c bs k =
    record {
      conflict = sym (sum_zero _ 0 (λ l h. omega arith));
      whole = sym (sum_zero _ 0 (λ l h. omega arith));
      conflict_le = omega arith;
      whole_le = omega arith;
    }

-- one flow more
module _ (p : FlowNumbers) (c bs : List ℕ) (k l : ℕ) (o : SmallFirst p c bs k) (h : l < k) (n : ℕ) (e : n ≡ packets_by p bs k l) where
  pub share_small : n * get_or p.work l 0 ≤ 131134
  share_small =
      let a = get_or p.deadline k 0 + get_or bs l 0 - 1 in
      let r = rounded_le a (get_or p.period l 0) (get_or p.work l 0) (o.period_pos l h) (o.work_le_period l h) in
      let i : n * get_or p.work l 0 ≤ a + get_or p.work l 0 = le_trans (le_of_eq (ap (λ (i : ℕ). i * get_or p.work l 0) e)) r in
      omega (arith, o.deadline_le, o.bound_le l h, o.work_le l h)

  pub conflict_small : n * pair_at c k l ≤ n * get_or p.work l 0
  conflict_small = mul-le-mul_left n (o.conflict_le l h)

  pub first_sums_next : (x y a b : ℕ) → FirstSumsTo p c bs k l x y → a ≡ n * pair_at c k l → b ≡ n * get_or p.work l 0
      → FirstSumsTo p c bs k (l + 1) (x + a) (y + b)
  first_sums_next x y a b s f q =
      record {
        conflict = ap₂ (λ (i j : ℕ). i + j) s.conflict (f ∙ ap (λ (i : ℕ). i * pair_at c k l) e) ∙ sym (sum_next _ l);
        whole = ap₂ (λ (i j : ℕ). i + j) s.whole (q ∙ ap (λ (i : ℕ). i * get_or p.work l 0) e) ∙ sym (sum_next _ l);
        conflict_le = omega (arith, s.conflict_le, conflict_small);
        whole_le = omega (arith, s.whole_le, share_small);
      }

-- the numbers of a set's flows, and the bounds of the flows below k, all kept
module _ (s : FlowSet) (a : Accepted s) (p : FlowNumbers) (c bs : List ℕ) (o : FlowNumbersTo s s.count p) (g : RowsBelow (conflict_of s) s.count c) (k : ℕ) (h : k < s.count) where
  -- the definition's bound
  pub column_bound_law : (m : ℕ) → m ≡ ways s → column_bound p c bs m k ≡ bound_after s bs k
  unfolding bound_after
  column_bound_law m e =
      ap₂ (λ (x y : ℕ). joined x (first_sum p bs k (λ l. pair_at c k l) k) (first_sum p bs k (λ l. get_or p.work l 0) k) y) (o.works.entry k h) e
      ∙ ap₂ (λ (x y : ℕ). joined (work_at s k) x y (ways s))
      (sum_ext _ (conflict_first s bs k) k (λ l i. ap₂ (λ (x y : ℕ). x * y) (packets l i) (g.row k l h (omega arith))))
      (sum_ext _ (whole_first s bs k) k (λ l i. ap₂ (λ (x y : ℕ). x * y) (packets l i) (o.works.entry l (omega arith))))
    where
      packets : (l : ℕ) → l < k → packets_by p bs k l ≡ packets_first s bs k l
      packets l i =
          ap₂ (λ (x y : ℕ). rounded_up (x + get_or bs l 0 - 1) y) (o.deadlines.entry k h) (o.periods.entry l (omega arith))

  -- and its shares are small
  pub small_first : ((l : ℕ) → l < k → get_or bs l 0 ≤ deadline s l) → SmallFirst p c bs k
  small_first keep =
      record {
        deadline_pos = let e = o.deadlines.entry k h in omega (arith, (a.flow k h).deadline_pos);
        deadline_le = let e = o.deadlines.entry k h in omega (arith, o.deadlines_le k h);
        period_pos = λ l i. let e = o.periods.entry l (omega arith) in omega (arith, (a.flow l (omega arith)).period_pos);
        work_le_period = λ l i.
            let j : l < s.count = omega arith in
            let f = a.flow l j in
            let e = o.works.entry l j in
            let z = o.periods.entry l j in
            omega (arith, f.work_le, f.deadline_le);
        work_le = λ l i. let j : l < s.count = omega arith in le_trans (le_of_eq (o.works.entry l j)) (work_le_most s a l j);
        conflict_le = λ l i.
            let j : l < s.count = omega arith in
            let e = o.works.entry l j in
            let z = g.row k l h (omega arith) in
            omega (arith, conflict_le_work (flow_at s k) (flow_at s l));
        bound_le = λ l i. le_trans (keep l i) (o.deadlines_le l (omega arith));
      }
