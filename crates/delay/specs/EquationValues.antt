-- The equation's value as the tables give it: what no round changes is looked up, and min(S, r − (D − v)) and min(C, r − (D − v)) are added.
-- Entry l of the slack g is D − v of flow l. Beyond the last flow, and for a flow itself, r is 0, so the sums can go over all places.
-- What the tables give is what the definitions say: a share is q·w, which no round changes, and min(w, ·), which a list adds up.
use Rattle.std.specs.Prelude.{List, ℕ, ◌+◌, ◌-◌, ◌≤◌, ◌<◌, min, ◌*◌, set, replicate, ◌≡◌, refl, Bool, true, false, cond, eqb}
use Rattle.std.proofs.Math.ListN.{get_or}
use Rattle.model.specs.Limits.{most_flows}
use Rattle.model.specs.Sums.{sum_to}
use Rattle.document.specs.Delay.{joined, ways, deadline, work_at, whole_packets, remainder, share, whole_share, conflict_share, over_others, bound_with, tightened, value_at}
use Rattle.delay.specs.PairGrids.{pair_at, of_other, conflict_of, FilledTo, filled_start, filled_next}
use Rattle.delay.specs.DelayTables.{remainder_of, TablesHold}
use Rattle.delay.specs.ShareRows.{SmallWork, no_sums}
use Rattle.delay.specs.declared.tables.Tables.{Tables}
use Rattle.std.proofs.Math.Path.{sym, ap, ap₂}
use Rattle.std.proofs.Common.{◌∙◌, inr, le_trans, le_of_eq, mul-le-mul_left, arith}
use Rattle.std.proofs.Math.Decide.{dec_le}
use Rattle.model.specs.declared.kinds.FlowSet.{FlowSet}
use Rattle.model.specs.Sets.{flow_at}
use Rattle.laws.specs.SumLaws.{sum_ext, sum_add, sum_cut}
use Rattle.laws.specs.Values.{sums_le, others_le, bound_ext, conflict_le_work}

-- r − (D − v)
abbrev pub remainder_less : List ℕ → List ℕ → ℕ → ℕ → ℕ
remainder_less r g k l = pair_at r k l - get_or g l 0

-- what is added to Σ q·S and to Σ q·C
unfoldable pub conflict_remainders : List ℕ → List ℕ → List ℕ → ℕ → ℕ
conflict_remainders c r g k = sum_to (λ l. min (pair_at c k l) (remainder_less r g k l)) most_flows

unfoldable pub work_remainders : List ℕ → List ℕ → List ℕ → ℕ → ℕ
work_remainders w r g k = sum_to (λ l. min (get_or w l 0) (remainder_less r g k l)) most_flows

-- ΣX and ΣW
abbrev pub conflict_sum : Tables → List ℕ → ℕ → ℕ
conflict_sum t g k = (get_or t.whole k no_sums).conflict + conflict_remainders t.conflict t.remainder g k

abbrev pub work_sum : Tables → List ℕ → ℕ → ℕ
work_sum t g k = (get_or t.whole k no_sums).work + work_remainders t.numbers.work t.remainder g k

-- the equation's value
unfoldable pub table_value : Tables → ℕ → List ℕ → ℕ → ℕ
table_value t m g k = joined (get_or t.numbers.work k 0) (conflict_sum t g k) (work_sum t g k) m

-- ΣX is no more than ΣW, and no sum is too large for its number of bits
pub record SumsFit (t : Tables) (g : List ℕ) (k : ℕ) : Type 0 where
  pub sums : conflict_sum t g k ≤ work_sum t g k
  pub conflict_small : (get_or t.whole k no_sums).conflict ≤ 268431360
  pub work_small : (get_or t.whole k no_sums).work ≤ 268431360
  pub small : SmallWork t.conflict t.numbers.work k

-- so it is for the first n flows at every list
abbrev pub SumsFitTo : Tables → ℕ → Type 0
SumsFitTo t n = (g : List ℕ) (k : ℕ) → k < n → SumsFit t g k

-- a share in its two parts, none for a flow itself
share_parts : (b : Bool) (q w r c : ℕ) → cond b 0 (share q w (r - c)) ≡ cond b 0 (q * w) + min w (cond b 0 r - c)
unfolding share
share_parts true q w r c = omega arith
share_parts false q w r c = refl

-- and their sums
sum_parts : (s : FlowSet) (k : ℕ) (q w r c : ℕ → ℕ)
    → over_others s k (λ l. share (q l) (w l) (r l - c l)) ≡ over_others s k (λ l. q l * w l) + sum_to (λ l. min (w l) (of_other k l (r l) - c l)) s.count
unfolding over_others
sum_parts s k q w r c =
    sum_ext (λ l. of_other k l (share (q l) (w l) (r l - c l))) (λ l. of_other k l (q l * w l) + min (w l) (of_other k l (r l) - c l)) s.count
    (λ l h. share_parts (eqb l k) (q l) (w l) (r l) (c l))
    ∙ sum_add (λ l. of_other k l (q l * w l)) (λ l. min (w l) (of_other k l (r l) - c l)) s.count

-- r of a flow and what a list takes off it
abbrev cut_of : FlowSet → List ℕ → ℕ → ℕ → ℕ
cut_of s g k l = remainder s k l - get_or g l 0

module _ (s : FlowSet) (n : s.count ≤ most_flows) (t : Tables) (o : TablesHold s t) (g : List ℕ) (k : ℕ) (h : k < s.count) where
  -- the sums over all places are those over the flows
  row_carried : (f w : ℕ → ℕ) → ((l : ℕ) → l < s.count → f l ≡ w l)
      → sum_to (λ l. min (f l) (remainder_less t.remainder g k l)) most_flows ≡ sum_to (λ l. min (w l) (remainder_of s k l - get_or g l 0)) s.count
  row_carried f w e =
      sum_cut (λ l. min (f l) (remainder_less t.remainder g k l)) s.count most_flows n (λ l a b. let z = o.remainders.none k l b (inr a) in omega arith)
      ∙ sum_ext (λ l. min (f l) (remainder_less t.remainder g k l)) (λ l. min (w l) (remainder_of s k l - get_or g l 0)) s.count
      (λ l i. ap₂ (λ (x r : ℕ). min x (r - get_or g l 0)) (e l i) (o.remainders.row k l h i))

  conflict_carried : conflict_sum t g k ≡ over_others s k (conflict_share s (cut_of s g k) k)
  unfolding conflict_remainders
  conflict_carried =
      ap₂ (λ (x y : ℕ). x + y) (o.wholes k h).conflict (row_carried (λ l. pair_at t.conflict k l) (conflict_of s k) (λ l i. o.conflicts.row k l h i))
      ∙ sym (sum_parts s k (whole_packets s k) (conflict_of s k) (remainder s k) (λ l. get_or g l 0))

  work_carried : work_sum t g k ≡ over_others s k (whole_share s (cut_of s g k) k)
  unfolding work_remainders
  work_carried =
      ap₂ (λ (x y : ℕ). x + y) (o.wholes k h).work (row_carried (λ l. get_or t.numbers.work l 0) (work_at s) (λ l i. o.numbers.works.entry l i))
      ∙ sym (sum_parts s k (whole_packets s k) (work_at s) (remainder s k) (λ l. get_or g l 0))

  -- the equation's value at a list whose distances from D are g
  pub value_carried : (v : List ℕ) → ((l : ℕ) → l < s.count → get_or g l 0 ≡ deadline s l - get_or v l 0) → table_value t (ways s) g k ≡ value_at s v k
  unfolding table_value value_at bound_with
  value_carried v e =
      ap (λ (c : ℕ). joined c (conflict_sum t g k) (work_sum t g k) (ways s)) (o.numbers.works.entry k h)
      ∙ ap₂ (λ (x w : ℕ). joined (work_at s k) x w (ways s)) conflict_carried work_carried
      ∙ bound_ext s (cut_of s g k) (tightened s v k) k (λ l i. ap (λ (x : ℕ). remainder s k l - x) (e l i))

  -- what the value's sums need
  pub sums_fit_at : SumsFit t g k
  sums_fit_at =
      let z = o.wholes k h in
      let b = others_le s k (λ l. whole_packets s k l * conflict_of s k l) (λ l. whole_packets s k l * work_at s l) (λ l i. whole_le l) in
      record {
        sums = le_trans (le_of_eq conflict_carried) (le_trans (sums_le s (cut_of s g k) k) (le_of_eq (sym work_carried)));
        conflict_small = le_trans (le_of_eq z.conflict) (le_trans b (le_trans (le_of_eq (sym z.work)) z.work_le));
        work_small = z.work_le;
        small = record {
          conflicts = λ l i. elim (dec_le s.count l) [
            | yes q ↦ let e = o.conflicts.none k l i (inr q) in omega arith
            | no q ↦
                let j : l < s.count = omega arith in
                le_trans (le_of_eq (o.conflicts.row k l h j)) (le_trans (conflict_le_work (flow_at s k) (flow_at s l)) (o.works_le l j))
          ];
          works = λ l i. elim (dec_le s.count l) [
            | yes q ↦ let e = o.numbers.works.none l q in omega arith
            | no q ↦ let j : l < s.count = omega arith in le_trans (le_of_eq (o.numbers.works.entry l j)) (o.works_le l j)
          ];
        };
      }
    where
      whole_le : (l : ℕ) → whole_packets s k l * conflict_of s k l ≤ whole_packets s k l * work_at s l
      whole_le l = mul-le-mul_left (whole_packets s k l) (conflict_le_work (flow_at s k) (flow_at s l))

pub sums_fit_carried : (s : FlowSet) → s.count ≤ most_flows → (t : Tables) → TablesHold s t → SumsFitTo t s.count
sums_fit_carried s n t o g k h = sums_fit_at s n t o g k h

-- the first k entries are f, and none is too large for a signed number
pub record ValuesTo (f : ℕ → ℕ) (k : ℕ) (x : List ℕ) : Type 0 where
  pub entries : FilledTo f k x
  pub small : (i : ℕ) → i < k → f i ≤ 272691135

pub values_start : (f : ℕ → ℕ) → ValuesTo f 0 (replicate most_flows 0)
values_start f = record { entries = filled_start f; small = λ i h. absurd (omega arith) }

pub values_next : (f : ℕ → ℕ) (k : ℕ) (t : List ℕ) (x : ℕ) → k < most_flows → ValuesTo f k t → x ≡ f k → x ≤ 272691135 → ValuesTo f (k + 1) (set t k x)
values_next f k t x h o e l =
    record {
      entries = filled_next f k t x h o.entries e;
      small = λ i j. elim (dec_le k i) [
        | yes q ↦ let z : i ≡ k = omega arith in rw (z, ← e) l
        | no q ↦ o.small i (omega arith)
      ];
    }
