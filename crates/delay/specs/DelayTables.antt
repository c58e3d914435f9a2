-- What the tables of a set hold: of each pair of flows what no round changes, of each flow T, D, C and the sums of q·S and q·C. The tables
-- that are made row by row are the set's.
use Rattle.std.specs.Prelude.{◌≡◌, refl, ℕ, ◌*◌, ◌≤◌, ◌<◌, ◌+◌, ◌/◌, ◌%◌, List, zero, suc, replicate, set, Bool, true, false, cond, eqb}
use Rattle.std.proofs.Common.{◌∙◌, inl, inr, le_trans, le_of_eq, length-set, get_or-set_same, get_or-set_other, zero-mul, arith}
use Rattle.std.proofs.Math.Path.{ap₂}
use Rattle.std.proofs.Math.ListN.{get_or}
use Rattle.std.proofs.lemmas.List.{length-replicate}
use Rattle.model.specs.Limits.{most_flows}
use Rattle.model.specs.declared.kinds.FlowSet.{FlowSet}
use Rattle.delay.specs.declared.shares.FlowNumbers.{FlowNumbers}
use Rattle.delay.specs.declared.shares.Sums.{Sums}
use Rattle.delay.specs.declared.tables.Tables.{Tables}
use Rattle.document.specs.Delay.{work_at, whole_packets, remainder, over_others}
use Rattle.delay.specs.PairGrids.{of_other, conflict_of, GridOf, pair_at, RowsTo, RowDone, zeros, rows_start, rows_next}
use Rattle.std.proofs.Math.Decide.{dec_le}
use Rattle.model.specs.Sets.{flow_at}
use Rattle.laws.specs.{Accepted.{Accepted}, TestAnswers.{work_le_most}}
use Rattle.laws.specs.SumLaws.{sum_ext}
use Rattle.laws.specs.Values.{conflict_le_work}
use Rattle.delay.specs.ShareRows.{FlowNumbersTo, Positive, ZeroFrom, blank_numbers, no_sums, remainder_row, packet_sum, SmallWork, SumsOf, SharesTo}

-- as they are lent
abbrev pub blank_tables : Tables
blank_tables =
    record {
      numbers = blank_numbers;
      conflict = replicate (most_flows * most_flows) 0;
      remainder = replicate (most_flows * most_flows) 0;
      whole = replicate most_flows no_sums;
    }

-- r of a pair
abbrev pub remainder_of : FlowSet → ℕ → ℕ → ℕ
remainder_of s k l = of_other k l (remainder s k l)

-- Σ q·S and Σ q·C
abbrev pub whole_conflict_of : FlowSet → ℕ → ℕ
whole_conflict_of s k = over_others s k (λ l. whole_packets s k l * conflict_of s k l)

abbrev pub whole_work_of : FlowSet → ℕ → ℕ
whole_work_of s k = over_others s k (λ l. whole_packets s k l * work_at s l)

-- Σ q·S and Σ q·C of a flow
pub record WholeOf (s : FlowSet) (k : ℕ) (x : Sums) : Type 0 where
  pub conflict : x.conflict ≡ whole_conflict_of s k
  pub work : x.work ≡ whole_work_of s k
  pub work_le : x.work ≤ 268431360

-- the tables of a set, and how large their numbers can be
pub record TablesHold (s : FlowSet) (t : Tables) : Type 0 where
  pub numbers : FlowNumbersTo s s.count t.numbers
  pub conflicts : GridOf conflict_of s t.conflict
  pub remainders : GridOf remainder_of s t.remainder
  pub wholes : (k : ℕ) → k < s.count → WholeOf s k (get_or t.whole k no_sums)
  pub none : (k : ℕ) → s.count ≤ k → get_or t.whole k no_sums ≡ no_sums
  pub works_le : (k : ℕ) → k < s.count → work_at s k ≤ 64

pub zero_from_start : (n : ℕ) → ZeroFrom n (replicate most_flows 0)
zero_from_start n = record { whole = length-replicate {A = ℕ} most_flows 0; none = λ l h. zeros most_flows l }

no_sums_yet : (n i : ℕ) → get_or (replicate n no_sums) i no_sums ≡ no_sums
no_sums_yet zero i = refl
no_sums_yet (suc n) zero = refl
no_sums_yet (suc n) (suc i) = no_sums_yet n i

-- one row more
pub shares_start : (n : ℕ) (p : FlowNumbers) (c : List ℕ) → SharesTo n 0 p c (replicate (most_flows * most_flows) 0) (replicate most_flows no_sums)
shares_start n p c =
    record {
      remainders = rows_start _ (λ i. n);
      whole = length-replicate {A = Sums} most_flows no_sums;
      sums = λ i h. absurd (omega arith);
      none = λ i h. no_sums_yet most_flows i;
    }

pub shares_next : (n k : ℕ) (p : FlowNumbers) (c t u : List ℕ) (x : List Sums) (y : Sums) → k < n → n ≤ most_flows → SharesTo n k p c t x
    → RowDone (remainder_row p k) n k t u → SumsOf n p c k y → SharesTo n (k + 1) p c u (set x k y)
shares_next n k p c t u x y hk hn o r a =
    let w = o.whole in
    record {
      remainders = rows_next _ (λ i. n) k t u (λ i j. hn) o.remainders r;
      whole = length-set x k y ∙ w;
      sums = λ i j. elim (dec_le k i) [
        | yes q ↦ let z : i ≡ k = omega arith in rw (z, get_or-set_same x k y no_sums (omega arith)) a
        | no q ↦ rw (get_or-set_other x k i y no_sums (λ z. omega arith)) (o.sums i (omega arith))
      ];
      none = λ i j. get_or-set_other x k i y no_sums (λ z. omega arith) ∙ o.none i (omega arith);
    }

-- the tables as they are lent
module _ (t : Tables) (e : t ≡ blank_tables) where
  pub conflicts_lent : (f : ℕ → ℕ → ℕ) (n : ℕ) → RowsTo f n 0 t.conflict
  conflicts_lent f n = rw e (rows_start f (λ i. n))

  pub shares_lent : (n : ℕ) (p : FlowNumbers) (c : List ℕ) → SharesTo n 0 p c t.remainder t.whole
  shares_lent n p c = rw e (shares_start n p c)

-- the tables are the set's
other_mul : (b : Bool) (x y : ℕ) → cond b 0 x * y ≡ cond b 0 (x * y)
other_mul true x y = zero-mul y
other_mul false x y = refl

module _ (s : FlowSet) (a : Accepted s) (p : FlowNumbers) (o : FlowNumbersTo s s.count p)
    (c : List ℕ) (g : RowsTo (conflict_of s) s.count s.count c) where
  -- C, and with it S, is at most 64
  pub small_rows : (k : ℕ) → SmallWork c p.work k
  small_rows k =
      record {
        conflicts = λ l h. elim (dec_le s.count l) [
          | yes q ↦ let e = g.none k l h (inr q) in omega arith
          | no q ↦ elim (dec_le s.count k) [
            | yes r ↦ let e = g.none k l h (inl r) in omega arith
            | no r ↦
                let e = g.row k l (omega arith) (omega arith) in
                le_trans (le_of_eq e) (le_trans (conflict_le_work (flow_at s k) (flow_at s l)) (work_le_most s a l (omega arith)))
          ]
        ];
        works = λ l h. elim (dec_le s.count l) [
          | yes q ↦ let e = o.works.none l q in omega arith
          | no q ↦ le_trans (le_of_eq (o.works.entry l (omega arith))) (work_le_most s a l (omega arith))
        ];
      }

  pub rows_pos : Positive s.count p
  rows_pos l h =
      let f = a.flow l h in
      let x = f.period_pos in
      let y = f.deadline_pos in
      let e = o.periods.entry l h in
      let i = o.deadlines.entry l h in
      (omega arith, omega arith)

  whole_carried : (k : ℕ) → k < s.count → (f h : ℕ → ℕ) → ((l : ℕ) → l < s.count → f l ≡ h l)
      → packet_sum p s.count k f ≡ over_others s k (λ l. whole_packets s k l * h l)
  unfolding packet_sum over_others
  whole_carried k i f h e =
      sum_ext (λ l. of_other k l (get_or p.deadline k 0 / get_or p.period l 0) * f l) (λ l. of_other k l (whole_packets s k l * h l)) s.count
      (λ l j. ap₂ (λ (x y : ℕ). of_other k l x * y) (ap₂ (λ (x y : ℕ). x / y) (o.deadlines.entry k i) (o.periods.entry l j)) (e l j)
      ∙ other_mul (eqb l k) (whole_packets s k l) (h l))

  pub tables_hold : (t : List ℕ) (x : List Sums) → SharesTo s.count s.count p c t x
      → TablesHold s record { numbers = p; conflict = c; remainder = t; whole = x }
  tables_hold t x r =
      record {
        numbers = o;
        conflicts = g;
        remainders = record {
          whole = r.remainders.whole;
          row = λ i l h j. r.remainders.row i l h j ∙ ap₂ (λ (x y : ℕ). of_other i l (x % y)) (o.deadlines.entry i h) (o.periods.entry l j);
          none = r.remainders.none;
        };
        wholes = λ k h. let z = r.sums k h in record {
          conflict = z.conflict ∙ whole_carried k h (λ l. pair_at c k l) (conflict_of s k) (λ l j. g.row k l h j);
          work = z.work ∙ whole_carried k h (λ l. get_or p.work l 0) (work_at s) (λ l j. o.works.entry l j);
          work_le = z.work_le;
        };
        none = r.none;
        works_le = work_le_most s a;
      }
