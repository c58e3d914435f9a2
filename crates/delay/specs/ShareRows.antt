-- T, D and C of the flows; q and r of a deadline and the periods; r, Σ q·S and Σ q·C of a flow, with nothing of the flow itself.
use Rattle.std.specs.Prelude.{◌≡◌, refl, List, ℕ, ◌/◌, ◌%◌, ◌≤◌, ◌<◌, ◌*◌, ◌+◌, length, set, replicate, Bool, cond, ◌⊎◌, ◌≢◌}
use Rattle.std.proofs.Common.{◌∙◌, sym, length-set, arith, get_or-set_same, get_or-set_other, inl, inr, eq-eqb, ne_eqb}
use Rattle.std.proofs.Math.Path.{ap}
use Rattle.std.proofs.Math.ListN.{get_or}
use Rattle.model.specs.declared.kinds.FlowSet.{FlowSet}
use Rattle.delay.specs.declared.shares.FlowNumbers.{FlowNumbers}
use Rattle.delay.specs.declared.shares.Sums.{Sums}
use Rattle.model.specs.Limits.{most_flows}
use Rattle.document.specs.Delay.{period, deadline, work_at}
use Rattle.delay.specs.PairGrids.{RowDone, FilledTo, pair_at, of_other, RowsTo, row_start, row_next, filled_start, filled_next}
use Rattle.model.specs.Sums.{sum_to}
use Rattle.std.proofs.Math.Decide.{dec_le, ℕ_discrete}
use Rattle.std.proofs.Math.Nat.{zero-mul}
use Rattle.laws.specs.SumLaws.{sum_ext, sum_cut}

-- T, D and C of the first k flows
pub record FlowNumbersTo (s : FlowSet) (k : ℕ) (p : FlowNumbers) : Type 0 where
  pub periods : FilledTo (period s) k p.period
  pub deadlines : FilledTo (deadline s) k p.deadline
  pub works : FilledTo (work_at s) k p.work
  pub deadlines_le : (i : ℕ) → i < k → deadline s i ≤ 65535

-- q and r of a deadline d and the first n periods, those of r in row k
pub record Divided (k n d : ℕ) (p q u t v : List ℕ) : Type 0 where
  pub whole : length u ≡ most_flows
  pub quotients : (l : ℕ) → l < n → get_or u l 0 ≡ d / get_or p l 0
  pub kept : (l : ℕ) → n ≤ l → get_or u l 0 ≡ get_or q l 0
  pub remainders : RowDone (λ l. d % get_or p l 0) n k t v

-- a list of numbers that is 0 from place n on
pub record ZeroFrom (n : ℕ) (q : List ℕ) : Type 0 where
  pub whole : length q ≡ most_flows
  pub none : (l : ℕ) → n ≤ l → get_or q l 0 ≡ 0

-- r of flow k and the others
abbrev pub remainder_row : FlowNumbers → ℕ → ℕ → ℕ
remainder_row p k l = of_other k l (get_or p.deadline k 0 % get_or p.period l 0)

-- no period and no deadline of the first n flows is 0
abbrev pub Positive : ℕ → FlowNumbers → Type 0
Positive n p = (l : ℕ) → l < n → (0 < get_or p.period l 0) × (0 < get_or p.deadline l 0)

-- the sum of q·f over the others
unfoldable pub packet_sum : FlowNumbers → ℕ → ℕ → (ℕ → ℕ) → ℕ
packet_sum p n k f = sum_to (λ l. of_other k l (get_or p.deadline k 0 / get_or p.period l 0) * f l) n

-- S and C are at most 64
pub record SmallWork (c w : List ℕ) (k : ℕ) : Type 0 where
  pub conflicts : (l : ℕ) → l < most_flows → pair_at c k l ≤ 64
  pub works : (l : ℕ) → l < most_flows → get_or w l 0 ≤ 64

-- so it is in every row
abbrev pub SmallWorks : List ℕ → List ℕ → Type 0
SmallWorks c w = (k : ℕ) → SmallWork c w k

-- the sums of no flow
abbrev pub no_sums : Sums
no_sums = record { conflict = 0; work = 0 }

-- Σ q·S and Σ q·C of flow i among n
pub record SumsOf (n : ℕ) (p : FlowNumbers) (c : List ℕ) (i : ℕ) (x : Sums) : Type 0 where
  pub conflict : x.conflict ≡ packet_sum p n i (λ l. pair_at c i l)
  pub work : x.work ≡ packet_sum p n i (λ l. get_or p.work l 0)
  pub work_le : x.work ≤ 268431360

-- r, Σ q·S and Σ q·C of the first k flows; the other sums are 0
pub record SharesTo (n k : ℕ) (p : FlowNumbers) (c t : List ℕ) (x : List Sums) : Type 0 where
  pub remainders : RowsTo (remainder_row p) n k t
  pub whole : length x ≡ most_flows
  pub sums : (i : ℕ) → i < k → SumsOf n p c i (get_or x i no_sums)
  pub none : (i : ℕ) → k ≤ i → get_or x i no_sums ≡ no_sums

-- the numbers of no flows
abbrev pub blank_numbers : FlowNumbers
blank_numbers = record { period = replicate most_flows 0; deadline = replicate most_flows 0; work = replicate most_flows 0 }

-- the numbers of one flow more
pub flow_numbers_start : (s : FlowSet) → FlowNumbersTo s 0 blank_numbers
flow_numbers_start s = record { periods = filled_start _; deadlines = filled_start _; works = filled_start _; deadlines_le = λ i l. absurd (omega arith) }

pub flow_numbers_next : (s : FlowSet) (k : ℕ) (p : FlowNumbers) (x y z : ℕ) → k < most_flows → FlowNumbersTo s k p
    → x ≡ period s k → y ≡ deadline s k → y ≤ 65535 → z ≡ work_at s k
    → FlowNumbersTo s (k + 1) record { period = set p.period k x; deadline = set p.deadline k y; work = set p.work k z }
flow_numbers_next s k p x y z h o e f b g =
    record {
      periods = filled_next _ k p.period x h o.periods e;
      deadlines = filled_next _ k p.deadline y h o.deadlines f;
      works = filled_next _ k p.work z h o.works g;
      deadlines_le = λ i j. elim (dec_le k i) [
        | yes q ↦ let a : i ≡ k = omega arith in rw (a, ← f) b
        | no q ↦ o.deadlines_le i (omega arith)
      ];
    }

-- one period more
pub divided_start : (k d : ℕ) (p q t : List ℕ) → length q ≡ most_flows → length t ≡ most_flows * most_flows → Divided k 0 d p q q t t
divided_start k d p q t h i = record { whole = h; quotients = λ l j. absurd (omega arith); kept = λ l j. refl; remainders = row_start _ k t i }

pub divided_next : (k n d : ℕ) (p q u t v : List ℕ) (x y : ℕ) → k < most_flows → n < most_flows → Divided k n d p q u t v
    → x ≡ d / get_or p n 0 → y ≡ d % get_or p n 0 → Divided k (n + 1) d p q (set u n x) t (set v (k * most_flows + n) y)
divided_next k n d p q u t v x y hk hn o e f =
    let w = o.whole in
    record {
      whole = length-set u n x ∙ w;
      quotients = λ l j. elim (dec_le n l) [
        | yes g ↦ let z : l ≡ n = omega arith in rw z (get_or-set_same u n x 0 (omega arith) ∙ e)
        | no g ↦ get_or-set_other u n l x 0 (λ z. omega arith) ∙ o.quotients l (omega arith)
      ];
      kept = λ l j. get_or-set_other u n l x 0 (λ z. omega arith) ∙ o.kept l (omega arith);
      remainders = row_next _ n k t v y hk hn o.remainders f;
    }

-- nothing of the flow itself
own : (k l x y : ℕ) → (l ≡ k → y ≡ 0) → ((l ≡ k → ⊥) → y ≡ x) → y ≡ of_other k l x
own k l x y a b =
    elim (ℕ_discrete l k) [
      | yes e ↦ a e ∙ sym (ap (λ (c : Bool). cond c 0 x) (eq-eqb l k e))
      | no n ↦ b n ∙ sym (ap (λ (c : Bool). cond c 0 x) (ne_eqb l k n))
    ]

module _ (k n : ℕ) (p : FlowNumbers) (q u t v : List ℕ) (hk : k < n) (hn : n ≤ most_flows) (o : Divided k n (get_or p.deadline k 0) p.period q u t v) where
  abbrev d : ℕ
  d = get_or p.deadline k 0

  abbrev qs : List ℕ
  qs = set u k 0

  pub own_zero_from : ZeroFrom n q → ZeroFrom n qs
  own_zero_from s =
      record { whole = length-set u k 0 ∙ o.whole; none = λ l h. get_or-set_other u k l 0 0 (λ z. omega arith) ∙ o.kept l h ∙ s.none l h }

  own_quotient : (l : ℕ) → l < n → get_or qs l 0 ≡ of_other k l (d / get_or p.period l 0)
  own_quotient l h =
      let w = o.whole in
      own k l (d / get_or p.period l 0) (get_or qs l 0) (λ e. rw e (get_or-set_same u k 0 0 (omega arith)))
      (λ a. get_or-set_other u k l 0 0 a ∙ o.quotients l h)

  pub own_row : RowDone (remainder_row p k) n k t (set v (k * most_flows + k) 0)
  own_row =
      let r = o.remainders in
      let w = r.whole in
      let at = k * most_flows + k in
      record {
        whole = length-set v at 0 ∙ w;
        row = λ l h. own k l (d % get_or p.period l 0) (pair_at (set v at 0) k l) (λ e. rw e (get_or-set_same v at 0 0 (omega arith)))
            (λ a. get_or-set_other v at (k * most_flows + l) 0 0 (λ z. a (omega arith)) ∙ r.row l h);
        kept = λ i l h b. get_or-set_other v at (i * most_flows + l) 0 0 (apart i l h b) ∙ r.kept i l h b;
      }
    where
      apart : (i l : ℕ) → l < most_flows → (i ≢ k) ⊎ (n ≤ l) → i * most_flows + l ≢ k * most_flows + k
      apart i l h (inl a) = λ z. a (omega arith)
      apart i l h (inr a) = λ z. omega arith

  pub own_whole : ZeroFrom n q → (f : ℕ → ℕ) → sum_to (λ l. get_or qs l 0 * f l) most_flows ≡ packet_sum p n k f
  unfolding packet_sum
  own_whole s f =
      sum_cut (λ l. get_or qs l 0 * f l) n most_flows hn (λ l a b. ap (λ (x : ℕ). x * f l) ((own_zero_from s).none l a) ∙ zero-mul (f l))
      ∙ sum_ext (λ l. get_or qs l 0 * f l) (λ l. of_other k l (d / get_or p.period l 0) * f l) n (λ l h. ap (λ (x : ℕ). x * f l) (own_quotient l h))
