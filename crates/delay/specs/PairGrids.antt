-- Grids of numbers, one for each pair of flows: row k, column l, in rows of as many columns as a set may have flows. Rows of one number for each flow.
-- Both are filled place by place: what is written is there, and what was there before stays.
use Rattle.std.specs.Prelude.{◌≡◌, refl, cond, ◌⊎◌, ◌≢◌, List, ℕ, ◌+◌, ◌*◌, ◌≤◌, ◌<◌, zero, suc, eqb, length, get_or, set, replicate}
use Rattle.std.proofs.Common.{◌∙◌, inl, inr, length-set, arith, get_or-set_same, get_or-set_other}
use Rattle.std.proofs.lemmas.List.{length-replicate}
use Rattle.model.specs.declared.kinds.FlowSet.{FlowSet}
use Rattle.delay.specs.declared.conflicts.Columns.{Columns}
use Rattle.delay.specs.declared.conflicts.Columns.TheVariants.{All, Below}
use Rattle.model.specs.Limits.{most_flows}
use Rattle.model.specs.Sets.{flow_at}
use Rattle.document.specs.Delay.{conflict_work}
use Rattle.std.proofs.Math.Decide.{dec_le, ℕ_discrete}

-- row k, column l
abbrev pub pair_at : List ℕ → ℕ → ℕ → ℕ
pair_at t k l = get_or t (k * most_flows + l) 0

-- nothing of a flow itself
abbrev pub of_other : ℕ → ℕ → ℕ → ℕ
of_other k l x = cond (eqb l k) 0 x

-- S of a pair
abbrev pub conflict_of : FlowSet → ℕ → ℕ → ℕ
conflict_of s k l = conflict_work (flow_at s k) (flow_at s l)

-- the rows before k hold f, row i as far as column c i; all else is 0
pub record RowsBy (f : ℕ → ℕ → ℕ) (c : ℕ → ℕ) (k : ℕ) (t : List ℕ) : Type 0 where
  pub whole : length t ≡ most_flows * most_flows
  pub row : (i l : ℕ) → i < k → l < c i → pair_at t i l ≡ f i l
  pub none : (i l : ℕ) → l < most_flows → (k ≤ i) ⊎ (c i ≤ l) → pair_at t i l ≡ 0

-- every row as far as column n
abbrev pub RowsTo : (ℕ → ℕ → ℕ) → ℕ → ℕ → List ℕ → Type 0
RowsTo f n k t = RowsBy f (λ i. n) k t

-- row i as far as column i: the flows below i, and i itself
abbrev pub RowsBelow : (ℕ → ℕ → ℕ) → ℕ → List ℕ → Type 0
RowsBelow f k t = RowsBy f (λ i. i + 1) k t

-- how many columns of row i are filled: all n, or those of the flows up to i alone
abbrev pub columns_of : Columns → ℕ → ℕ → ℕ
columns_of All n i = n
columns_of Below n i = i + 1

-- u is t with f in row k, as far as column n; all else is as it was
pub record RowDone (f : ℕ → ℕ) (n k : ℕ) (t u : List ℕ) : Type 0 where
  pub whole : length u ≡ most_flows * most_flows
  pub row : (l : ℕ) → l < n → pair_at u k l ≡ f l
  pub kept : (i l : ℕ) → l < most_flows → (i ≢ k) ⊎ (n ≤ l) → pair_at u i l ≡ pair_at t i l

-- the first k entries are f; all else is 0
pub record FilledTo (f : ℕ → ℕ) (k : ℕ) (t : List ℕ) : Type 0 where
  pub whole : length t ≡ most_flows
  pub entry : (i : ℕ) → i < k → get_or t i 0 ≡ f i
  pub none : (i : ℕ) → k ≤ i → get_or t i 0 ≡ 0

-- every pair of the set's flows
abbrev pub GridOf : (FlowSet → ℕ → ℕ → ℕ) → FlowSet → List ℕ → Type 0
GridOf f s t = RowsTo (f s) s.count s.count t

-- every flow of the set
abbrev pub ListOf : (FlowSet → ℕ → ℕ) → FlowSet → List ℕ → Type 0
ListOf f s t = FilledTo (f s) s.count t

pub zeros : (n i : ℕ) → get_or {A = ℕ} (replicate n 0) i 0 ≡ 0
zeros zero i = refl
zeros (suc n) zero = refl
zeros (suc n) (suc i) = zeros n i

pub row_start : (f : ℕ → ℕ) (k : ℕ) (t : List ℕ) → length t ≡ most_flows * most_flows → RowDone f 0 k t t
row_start f k t h = record { whole = h; row = λ l i. absurd (omega arith); kept = λ i l j o. refl }

lt_or_eq : (l n : ℕ) → l < n + 1 → (l ≡ n → ⊥) → l < n
lt_or_eq l n i q =
    elim (dec_le n l) [
      | yes h ↦ absurd (q (omega arith))
      | no h ↦ omega arith
    ]

pub row_next : (f : ℕ → ℕ) (n k : ℕ) (t u : List ℕ) (x : ℕ) → k < most_flows → n < most_flows → RowDone f n k t u → x ≡ f n
    → RowDone f (n + 1) k t (set u (k * most_flows + n) x)
row_next f n k t u x hk hn d e =
    let w = d.whole in
    let at = k * most_flows + n in
    let b : at < length u = omega arith in
    record {
      whole = length-set u at x ∙ w;
      row = λ l i. elim (ℕ_discrete l n) [
        | yes q ↦ rw q (get_or-set_same u at x 0 b ∙ e)
        | no q ↦ get_or-set_other u at (k * most_flows + l) x 0 (λ z. q (omega arith)) ∙ d.row l (lt_or_eq l n i q)
      ];
      kept = λ i l j o. get_or-set_other u at (i * most_flows + l) x 0 (apart i l j o) ∙ d.kept i l j (fewer i l o);
    }
  where
    apart : (i l : ℕ) → l < most_flows → (i ≢ k) ⊎ (n + 1 ≤ l) → i * most_flows + l ≢ k * most_flows + n
    apart i l j (inl q) = λ z. q (omega arith)
    apart i l j (inr q) = λ z. omega arith

    fewer : (i l : ℕ) → (i ≢ k) ⊎ (n + 1 ≤ l) → (i ≢ k) ⊎ (n ≤ l)
    fewer i l (inl q) = inl q
    fewer i l (inr q) = inr (omega arith)

pub rows_start : (f : ℕ → ℕ → ℕ) (c : ℕ → ℕ) → RowsBy f c 0 (replicate (most_flows * most_flows) 0)
rows_start f c =
    record {
      whole = length-replicate {A = ℕ} (most_flows * most_flows) 0;
      row = λ i l j m. absurd (omega arith);
      none = λ i l j o. zeros (most_flows * most_flows) (i * most_flows + l);
    }

pub rows_next : (f : ℕ → ℕ → ℕ) (c : ℕ → ℕ) (k : ℕ) (t u : List ℕ) → ((i : ℕ) → i < k → c i ≤ most_flows) → RowsBy f c k t
    → RowDone (f k) (c k) k t u → RowsBy f c (k + 1) u
rows_next f c k t u h r d =
    record {
      whole = d.whole;
      row = λ i l j m. elim (dec_le k i) [
        | yes q ↦ let e : i ≡ k = omega arith in rw e (d.row l (rw e at m))
        | no q ↦ d.kept i l (omega (arith, h i (omega arith))) (inl (λ z. omega arith)) ∙ r.row i l (omega arith) m
      ];
      none = λ i l j o. d.kept i l j (away i l o) ∙ r.none i l j (fewer i l o);
    }
  where
    away : (i l : ℕ) → (k + 1 ≤ i) ⊎ (c i ≤ l) → (i ≢ k) ⊎ (c k ≤ l)
    away i l (inl q) = inl (λ z. omega arith)
    away i l (inr q) =
        elim (ℕ_discrete i k) [
          | yes e ↦ inr (rw e at q)
          | no e ↦ inl e
        ]

    fewer : (i l : ℕ) → (k + 1 ≤ i) ⊎ (c i ≤ l) → (k ≤ i) ⊎ (c i ≤ l)
    fewer i l (inl q) = inl (omega arith)
    fewer i l (inr q) = inr q

-- a flow's row has its own column, and no more columns than there are flows
pub columns_own : (c : Columns) (n i : ℕ) → i < n → i < columns_of c n i
columns_own All n i h = h
columns_own Below n i h = omega arith

pub columns_le : (c : Columns) (n i : ℕ) → i < n → columns_of c n i ≤ n
columns_le All n i h = omega arith
columns_le Below n i h = omega arith

-- rows of another function that is the same there
pub rows_ext : (f g : ℕ → ℕ → ℕ) (c : ℕ → ℕ) (k : ℕ) (t : List ℕ) → ((i l : ℕ) → i < k → l < c i → f i l ≡ g i l) → RowsBy f c k t → RowsBy g c k t
rows_ext f g c k t e r = record { whole = r.whole; row = λ i l j m. r.row i l j m ∙ e i l j m; none = r.none }

pub filled_start : (f : ℕ → ℕ) → FilledTo f 0 (replicate most_flows 0)
filled_start f = record { whole = length-replicate {A = ℕ} most_flows 0; entry = λ i l. absurd (omega arith); none = λ i l. zeros most_flows i }

pub filled_next : (f : ℕ → ℕ) (k : ℕ) (t : List ℕ) (x : ℕ) → k < most_flows → FilledTo f k t → x ≡ f k → FilledTo f (k + 1) (set t k x)
filled_next f k t x h r e =
    let w = r.whole in
    record {
      whole = length-set t k x ∙ w;
      entry = λ i l. elim (dec_le k i) [
        | yes q ↦ let z : i ≡ k = omega arith in rw z (get_or-set_same t k x 0 (omega arith) ∙ e)
        | no q ↦ get_or-set_other t k i x 0 (λ z. omega arith) ∙ r.entry i (omega arith)
      ];
      none = λ i l. get_or-set_other t k i x 0 (λ z. omega arith) ∙ r.none i (omega arith);
    }
