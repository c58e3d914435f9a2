-- The equation's value grows with the list, and at the list of deadlines it is the basic bound. A conflict share is at most the whole
-- share, and what is left of it grows with r too: so both sums and their difference grow, and the one division keeps that.
use Rattle.std.specs.Prelude.{◌≡◌, refl, Bool, true, false, cond, List, [], ◌∷◌, ℕ, zero, suc, ◌+◌, ◌-◌, ◌/◌, ◌≤◌, ◌<◌, min, eqb, length, get_or}
use Rattle.std.proofs.Common.{ap, ap₂, ◌∙◌, zero-le, le_trans, mul-le-mul_left, div-mul-le_self, le-div_iff_mul-le, arith, length-append}
use Rattle.std.proofs.Math.Nat.{div-zero}
use Rattle.std.proofs.Math.Decide.{dec_le}
use Rattle.std.proofs.Math.ListN.{get_or-append}
use Rattle.std.proofs.lemmas.List.{get_or_at}
use Rattle.model.specs.declared.kinds.Flow.{Flow}
use Rattle.model.specs.declared.kinds.FlowSet.{FlowSet}
use Rattle.model.specs.Sets.{flow_at, list_to, links, work}
use Rattle.document.specs.Delay.{ways, deadline, work_at, touches, conflict_work, share, whole_share, conflict_share, over_others, joined, bound_with, remainder, basic_bound, tightened, value_at, deadlines}
use Rattle.laws.specs.SumLaws.{sum_le, sum_ext, sum_add, bits_le}

-- S is at most C
pub conflict_le_work : (k l : Flow) → conflict_work k l ≤ work l
unfolding conflict_work
conflict_le_work k l = omega (arith, mul-le-mul_left l.tries (bits_le (touches k l) (links l)))

-- a share that grows with r, and with what a packet counts
pub share_le : (q w x y : ℕ) → x ≤ y → share q w x ≤ share q w y
unfolding share
share_le q w x y h = omega arith

pub share_le_whole : (q v w y : ℕ) → v ≤ w → share q v y ≤ share q w y
unfolding share
share_le_whole q v w y h = omega (arith, mul-le-mul_left q h)

-- what the whole share has beyond the conflict share grows with r
pub rest_le : (q v w x y : ℕ) → v ≤ w → x ≤ y → share q w x - share q v x ≤ share q w y - share q v y
unfolding share
rest_le q v w x y h l =
    let p = mul-le-mul_left q h in
    let a : min w x + min v y ≤ min w y + min v x = omega arith in
    omega arith

-- division keeps the order
pub div_le : (a b m : ℕ) → a ≤ b → a / m ≤ b / m
div_le a b zero h = rw (div-zero a) zero-le
div_le a b (suc m) h =
    let p : 0 < suc m = omega arith in
    (le-div_iff_mul-le {k = suc m} {x = a / suc m} {y = b} p).1 (le_trans (div-mul-le_self a (suc m)) h)

-- the bound grows with ΣX and with ΣW − ΣX
pub joined_le : (c x w y z m : ℕ) → x ≤ y → w - x ≤ z - y → joined c x w m ≤ joined c y z m
joined_le c x w y z m h l = omega (arith, div_le (w - x) (z - y) m l)

-- the term of flow l, none for k itself
abbrev other : ℕ → (ℕ → ℕ) → ℕ → ℕ
other k f l = cond (eqb l k) 0 (f l)

-- sums over the others
pub others_le : (s : FlowSet) (k : ℕ) (f g : ℕ → ℕ) → ((l : ℕ) → l < s.count → f l ≤ g l) → over_others s k f ≤ over_others s k g
unfolding over_others
others_le s k f g h = sum_le (other k f) (other k g) s.count (λ l i. pick (eqb l k) (f l) (g l) (h l i))
  where
    pick : (b : Bool) (x y : ℕ) → x ≤ y → cond b 0 x ≤ cond b 0 y
    pick true x y i = zero-le
    pick false x y i = i

pub others_ext : (s : FlowSet) (k : ℕ) (f g : ℕ → ℕ) → ((l : ℕ) → l < s.count → f l ≡ g l) → over_others s k f ≡ over_others s k g
unfolding over_others
others_ext s k f g h = sum_ext (other k f) (other k g) s.count (λ l i. ap (λ (x : ℕ). cond (eqb l k) 0 x) (h l i))

pub others_add : (s : FlowSet) (k : ℕ) (f g : ℕ → ℕ) → over_others s k (λ l. f l + g l) ≡ over_others s k f + over_others s k g
unfolding over_others
others_add s k f g =
    sum_ext (other k (λ l. f l + g l)) (λ l. other k f l + other k g l) s.count (λ l i. pick (eqb l k) (f l) (g l))
    ∙ sum_add (other k f) (other k g) s.count
  where
    pick : (b : Bool) (x y : ℕ) → cond b 0 (x + y) ≡ cond b 0 x + cond b 0 y
    pick true x y = refl
    pick false x y = refl

-- X ≤ W, flow by flow and in sum
pub conflict_le_whole : (s : FlowSet) (y : ℕ → ℕ) (k l : ℕ) → conflict_share s y k l ≤ whole_share s y k l
conflict_le_whole s y k l = share_le_whole _ _ _ (y l) (conflict_le_work (flow_at s k) (flow_at s l))

pub sums_le : (s : FlowSet) (y : ℕ → ℕ) (k : ℕ) → over_others s k (conflict_share s y k) ≤ over_others s k (whole_share s y k)
sums_le s y k = others_le s k (conflict_share s y k) (whole_share s y k) (λ l i. conflict_le_whole s y k l)

-- ΣW − ΣX is the sum of the differences
pub sums_rest : (s : FlowSet) (y : ℕ → ℕ) (k : ℕ)
    → over_others s k (whole_share s y k) - over_others s k (conflict_share s y k) ≡ over_others s k (λ l. whole_share s y k l - conflict_share s y k l)
sums_rest s y k =
    let d : ℕ → ℕ = λ l. whole_share s y k l - conflict_share s y k l in
    let e = others_ext s k (whole_share s y k) (λ l. conflict_share s y k l + d l) (λ l i. omega (arith, conflict_le_whole s y k l)) in
    omega (arith, others_add s k (conflict_share s y k) d)

-- what stands for r may grow, and the bound grows
pub bound_le : (s : FlowSet) (y z : ℕ → ℕ) (k : ℕ) → ((l : ℕ) → l < s.count → y l ≤ z l) → bound_with s y k ≤ bound_with s z k
unfolding bound_with
bound_le s y z k h =
    let a = others_le s k (conflict_share s y k) (conflict_share s z k) (λ l i. share_le _ _ (y l) (z l) (h l i)) in
    let b = others_le s k (λ l. whole_share s y k l - conflict_share s y k l) (λ l. whole_share s z k l - conflict_share s z k l)
    (λ l i. rest_le _ _ _ (y l) (z l) (conflict_le_work (flow_at s k) (flow_at s l)) (h l i)) in
    joined_le _ _ _ _ _ (ways s) a (omega (arith, sums_rest s y k, sums_rest s z k))

pub bound_ext : (s : FlowSet) (y z : ℕ → ℕ) (k : ℕ) → ((l : ℕ) → l < s.count → y l ≡ z l) → bound_with s y k ≡ bound_with s z k
unfolding bound_with
bound_ext s y z k h =
    ap₂ (λ (x w : ℕ). joined (work_at s k) x w (ways s))
    (others_ext s k (conflict_share s y k) (conflict_share s z k) (λ l i. ap (λ (t : ℕ). conflict_share s (λ j. t) k l) (h l i)))
    (others_ext s k (whole_share s y k) (whole_share s z k) (λ l i. ap (λ (t : ℕ). whole_share s (λ j. t) k l) (h l i)))

-- a bound is at least C
pub bound_ge_work : (s : FlowSet) (y : ℕ → ℕ) (k : ℕ) → work_at s k ≤ bound_with s y k
unfolding bound_with
bound_ge_work s y k = omega arith

-- the value grows with the list
pub value_le : (s : FlowSet) (u v : List ℕ) (k : ℕ) → ((l : ℕ) → l < s.count → get_or u l 0 ≤ get_or v l 0) → value_at s u k ≤ value_at s v k
unfolding value_at
value_le s u v k h = bound_le s (tightened s u k) (tightened s v k) k (λ l i. let a = h l i in omega arith)

-- and depends on the entries of the flows alone
pub value_ext : (s : FlowSet) (u v : List ℕ) (k : ℕ) → ((l : ℕ) → l < s.count → get_or u l 0 ≡ get_or v l 0) → value_at s u k ≡ value_at s v k
unfolding value_at
value_ext s u v k h = bound_ext s (tightened s u k) (tightened s v k) k (λ l i. ap (λ (x : ℕ). remainder s k l - (deadline s l - x)) (h l i))

pub value_ge_work : (s : FlowSet) (v : List ℕ) (k : ℕ) → work_at s k ≤ value_at s v k
unfolding value_at
value_ge_work s v k = bound_ge_work s (tightened s v k) k

-- no list gives more than the basic bound
pub value_le_basic : (s : FlowSet) (v : List ℕ) (k : ℕ) → value_at s v k ≤ basic_bound s k
unfolding value_at basic_bound
value_le_basic s v k = bound_le s (tightened s v k) (remainder s k) k (λ l i. omega arith)

-- the lists that are given by their entries
pub list_length : (f : ℕ → ℕ) (n : ℕ) → length (list_to f n) ≡ n
unfolding list_to
list_length f zero = refl
list_length f (suc n) = omega (arith, length-append (list_to f n) (f n ∷ []), list_length f n)

pub list_entry : (f : ℕ → ℕ) (n i : ℕ) → i < n → get_or (list_to f n) i 0 ≡ f i
unfolding list_to
list_entry f zero i h = absurd (omega arith)
list_entry f (suc n) i h =
    let e = list_length f n in
    elim (dec_le n i) [
      | yes k ↦ let q : i ≡ n = omega arith in rw q (get_or_at (list_to f n) (f n) [] 0 n e)
      | no k ↦ get_or-append (list_to f n) (f n ∷ []) 0 i (omega arith) ∙ list_entry f n i (omega arith)
    ]

-- D, entry by entry
pub deadlines_length : (s : FlowSet) → length (deadlines s) ≡ s.count
unfolding deadlines
deadlines_length s = list_length (deadline s) s.count

pub deadlines_entry : (s : FlowSet) (k : ℕ) → k < s.count → get_or (deadlines s) k 0 ≡ deadline s k
unfolding deadlines
deadlines_entry s k h = list_entry (deadline s) s.count k h

-- the value at v = D is the basic bound
pub value_at_deadlines : (s : FlowSet) (k : ℕ) → value_at s (deadlines s) k ≡ basic_bound s k
unfolding value_at basic_bound
value_at_deadlines s k = bound_ext s (tightened s (deadlines s) k) (remainder s k) k (λ l i. let e = deadlines_entry s l i in omega arith)
