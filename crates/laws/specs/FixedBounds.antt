-- Request 4's test: the list of bounds grows at its end and changes nowhere else, so every bound is given by the list itself; the flows that are
-- judged are the first ones; and no bound of an accepted set passes 8,400,000.
use Rattle.std.specs.Prelude.{◌≡◌, refl, Bool, true, false, not, cond, List, [], ◌∷◌, ℕ, zero, suc, ◌+◌, ◌-◌, ◌*◌, ◌≤◌, ◌<◌, ltb, length, get_or}
use Rattle.std.proofs.Common.{sym, ap, ap₂, ◌∙◌, le_refl, le_trans, le_of_eq, mul-le-mul_left, div-mul-le_self, add-one, arith, ltb-false, lt-ltb, le-ltb, length-append}
use Rattle.std.proofs.Math.Nat.{div-le_self}
use Rattle.std.proofs.Math.Decide.{dec_le}
use Rattle.std.proofs.lemmas.Bool.{not-true, not-false}
use Rattle.std.proofs.Math.ListN.{get_or-append, get_or-eq_default}
use Rattle.std.proofs.lemmas.List.{get_or_at}
use Rattle.model.specs.declared.kinds.FlowSet.{FlowSet}
use Rattle.model.specs.Sums.{bit, sum_to}
use Rattle.model.specs.Sets.{flow_at}
use Rattle.document.specs.Delay.{ways, period, deadline, work_at, conflict_work, joined}
use Rattle.document.specs.Fixed.{rounded_up, packets_first, whole_first, conflict_first, bound_after, some_over, judge_next, fixed_to, fixed_list, fixed_bound, judged}
use Rattle.laws.specs.SumLaws.{sum_le, sum_ext, sum_const, sum_more, sum_cut, bit_le, bits_le, any_zero, any_next, any_ext, any_in, any_find, any_none}
use Rattle.laws.specs.Accepted.{Accepted}
use Rattle.laws.specs.Values.{conflict_le_work}
use Rattle.laws.specs.TestAnswers.{work_le_most}

-- how many flows are judged
abbrev pub judged_count : FlowSet → ℕ
judged_count s = sum_to (λ k. bit (judged s k)) s.count

-- of a list of bounds only the entries below k matter to k
pub over_ext : (s : FlowSet) (a b : List ℕ) (k : ℕ) → ((l : ℕ) → l < k → get_or a l 0 ≡ get_or b l 0) → some_over s a k ≡ some_over s b k
unfolding some_over
over_ext s a b k e =
    any_ext (λ l. ltb (deadline s l) (get_or a l 0)) (λ l. ltb (deadline s l) (get_or b l 0)) k (λ l i. ap (λ (x : ℕ). ltb (deadline s l) x) (e l i))

packets_ext : (s : FlowSet) (a b : List ℕ) (k l : ℕ) → get_or a l 0 ≡ get_or b l 0 → packets_first s a k l ≡ packets_first s b k l
packets_ext s a b k l e = ap (λ (x : ℕ). rounded_up (deadline s k + x - 1) (period s l)) e

pub after_ext : (s : FlowSet) (a b : List ℕ) (k : ℕ) → ((l : ℕ) → l < k → get_or a l 0 ≡ get_or b l 0) → bound_after s a k ≡ bound_after s b k
unfolding bound_after
after_ext s a b k e =
    ap₂ (λ (x w : ℕ). joined (work_at s k) x w (ways s))
    (sum_ext (conflict_first s a k) (conflict_first s b k) k
    (λ l i. ap (λ (n : ℕ). n * conflict_work (flow_at s k) (flow_at s l)) (packets_ext s a b k l (e l i))))
    (sum_ext (whole_first s a k) (whole_first s b k) k (λ l i. ap (λ (n : ℕ). n * work_at s l) (packets_ext s a b k l (e l i))))

-- the list grows by one entry at its end
pub fixed_length : (s : FlowSet) (n : ℕ) → length (fixed_to s n) ≡ n
unfolding fixed_to judge_next
fixed_length s zero = refl
fixed_length s (suc n) =
    omega (arith, length-append (fixed_to s n) (cond (some_over s (fixed_to s n) n) 0 (bound_after s (fixed_to s n) n) ∷ []), fixed_length s n)

fixed_last : (s : FlowSet) (n : ℕ) → get_or (fixed_to s (suc n)) n 0 ≡ cond (some_over s (fixed_to s n) n) 0 (bound_after s (fixed_to s n) n)
unfolding fixed_to judge_next
fixed_last s n = get_or_at (fixed_to s n) (cond (some_over s (fixed_to s n) n) 0 (bound_after s (fixed_to s n) n)) [] 0 n (fixed_length s n)

fixed_stays : (s : FlowSet) (n k : ℕ) → k < n → get_or (fixed_to s (suc n)) k 0 ≡ get_or (fixed_to s n) k 0
unfolding fixed_to judge_next
fixed_stays s n k h =
    let e = fixed_length s n in
    get_or-append (fixed_to s n) (cond (some_over s (fixed_to s n) n) 0 (bound_after s (fixed_to s n) n) ∷ []) 0 k (omega arith)

-- so the entries that it has stay
pub fixed_more : (s : FlowSet) (m n k : ℕ) → n ≤ m → k < n → get_or (fixed_to s m) k 0 ≡ get_or (fixed_to s n) k 0
fixed_more s zero n k l h = absurd (omega arith)
fixed_more s (suc m) n k l h =
    elim (dec_le n m) [
      | yes i ↦ fixed_stays s m k (omega arith) ∙ fixed_more s m n k i h
      | no i ↦ let e : suc m ≡ n = omega arith in ap (λ (j : ℕ). get_or (fixed_to s j) k 0) e
    ]

-- and each is given by the whole list
pub fixed_entry : (s : FlowSet) (k : ℕ) → k < s.count → fixed_bound s k ≡ cond (some_over s (fixed_list s) k) 0 (bound_after s (fixed_list s) k)
unfolding fixed_bound
fixed_entry s k h =
    let same : (l : ℕ) → l < k → get_or (fixed_to s k) l 0 ≡ get_or (fixed_list s) l 0 = λ l i. sym (fixed_more s s.count k l (omega arith) i) in
    fixed_more s s.count (suc k) k h (le_refl (suc k)) ∙ fixed_last s k
    ∙ ap₂ (λ (b : Bool) (x : ℕ). cond b 0 x) (over_ext s (fixed_to s k) (fixed_list s) k same) (after_ext s (fixed_to s k) (fixed_list s) k same)

-- the bound of a flow that is judged, of one that is not, and of none
pub judged_bound : (s : FlowSet) (k : ℕ) → k < s.count → judged s k ≡ true → fixed_bound s k ≡ bound_after s (fixed_list s) k
unfolding judged
judged_bound s k h e = fixed_entry s k h ∙ ap (λ (b : Bool). cond b 0 (bound_after s (fixed_list s) k)) (not-true (some_over s (fixed_list s) k) e)

pub unjudged_bound : (s : FlowSet) (k : ℕ) → k < s.count → judged s k ≡ false → fixed_bound s k ≡ 0
unfolding judged
unjudged_bound s k h e = fixed_entry s k h ∙ ap (λ (b : Bool). cond b 0 (bound_after s (fixed_list s) k)) (not-false (some_over s (fixed_list s) k) e)

pub none_bound : (s : FlowSet) (k : ℕ) → s.count ≤ k → fixed_bound s k ≡ 0
unfolding fixed_bound
none_bound s k h = get_or-eq_default (fixed_list s) 0 (le_trans (le_of_eq (fixed_length s s.count)) h)

-- a flow is judged where every flow below it keeps its deadline
pub all_keep : (s : FlowSet) (k : ℕ) → judged s k ≡ true → (l : ℕ) → l < k → fixed_bound s l ≤ deadline s l
unfolding judged some_over fixed_bound
all_keep s k e l h =
    ltb-false (deadline s l) (fixed_bound s l)
    (any_none (λ j. ltb (deadline s j) (get_or (fixed_list s) j 0)) k (not-true (some_over s (fixed_list s) k) e) l h)

-- the first is judged, and the next after one that is and keeps its own
pub judged_first : (s : FlowSet) → judged s 0 ≡ true
unfolding judged some_over
judged_first s = ap not (any_zero (λ l. ltb (deadline s l) (get_or (fixed_list s) l 0)))

pub judged_next : (s : FlowSet) (k : ℕ) → judged s k ≡ true → fixed_bound s k ≤ deadline s k → judged s (k + 1) ≡ true
unfolding judged some_over fixed_bound
judged_next s k e h =
    ap not
    (any_next (λ l. ltb (deadline s l) (get_or (fixed_list s) l 0)) k (not-true (some_over s (fixed_list s) k) e)
    (le-ltb (deadline s k) (fixed_bound s k) h))

pub in_time_judged : (s : FlowSet) (k : ℕ) → ((l : ℕ) → l < k → fixed_bound s l ≤ deadline s l) → judged s k ≡ true
in_time_judged s zero h = judged_first s
in_time_judged s (suc k) h =
    rw (add-one k) at (judged_next s k (in_time_judged s k (λ l i. h l (omega arith))) (h k (le_refl (suc k))))

-- none is judged above one over its deadline
pub judged_ends : (s : FlowSet) (k j : ℕ) → deadline s k < fixed_bound s k → k < j → judged s j ≡ false
unfolding judged some_over fixed_bound
judged_ends s k j h i =
    ap not (any_in (λ l. ltb (deadline s l) (get_or (fixed_list s) l 0)) j k i (lt-ltb (deadline s k) (fixed_bound s k) h))

-- a flow over its deadline is one for every flow above it, so where one flow is judged those below it are
pub over_more : (s : FlowSet) (bs : List ℕ) (i j : ℕ) → i ≤ j → some_over s bs i ≡ true → some_over s bs j ≡ true
unfolding some_over
over_more s bs i j h e =
    let over : ℕ → Bool = λ l. ltb (deadline s l) (get_or bs l 0) in
    let w = any_find over i e in
    any_in over j w.0 (omega arith) w.2

pub judged_below : (s : FlowSet) (i j : ℕ) → i ≤ j → judged s j ≡ true → judged s i ≡ true
unfolding judged
judged_below s i j h e = go (some_over s (fixed_list s) i) refl
  where
    go : (b : Bool) → some_over s (fixed_list s) i ≡ b → not b ≡ true
    go false p = refl
    go true p = sym (ap not (over_more s (fixed_list s) i j h p)) ∙ e

-- numbers that pass are the first ones: how many there are says which
first_ones : (p : ℕ → Bool) → ((i j : ℕ) → i ≤ j → p j ≡ true → p i ≡ true) → (n k : ℕ) → k < n → p k ≡ ltb k (sum_to (λ i. bit (p i)) n)
first_ones p d n k h = go (p k) refl
  where
    go : (b : Bool) → p k ≡ b → b ≡ ltb k (sum_to (λ i. bit (p i)) n)
    go true e =
        let a = sum_le (λ i. 1) (λ i. bit (p i)) (suc k) (λ i l. bit_le true (p i) (λ u. d i k (omega arith) e)) in
        sym (lt-ltb k (sum_to (λ i. bit (p i)) n) (omega (arith, sum_const 1 (suc k), sum_more (λ i. bit (p i)) (suc k) n h)))
    go false e =
        let none : (i : ℕ) → k ≤ i → i < n → bit (p i) ≡ 0 = λ i l u. ap bit (fails i l (p i) refl) in
        sym (le-ltb k (sum_to (λ i. bit (p i)) n) (omega (arith, sum_cut (λ i. bit (p i)) k n (omega arith) none, bits_le p k)))
      where
        fails : (i : ℕ) → k ≤ i → (b : Bool) → p i ≡ b → b ≡ false
        fails i l false q = refl
        fails i l true q = sym (d k i l q) ∙ e

pub judged_by_count : (s : FlowSet) (k : ℕ) → k < s.count → judged s k ≡ ltb k (judged_count s)
judged_by_count s k h = first_ones (judged s) (judged_below s) s.count k h

-- the first j flows are judged and no others: they are j
pub judged_count_law : (s : FlowSet) (j : ℕ) → j ≤ s.count → ((i : ℕ) → i < j → judged s i ≡ true)
    → ((i : ℕ) → j ≤ i → i < s.count → judged s i ≡ false) → judged_count s ≡ j
judged_count_law s j h a b =
    let e = sum_ext (λ i. bit (judged s i)) (λ i. 1) j (λ i l. ap bit (a i l)) in
    omega (arith, sum_cut (λ i. bit (judged s i)) j s.count h (λ i l u. ap bit (b i l u)), sum_const 1 j)

-- a quotient rounded up is at most 1 more than the quotient: where c is at most the divisor, n·c passes the dividend by at most c
pub rounded_le : (a t c : ℕ) → 0 < t → c ≤ t → rounded_up a t * c ≤ a + c
rounded_le a t c p h = go (rounded_up a t) (div-mul-le_self (a + (t - 1)) t)
  where
    go : (n : ℕ) → n * t ≤ a + (t - 1) → n * c ≤ a + c
    go zero i = omega arith
    go (suc n) i = omega (arith, mul-le-mul_left n h)

-- the bound after bounds that are kept, with 16-bit deadlines
module _ (s : FlowSet) (a : Accepted s) (d : (l : ℕ) → l < s.count → deadline s l ≤ 65535)
    (bs : List ℕ) (k : ℕ) (h : k < s.count) (keep : (l : ℕ) → l < k → get_or bs l 0 ≤ deadline s l) where
  whole_small : (l : ℕ) → l < k → whole_first s bs k l ≤ 131134
  whole_small l i =
      let j : l < s.count = omega arith in
      let g = a.flow l j in
      let r = rounded_le (deadline s k + get_or bs l 0 - 1) (period s l) (work_at s l) g.period_pos (le_trans g.work_le g.deadline_le) in
      omega (arith, d l j, d k h, keep l i, work_le_most s a l j)

  pub first_sums_le : sum_to (conflict_first s bs k) k ≤ sum_to (whole_first s bs k) k
  first_sums_le =
      sum_le (conflict_first s bs k) (whole_first s bs k) k
      (λ l i. mul-le-mul_left (packets_first s bs k l) (conflict_le_work (flow_at s k) (flow_at s l)))

  pub after_small : bound_after s bs k ≤ 8400000
  unfolding bound_after
  after_small =
      let w = sum_le (whole_first s bs k) (λ l. 131134) k whole_small in
      let q = div-le_self (sum_to (whole_first s bs k) k - sum_to (conflict_first s bs k) k) (ways s) in
      omega (arith, first_sums_le, sum_const 131134 k, a.count_le, work_le_most s a k h)

-- no bound passes 8,400,000
pub fixed_small : (s : FlowSet) → Accepted s → ((l : ℕ) → l < s.count → deadline s l ≤ 65535) → (k : ℕ) → fixed_bound s k ≤ 8400000
unfolding fixed_bound
fixed_small s a d k = elim (dec_le s.count k) [
  | yes h ↦ omega (arith, none_bound s k h)
  | no h ↦ go (omega arith) (judged s k) refl
]
  where
    go : k < s.count → (b : Bool) → judged s k ≡ b → fixed_bound s k ≤ 8400000
    go h false e = omega (arith, unjudged_bound s k h e)
    go h true e = le_trans (le_of_eq (judged_bound s k h e)) (after_small s a d (fixed_list s) k h (all_keep s k e))
