-- What the rounds reach is the greatest list, whatever the order of the flows. A list whose every entry is the smaller of deadline and
-- value stays below each list of the rounds, since the value grows with the list; and when no flow's replacement changes the list, it is
-- one of these lists itself.
use Rattle.std.specs.Prelude.{◌≡◌, refl, Bool, true, false, cond, List, [], ◌∷◌, ℕ, zero, suc, ◌-◌, ◌≤◌, ◌<◌, min, ltb, ℤ, pos, negsuc, ◌-ℤ◌, length, get_or}
use Rattle.std.proofs.Common.{sym, ap, ◌∙◌, zero-le, le_antisymm, arith, le-ltb, ext_get_or}
use Rattle.std.proofs.Math.Decide.{dec_le, ℕ_discrete}
use Rattle.std.proofs.Math.ListN.{get_or-eq_default}
use Rattle.model.specs.declared.kinds.FlowSet.{FlowSet}
use Rattle.document.specs.Delay.{deadline, basic_bound, value_at, Settled, Greatest, deadlines, lowered, round_to, reached, tight_bound}
use Rattle.laws.specs.Values.{value_le_basic, deadlines_entry}
use Rattle.laws.specs.Rounds.{Le, value_mono, lowered_entry, lowered_other, round_le_value, Between, between_deadlines, between_lowered, WorkFits, reached_between, reached_idle, Ends, idle, more, reached_ends}

-- a settled list has no entry beyond the flows
settled_none : (s : FlowSet) (g : List ℕ) → Settled s g → (i : ℕ) → s.count ≤ i → get_or g i 0 ≡ 0
settled_none s g t i h = let e = t.one_each in let l : length g ≤ i = omega arith in get_or-eq_default g 0 l

-- a settled list is below D, and stays below as entries are replaced
pub settled_le_deadlines : (s : FlowSet) (g : List ℕ) → Settled s g → Le g (deadlines s)
settled_le_deadlines s g t i =
    elim (dec_le s.count i) [
      | yes h ↦ omega (arith, settled_none s g t i h)
      | no h ↦ let l : i < s.count = omega arith in omega (arith, t.entry i l, deadlines_entry s i l)
    ]

pub settled_le_lowered : (s : FlowSet) (g : List ℕ) → Settled s g → (v : List ℕ) (k : ℕ) → Le g v → Le g (lowered s v k)
settled_le_lowered s g t v k h i =
    elim (ℕ_discrete i k) [
      | no n ↦ omega (arith, lowered_other s v k i n, h i)
      | yes q ↦ rw q (elim (dec_le s.count k) [
        | yes l ↦ omega (arith, settled_none s g t k l)
        | no l ↦ omega (arith, lowered_entry s v k, t.entry k (omega arith), value_mono s g v k h, h k)
      ])
    ]

pub settled_le_round : (s : FlowSet) (g : List ℕ) → Settled s g → (v : List ℕ) (n : ℕ) → Le g v → Le g (round_to s v n)
unfolding round_to
settled_le_round s g t v zero h = h
settled_le_round s g t v (suc n) h = settled_le_lowered s g t (round_to s v n) n (settled_le_round s g t v n h)

pub settled_le_end : {s : FlowSet} {v r : List ℕ} {k : ℕ} (g : List ℕ) → Settled s g → Ends s v k r → Le g v → Le g r
settled_le_end g t (idle e) h = h
settled_le_end {s} {v} g t (more e n) h = settled_le_end g t n (settled_le_round s g t v s.count h)

-- a list of the rounds with no entry above the equation's value is settled
pub between_settled : (s : FlowSet) (v : List ℕ) → Between s v → ((k : ℕ) → k < s.count → get_or v k 0 ≤ value_at s v k) → Settled s v
between_settled s v b h =
    record {
      one_each = b.one_each;
      entry = λ k l. omega (arith, b.le_deadline k l, b.ge_value k l, h k l);
    }

-- what the rounds reach is the greatest list
pub reached_greatest : (s : FlowSet) → WorkFits s → Greatest s (reached s).list
reached_greatest s f =
    let r = (reached s).list in
    let e = reached_idle s f in
    record {
      settled = between_settled s r (reached_between s f)
          (λ k l. let a = round_le_value s r s.count k l in omega (arith, ap (λ (v : List ℕ). get_or v k 0) e));
      largest = λ g t. settled_le_end g t (reached_ends s f) (settled_le_deadlines s g t);
    }

-- there is one greatest list
pub greatest_once : (s : FlowSet) (u v : List ℕ) → Greatest s u → Greatest s v → u ≡ v
greatest_once s u v a b =
    ext_get_or 0 u v (a.settled.one_each ∙ sym b.settled.one_each)
    (λ i h. le_antisymm (b.largest u a.settled i) (a.largest v b.settled i))

-- the entries of these flows replaced, one after the other
unfoldable pub replaced : FlowSet → List ℕ → List ℕ → List ℕ
replaced s v [] = v
replaced s v (k ∷ ks) = replaced s (lowered s v k) ks

pub between_replaced : (s : FlowSet) (v ks : List ℕ) → Between s v → Between s (replaced s v ks)
unfolding replaced
between_replaced s v [] b = b
between_replaced s v (k ∷ ks) b = between_replaced s (lowered s v k) ks (between_lowered s v k b)

pub settled_le_replaced : (s : FlowSet) (g : List ℕ) → Settled s g → (v ks : List ℕ) → Le g v → Le g (replaced s v ks)
unfolding replaced
settled_le_replaced s g t v [] h = h
settled_le_replaced s g t v (k ∷ ks) h = settled_le_replaced s g t (lowered s v k) ks (settled_le_lowered s g t v k h)

-- any order: flows taken as often as one likes and in any order, until no flow's replacement changes the list, end in the same list
pub any_order : (s : FlowSet) → WorkFits s → (ks : List ℕ)
    → ((k : ℕ) → k < s.count → lowered s (replaced s (deadlines s) ks) k ≡ replaced s (deadlines s) ks)
    → replaced s (deadlines s) ks ≡ (reached s).list
any_order s f ks h =
    let r = replaced s (deadlines s) ks in
    let g : Greatest s r =
    record {
      settled = between_settled s r (between_replaced s (deadlines s) ks (between_deadlines s))
          (λ k l. omega (arith, lowered_entry s r k, ap (λ (v : List ℕ). get_or v k 0) (h k l)));
      largest = λ g t. settled_le_replaced s g t (deadlines s) ks (settled_le_deadlines s g t);
    } in
    greatest_once s r (reached s).list g (reached_greatest s f)

-- the tightened bound is the value at the greatest list, and its entry there is the smaller of it and the deadline
pub tight_is_value : (s : FlowSet) → WorkFits s → (v : List ℕ) → Greatest s v → (k : ℕ) → tight_bound s k ≡ value_at s v k
unfolding tight_bound
tight_is_value s f v g k = ap (λ (u : List ℕ). value_at s u k) (greatest_once s (reached s).list v (reached_greatest s f) g)

pub entry_is_tight : (s : FlowSet) → WorkFits s → (k : ℕ) → k < s.count → get_or (reached s).list k 0 ≡ min (deadline s k) (tight_bound s k)
unfolding tight_bound
entry_is_tight s f k h = (reached_greatest s f).settled.entry k h

-- the tightened bound is never above the basic one
pub tight_le_basic : (s : FlowSet) (k : ℕ) → tight_bound s k ≤ basic_bound s k
unfolding tight_bound
tight_le_basic s k = value_le_basic s (reached s).list k

-- a signed number below 0
abbrev pub negative : ℤ → Bool
negative (pos n) = false
negative (negsuc n) = true

pub difference_sign : (d b : ℕ) → negative (pos d -ℤ pos b) ≡ ltb d b
difference_sign d zero = sym (le-ltb d 0 zero-le)
difference_sign d (suc b) = go (ltb d (suc b))
  where
    go : (c : Bool) → negative (cond c (negsuc (suc b - suc d)) (pos (d - suc b))) ≡ c
    go true = refl
    go false = refl
