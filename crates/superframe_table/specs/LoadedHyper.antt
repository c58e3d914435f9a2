-- The hyper-period as the code finds it: the least common multiple of two by a search through the multiples of one, and none for what is above
-- the limit.
use Rattle.std.specs.Prelude.{◌≡◌, refl, cond, ◌≢◌, Option, Some, None, ℕ, ◌+◌, ◌*◌, ◌/◌, ◌%◌, ◌≤◌, ◌<◌, min, max, leb}
use Rattle.std.proofs.Common.{sym, ap, ap₂, ◌∙◌, div-add-mod', lt_of_mul-lt-mul_right, mul-le-mul_right, add-one, arith, le-leb}
use Rattle.std.proofs.Math.Nat.{mul-mod_left, mul-pos, div-lt_iff_lt-mul}
use Rattle.std.proofs.Math.Decide.{dec_le}
use Rattle.std.proofs.lemmas.Bool.{lt-leb}
use Rattle.model.specs.{declared.kinds.{Flow.{Flow}, FlowSet.{FlowSet}}, Sets.{flow_at, used}}
use Rattle.document.specs.Delay.{period}
use Rattle.document.specs.Superframe.{lcm, hyper_to, hyper, most_hyper}
use Rattle.laws.specs.Used.{used_count, used_flow}
use Rattle.laws.specs.HyperPeriod.{lcm_ge, lcm_divides, lcm_least, hyper_more, hyper_to_positive}

-- a number of slots that a table may have, and none for one that is too large
abbrev pub if_loaded : ℕ → Option ℕ
if_loaded h = cond (leb h most_hyper) (Some h) None

pub loaded : (h : ℕ) → h ≤ most_hyper → if_loaded h ≡ Some h
loaded h l = rw (le-leb h most_hyper l)

pub not_loaded_law : (h : ℕ) → most_hyper < h → if_loaded h ≡ None
not_loaded_law h l = rw (lt-leb h most_hyper l)

pub loaded_none : (h : ℕ) → if_loaded h ≡ None → most_hyper < h
loaded_none h e =
    elim (dec_le h most_hyper) [
      | yes k ↦ let d = loaded h k in cc
      | no k ↦ omega arith
    ]

pub loaded_some : (h n : ℕ) → if_loaded h ≡ Some n → (n ≡ h) × (h ≤ most_hyper)
loaded_some h n e =
    elim (dec_le h most_hyper) [
      | yes k ↦ let d = loaded h k in (cc, k)
      | no k ↦ let d = not_loaded_law h (omega arith) in absurd cc
    ]

-- the order of the two is free
pub lcm_turned : (a b : ℕ) → lcm a b ≡ lcm b a
unfolding lcm
lcm_turned a b =
    let e : max a b ≡ max b a = omega arith in
    let d : min a b ≡ min b a = omega arith in rw (e, d)

pub lcm_larger_first : (a b : ℕ) → lcm (max a b) (min a b) ≡ lcm a b
unfolding lcm
lcm_larger_first a b =
    let e : max (max a b) (min a b) ≡ max a b = omega arith in
    let d : min (max a b) (min a b) ≡ min a b = omega arith in rw (e, d)

-- The multiples of a are looked through from the first on: the k-th of them does not come after the least common one.
pub record Reached (a b k : ℕ) : Type 0 where
  pub some : 0 < k
  pub before : k * a ≤ lcm a b

module _ (a b : ℕ) (h : 0 < a) (g : 0 < b) where
  -- the first is a itself
  pub reached_first : Reached a b 1
  reached_first = record { some = omega arith; before = omega (arith, (lcm_ge a b).0) }

  -- one that b divides is the least common one,
  pub reached_end : (k : ℕ) → Reached a b k → k * a ≤ most_hyper → k * a % b ≡ 0 → Some (k * a) ≡ if_loaded (lcm a b)
  reached_end k r l e =
      let m : k * a % a ≡ 0 = mul-mod_left k a in
      let q : k * a ≡ lcm a b = omega (arith, r.before, lcm_least a b (k * a) (mul-pos r.some h) m e) in
      rw q (sym (loaded (lcm a b) (omega arith)))

  -- one above the limit says that this is above it too,
  pub reached_above : (k : ℕ) → Reached a b k → most_hyper / a < k → None ≡ if_loaded (lcm a b)
  reached_above k r l = sym (not_loaded_law (lcm a b) (omega (arith, r.before, (div-lt_iff_lt-mul {k = a} {x = most_hyper} {y = k} h).0 l)))

  -- and after any other comes the next multiple
  pub reached_next : (k : ℕ) → Reached a b k → k * a % b ≢ 0 → Reached a b (k + 1)
  reached_next k r n = record { some = omega arith; before = later }
    where
      d : (lcm a b % a ≡ 0) × (lcm a b % b ≡ 0)
      d = lcm_divides a b h g

      apart : k * a ≢ lcm a b
      apart e = n (ap (λ (y : ℕ). y % b) e ∙ d.1)

      later : (k + 1) * a ≤ lcm a b
      later =
          let q = div-add-mod' (lcm a b) a in
          let l : k * a < lcm a b / a * a = omega (arith, r.before, apart, d.0) in
          let m = mul-le-mul_right a (lt_of_mul-lt-mul_right a l) in
          omega (arith, d.0)

-- h is the hyper-period of the first k flows, and not above the limit
pub record HyperSoFar (s : FlowSet) (k h : ℕ) : Type 0 where
  pub is : h ≡ hyper_to (used s) k
  pub some : 0 < h
  pub small : h ≤ most_hyper

pub hyper_none : (s : FlowSet) → HyperSoFar s 0 1
unfolding hyper_to
hyper_none s = record { is = refl; some = omega arith; small = omega arith }

-- one flow more, with period t
pub hyper_step : (s : FlowSet) (k h t : ℕ) (x : Option ℕ) → k < s.count → HyperSoFar s k h → t ≡ (flow_at s k).period.0 → x ≡ if_loaded (lcm h t)
    → x ≡ if_loaded (hyper_to (used s) (k + 1))
unfolding hyper_to
hyper_step s k h t x l w e d =
    let p : t ≡ period (used s) k = e ∙ ap (λ (f : Flow). f.period.0) (sym (used_flow s k l)) in
    d ∙ ap if_loaded (ap₂ lcm w.is p ∙ ap (hyper_to (used s)) (sym (add-one k)))

-- once it is above the limit it stays above
pub hyper_above : (s : FlowSet) (k : ℕ) → k < s.count → None ≡ if_loaded (hyper_to (used s) (k + 1)) → None ≡ if_loaded (hyper (used s))
hyper_above s k l e =
    let a = loaded_none (hyper_to (used s) (k + 1)) (sym e) in
    let c = used_count s in
    sym (not_loaded_law (hyper (used s)) (omega (arith, hyper_more (used s) (k + 1) (used s).count (omega arith))))

pub hyper_next : (s : FlowSet) (k h : ℕ) → Some h ≡ if_loaded (hyper_to (used s) (k + 1)) → HyperSoFar s (k + 1) h
hyper_next s k h e =
    let w = loaded_some (hyper_to (used s) (k + 1)) h (sym e) in
    record { is = w.0; some = omega (arith, w.0, hyper_to_positive (used s) (k + 1)); small = omega (arith, w.0, w.1) }

pub hyper_all : (s : FlowSet) (k h : ℕ) → k ≡ s.count → HyperSoFar s k h → Some h ≡ if_loaded (hyper (used s))
hyper_all s k h n w =
    let e : h ≡ hyper (used s) = w.is ∙ ap (hyper_to (used s)) (n ∙ sym (used_count s)) in
    ap (λ (x : ℕ). Some x) e ∙ sym (loaded (hyper (used s)) (omega (arith, w.small)))
