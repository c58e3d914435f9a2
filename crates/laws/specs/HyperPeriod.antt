-- The least common multiple of two numbers, and the hyper-period of a set: the least number that every period divides. No common divisor is
-- looked for: a common multiple's remainder by the least one is a common multiple again, and below it, so it is 0.
use Rattle.std.specs.Prelude.{◌≡◌, refl, Bool, true, false, cond, ℕ, zero, suc, ◌+◌, ◌-◌, ◌*◌, ◌/◌, ◌%◌, ◌≤◌, ◌<◌, min, max, eqb}
use Rattle.std.proofs.Common.{sym, ap, ◌∙◌, le_refl, le_trans, mul-le-mul_right, mod-lt, div-add-mod', arith, eqb-true}
use Rattle.std.proofs.Math.Nat.{mod-one, zero-mod, mul-mod_left, mul-mod_right, dvd_of_mod-eq-zero, le_of_dvd, mod-mod_of_dvd}
use Rattle.std.proofs.Math.Decide.{dec_le}
use Rattle.std.proofs.lemmas.Bool.{eqb-false}
use Rattle.model.specs.declared.kinds.FlowSet.{FlowSet}
use Rattle.document.specs.Delay.{period}
use Rattle.document.specs.Superframe.{multiple_from, lcm, hyper_to, hyper}

-- what divides b divides the multiples of b, and their remainders by multiples of it
pub divides_on : (a b x : ℕ) → b % a ≡ 0 → x % b ≡ 0 → x % a ≡ 0
divides_on a b x h e = sym (mod-mod_of_dvd a x (dvd_of_mod-eq-zero a h)) ∙ ap (λ (y : ℕ). y % a) e ∙ zero-mod a

pub divides_rest : (a b x : ℕ) → b % a ≡ 0 → x % a ≡ 0 → x % b % a ≡ 0
divides_rest a b x h e = mod-mod_of_dvd a x (dvd_of_mod-eq-zero a h) ∙ e

-- the search among the multiples of a finds one of them,
pub multiple_found : (a b j n : ℕ) → (i : ℕ) × (j ≤ i) × (multiple_from a b j n ≡ i * a)
unfolding multiple_from
multiple_found a b j zero = (j, le_refl j, refl)
multiple_found a b j (suc n) = go (eqb (j * a % b) 0) (multiple_found a b (j + 1) n)
  where
    go : (t : Bool) → (i : ℕ) × (j + 1 ≤ i) × (multiple_from a b (j + 1) n ≡ i * a)
        → (i : ℕ) × (j ≤ i) × (cond t (j * a) (multiple_from a b (j + 1) n) ≡ i * a)
    go true w = (j, le_refl j, refl)
    go false w = (w.0, omega arith, w.2)

-- which b divides if it divides the last of them,
pub multiple_divided : (a b j n : ℕ) → (j + n) * a % b ≡ 0 → multiple_from a b j n % b ≡ 0
unfolding multiple_from
multiple_divided a b j zero h = let e : j + 0 ≡ j = omega arith in ap (λ (i : ℕ). i * a % b) (sym e) ∙ h
multiple_divided a b j (suc n) h =
    let e : j + 1 + n ≡ j + suc n = omega arith in
    go (eqb (j * a % b) 0) refl (multiple_divided a b (j + 1) n (ap (λ (i : ℕ). i * a % b) e ∙ h))
  where
    go : (t : Bool) → eqb (j * a % b) 0 ≡ t → multiple_from a b (j + 1) n % b ≡ 0 → cond t (j * a) (multiple_from a b (j + 1) n) % b ≡ 0
    go true e w = eqb-true (j * a % b) 0 e
    go false e w = w

-- and none that b divides comes before it
pub multiple_first : (a b j n i : ℕ) → j ≤ i → i * a % b ≡ 0 → multiple_from a b j n ≤ i * a
unfolding multiple_from
multiple_first a b j zero i l h = mul-le-mul_right a l
multiple_first a b j (suc n) i l h = go (eqb (j * a % b) 0) refl (λ k. multiple_first a b (j + 1) n i k h)
  where
    go : (t : Bool) → eqb (j * a % b) 0 ≡ t → (j + 1 ≤ i → multiple_from a b (j + 1) n ≤ i * a)
        → cond t (j * a) (multiple_from a b (j + 1) n) ≤ i * a
    go true e w = mul-le-mul_right a l
    go false e w =
        elim (dec_le i j) [
          | yes k ↦ let q : i ≡ j = omega arith in absurd (eqb-false (j * a % b) 0 e (ap (λ (x : ℕ). x * a % b) (sym q) ∙ h))
          | no k ↦ w (omega arith)
        ]

-- the first multiple of a that b divides: it comes no later than b·a
abbrev first_multiple : ℕ → ℕ → ℕ
first_multiple a b = multiple_from a b 1 (b - 1)

first_divides : (a b : ℕ) → 0 < b → (first_multiple a b % a ≡ 0) × (first_multiple a b % b ≡ 0)
first_divides a b h =
    let w = multiple_found a b 1 (b - 1) in
    let e : 1 + (b - 1) ≡ b = omega arith in
    (ap (λ (x : ℕ). x % a) w.2 ∙ mul-mod_left w.0 a, multiple_divided a b 1 (b - 1) (ap (λ (i : ℕ). i * a % b) e ∙ mul-mod_right b a))

first_least : (a b x : ℕ) → 0 < x → x % a ≡ 0 → x % b ≡ 0 → first_multiple a b ≤ x
first_least a b x h p q =
    let e : x ≡ x / a * a = omega (arith, div-add-mod' x a) in
    rw (← e) at (multiple_first a b 1 (b - 1) (x / a) (some (x / a) e) (ap (λ (y : ℕ). y % b) (sym e) ∙ q))
  where
    some : (i : ℕ) → x ≡ i * a → 1 ≤ i
    some zero e = omega arith
    some (suc i) e = omega arith

-- the least common multiple is one of the two first multiples
lcm_either : (P : ℕ → Type 0) (a b : ℕ) → P (first_multiple a b) → P (first_multiple b a) → P (lcm a b)
unfolding lcm
lcm_either P a b h k =
    elim (dec_le a b) [
      | yes l ↦ let e : max a b ≡ b = omega arith in let d : min a b ≡ a = omega arith in rw (e, d) k
      | no l ↦ let e : max a b ≡ a = omega arith in let d : min a b ≡ b = omega arith in rw (e, d) h
    ]

-- it is no smaller than either of the numbers,
pub lcm_ge : (a b : ℕ) → (a ≤ lcm a b) × (b ≤ lcm a b)
unfolding lcm
lcm_ge a b =
    let w = multiple_found (max a b) (min a b) 1 (min a b - 1) in
    let l = mul-le-mul_right (max a b) w.1 in
    (omega arith, omega arith)

pub lcm_positive : (a b : ℕ) → 0 < a → 0 < lcm a b
lcm_positive a b h = le_trans h (lcm_ge a b).0

-- both divide it,
pub lcm_divides : (a b : ℕ) → 0 < a → 0 < b → (lcm a b % a ≡ 0) × (lcm a b % b ≡ 0)
lcm_divides a b h k =
    let w = first_divides b a h in
    lcm_either (λ x. (x % a ≡ 0) × (x % b ≡ 0)) a b (first_divides a b k) (w.1, w.0)

-- no number above 0 that both divide is smaller,
pub lcm_least : (a b x : ℕ) → 0 < x → x % a ≡ 0 → x % b ≡ 0 → lcm a b ≤ x
lcm_least a b x h p q = lcm_either (λ y. y ≤ x) a b (first_least a b x h p q) (first_least b a x h q p)

-- and each such number is a multiple of it
pub lcm_common : (a b x : ℕ) → 0 < a → 0 < b → x % a ≡ 0 → x % b ≡ 0 → x % lcm a b ≡ 0
lcm_common a b x h k p q = go (x % lcm a b) refl
  where
    go : (r : ℕ) → x % lcm a b ≡ r → r ≡ 0
    go zero e = refl
    go (suc r) e =
        let d = lcm_divides a b h k in
        let both = lcm_least a b (x % lcm a b) (omega arith) (divides_rest a (lcm a b) x d.0 p) (divides_rest b (lcm a b) x d.1 q) in
        omega (arith, mod-lt x (lcm_positive a b h))

-- the hyper-period does not fall as flows are added; so above a limit it stays above
pub hyper_rises : (s : FlowSet) (n : ℕ) → hyper_to s n ≤ hyper_to s (suc n)
unfolding hyper_to
hyper_rises s n = (lcm_ge (hyper_to s n) (period s n)).0

pub hyper_more : (s : FlowSet) (n k : ℕ) → n ≤ k → hyper_to s n ≤ hyper_to s k
hyper_more s n zero h = let e : n ≡ 0 = omega arith in rw e (le_refl (hyper_to s 0))
hyper_more s n (suc k) h =
    elim (dec_le n k) [
      | yes l ↦ le_trans (hyper_more s n k l) (hyper_rises s k)
      | no l ↦ let e : n ≡ suc k = omega arith in rw e (le_refl (hyper_to s (suc k)))
    ]

-- every period of the first n flows is above 0; or divides x
abbrev pub PeriodsPositive : FlowSet → ℕ → Type 0
PeriodsPositive s n = (k : ℕ) → k < n → 0 < period s k

abbrev pub PeriodsDivide : FlowSet → ℕ → ℕ → Type 0
PeriodsDivide s n x = (k : ℕ) → k < n → x % period s k ≡ 0

pub hyper_to_positive : (s : FlowSet) (n : ℕ) → 0 < hyper_to s n
unfolding hyper_to
hyper_to_positive s n = le_trans (le_refl 1) (hyper_more s 0 n (omega arith))

pub hyper_to_divided : (s : FlowSet) (n : ℕ) → PeriodsPositive s n → PeriodsDivide s n (hyper_to s n)
unfolding hyper_to
hyper_to_divided s zero h k l = absurd (omega arith)
hyper_to_divided s (suc n) h k l =
    let w = lcm_divides (hyper_to s n) (period s n) (hyper_to_positive s n) (h n (le_refl (suc n))) in
    elim (dec_le n k) [
      | yes g ↦ let e : k ≡ n = omega arith in rw e w.1
      | no g ↦ divides_on (period s k) (hyper_to s n) (hyper_to s (suc n)) (hyper_to_divided s n (λ i m. h i (omega arith)) k (omega arith)) w.0
    ]

pub hyper_to_common : (s : FlowSet) (n x : ℕ) → PeriodsPositive s n → PeriodsDivide s n x → x % hyper_to s n ≡ 0
unfolding hyper_to
hyper_to_common s zero x h d = mod-one x
hyper_to_common s (suc n) x h d =
    lcm_common (hyper_to s n) (period s n) x (hyper_to_positive s n) (h n (le_refl (suc n)))
    (hyper_to_common s n x (λ i l. h i (omega arith)) (λ i l. d i (omega arith)))
    (d n (le_refl (suc n)))

-- the hyper-period is the least number above 0 that every period divides
pub hyper_positive : (s : FlowSet) → 0 < hyper s
hyper_positive s = hyper_to_positive s s.count

pub hyper_divided : (s : FlowSet) → PeriodsPositive s s.count → (k : ℕ) → k < s.count → hyper s % period s k ≡ 0
hyper_divided s h = hyper_to_divided s s.count h

pub hyper_least : (s : FlowSet) → PeriodsPositive s s.count → (x : ℕ) → 0 < x → PeriodsDivide s s.count x → hyper s ≤ x
hyper_least s h x l d = le_of_dvd l (dvd_of_mod-eq-zero (hyper s) (hyper_to_common s s.count x h d))
