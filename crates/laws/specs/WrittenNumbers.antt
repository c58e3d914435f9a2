-- Numbers as they are written and read again: a number's digits have its value, tabs part fields that are digits, and LF ends the line.
use Rattle.std.specs.Prelude.{◌≡◌, refl, Bool, true, false, cond, List, [], ◌∷◌, ◌++◌, ℕ, zero, suc, ◌+◌, ◌-◌, ◌*◌, ◌/◌, ◌%◌, ◌≤◌, ◌<◌, leb, ltb, eqb, length, get_or}
use Rattle.std.proofs.Common.{ap, ◌∙◌, append_assoc, zero-le, arith, length-append, ltb-true, ltb-false, leb-true, le-leb, lt-ltb, ne_eqb}
use Rattle.document.specs.Text.{is_digit, all_digits, value_from, value_of, values_of, decimal_in, decimal, decimals, tabbed, onto, fields, lines}
use Rattle.laws.specs.SumLaws.{and_l, and_r}

-- the first number of more than k digits
unfoldable pub tens : ℕ → ℕ
tens zero = 1
tens (suc k) = tens k * 10

-- one digit more at the end
value_last : (f : List ℕ) (v b : ℕ) → value_from v (f ++ (b ∷ [])) ≡ value_from v f * 10 + (b - 48)
unfolding value_from
value_last [] v b = refl
value_last (c ∷ f) v b = value_last f (v * 10 + (c - 48)) b

digits_last : (f : List ℕ) (b : ℕ) → all_digits f ≡ true → is_digit b ≡ true → all_digits (f ++ (b ∷ [])) ≡ true
unfolding all_digits
digits_last [] b h k = rw k
digits_last (c ∷ f) b h k = rw (and_l (is_digit c) (all_digits f) h) (digits_last f b (and_r (is_digit c) (all_digits f) h) k)

digit_of : (d : ℕ) → d < 10 → is_digit (48 + d) ≡ true
digit_of d h =
    let a : 48 ≤ 48 + d = omega arith in
    let b : 48 + d < 58 = omega arith in rw (le-leb 48 (48 + d) a, lt-ltb (48 + d) 58 b)

-- a number's digits are digits
digits_in_law : (k n : ℕ) → all_digits (decimal_in k n) ≡ true
unfolding decimal_in all_digits
digits_in_law zero n = refl
digits_in_law (suc k) n = go (ltb n 10) refl (digits_in_law k (n / 10))
  where
    go : (b : Bool) → ltb n 10 ≡ b → all_digits (decimal_in k (n / 10)) ≡ true
        → all_digits (cond b ((48 + n) ∷ []) (decimal_in k (n / 10) ++ ((48 + n % 10) ∷ []))) ≡ true
    go true e ih = rw (digit_of n (ltb-true n 10 e))
    go false e ih = digits_last (decimal_in k (n / 10)) (48 + n % 10) ih (digit_of (n % 10) (omega arith))

pub decimal_digits : (n : ℕ) → all_digits (decimal n) ≡ true
unfolding decimal
decimal_digits n = digits_in_law 10 n

-- with room for all of them they have its value
value_in : (k n : ℕ) → n < tens k → value_of (decimal_in k n) ≡ n
unfolding decimal_in value_from tens
value_in zero n h = omega arith
value_in (suc k) n h = go (ltb n 10) refl (value_in k (n / 10) (omega arith))
  where
    go : (b : Bool) → ltb n 10 ≡ b → value_of (decimal_in k (n / 10)) ≡ n / 10
        → value_of (cond b ((48 + n) ∷ []) (decimal_in k (n / 10) ++ ((48 + n % 10) ∷ []))) ≡ n
    go true e ih = omega arith
    go false e ih = value_last (decimal_in k (n / 10)) 0 (48 + n % 10) ∙ omega arith

pub decimal_value : (n : ℕ) → n < tens 10 → value_of (decimal n) ≡ n
unfolding decimal
decimal_value n h = value_in 10 n h

-- and a number below 10 ^ j has at most j of them
length_in : (k j n : ℕ) → n < tens (suc j) → length (decimal_in k n) ≤ suc j
unfolding decimal_in tens
length_in zero j n h = zero-le
length_in (suc k) j n h = go (ltb n 10) refl j h (λ i. length_in k i (n / 10))
  where
    go : (b : Bool) → ltb n 10 ≡ b → (j : ℕ) → n < tens (suc j) → ((i : ℕ) → n / 10 < tens (suc i) → length (decimal_in k (n / 10)) ≤ suc i)
        → length (cond b ((48 + n) ∷ []) (decimal_in k (n / 10) ++ ((48 + n % 10) ∷ []))) ≤ suc j
    go true e j h ih = omega arith
    go false e zero h ih = absurd (omega (arith, ltb-false n 10 e))
    go false e (suc j) h ih = omega (arith, length-append (decimal_in k (n / 10)) ((48 + n % 10) ∷ []), ih j (omega arith))

pub decimal_length : (j n : ℕ) → n < tens (suc j) → length (decimal n) ≤ suc j
unfolding decimal
decimal_length j n h = length_in 10 j n h

-- a digit parts neither fields nor lines
pub digit_inside : (b : ℕ) → is_digit b ≡ true → (eqb b 10 ≡ false) × (eqb b 9 ≡ false)
digit_inside b h =
    let lo = leb-true 48 b (and_l (leb 48 b) (ltb b 58) h) in (ne_eqb b 10 (λ e. omega arith), ne_eqb b 9 (λ e. omega arith))

-- so digits before a text are the first bytes of its first field, and of its first line
fields_digits : (f t : List ℕ) (fs : List (List ℕ)) → all_digits f ≡ true → fields t ≡ [] ∷ fs → fields (f ++ t) ≡ f ∷ fs
unfolding fields all_digits
fields_digits [] t fs h e = e
fields_digits (b ∷ f) t fs h e =
    let i = digit_inside b (and_l (is_digit b) (all_digits f) h) in
    rw (i.0, i.1, fields_digits f t fs (and_r (is_digit b) (all_digits f) h) e)

lines_digits : (f t l : List ℕ) (ls : List (List ℕ)) → all_digits f ≡ true → lines t ≡ l ∷ ls → lines (f ++ t) ≡ (f ++ l) ∷ ls
unfolding lines all_digits
lines_digits [] t l ls h e = e
lines_digits (b ∷ f) t l ls h e =
    let i = digit_inside b (and_l (is_digit b) (all_digits f) h) in
    rw (i.0, lines_digits f t l ls (and_r (is_digit b) (all_digits f) h) e)

-- the fields of a line of numbers, and the line before what follows
pub fields_tabbed : (vs : List ℕ) → fields (tabbed (decimals vs)) ≡ [] ∷ decimals vs
unfolding fields tabbed decimals
fields_tabbed [] = refl
fields_tabbed (v ∷ vs) = rw (fields_digits (decimal v) (tabbed (decimals vs)) (decimals vs) (decimal_digits v) (fields_tabbed vs))

pub lines_tabbed : (vs t : List ℕ) → lines (tabbed (decimals vs) ++ t) ≡ tabbed (decimals vs) ∷ lines t
unfolding lines tabbed decimals
lines_tabbed [] t = refl
lines_tabbed (v ∷ vs) t =
    ap (λ (l : List ℕ). onto 9 (lines l)) (append_assoc (decimal v) (tabbed (decimals vs)) t)
    ∙ ap (λ (ls : List (List ℕ)). onto 9 ls)
    (lines_digits (decimal v) (tabbed (decimals vs) ++ t) (tabbed (decimals vs)) (lines t) (decimal_digits v) (lines_tabbed vs t))

-- and its numbers: one for each field, with its value
pub values_length : (fs : List (List ℕ)) → length (values_of fs) ≡ length fs
unfolding values_of
values_length [] = refl
values_length (f ∷ fs) = ap suc (values_length fs)

pub value_at_law : (fs : List (List ℕ)) (i : ℕ) → get_or (values_of fs) i 0 ≡ value_of (get_or fs i [])
unfolding values_of value_from
value_at_law [] i = refl
value_at_law (f ∷ fs) zero = refl
value_at_law (f ∷ fs) (suc i) = value_at_law fs i

pub values_back : (vs : List ℕ) → ((i : ℕ) → get_or vs i 0 < tens 10) → values_of (decimals vs) ≡ vs
unfolding values_of decimals
values_back [] h = refl
values_back (v ∷ vs) h = rw (decimal_value v (h 0), values_back vs (λ i. h (suc i)))
