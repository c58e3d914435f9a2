-- Laws of a number's digits: what the byte at a place says of the field that stands there.
use Rattle.std.specs.Prelude.{◌≡◌, ℕ, zero, suc, ◌+◌, ◌-◌, ◌*◌, ◌<◌, ◌≤◌, Bool, true, false, cond, not, ◌&&◌, List, [], ◌∷◌, length, drop, ◌==◌, ◌≢◌, nat_le, nat_lt, slice_index, refl, Some, None}
use Rattle.std.proofs.Math.Path.{sym, ap}
use Rattle.std.proofs.Common.{subst, ◌∙◌, le_refl, add-zero, arith, drop_of_length-le, drop-cons, drop-drop, get_or-drop, eqb-true, ltb-true, ltb-false, leb-true, leb-false, lt-ltb, le-ltb, le-leb, ne_eqb}
use Rattle.std.proofs.Math.Bool.{and-false}
use Rattle.std.proofs.Math.Decide.{dec_le}
use Rattle.std.proofs.lemmas.Bool.{eqb-false, lt-leb}
use Rattle.document.specs.Text.{fields, is_digit, all_digits, plain, value_from, value_of, is_number}
use Rattle.laws.specs.WrittenNumbers.{tens}
use Rattle.text.specs.Places.{first, look_byte, look_at}
use Rattle.text.specs.NumberAnswers.{number_in, number_of}
use Rattle.text.specs.Fields.{Sep, is_tab, is_lf, within, sep, first_within}

-- what the byte at a place is to a number
pub data Look : List ℕ → ℕ → Type 0 where
  at_end : Look [] 10
  at_tab : {t : List ℕ} → Look (9 ∷ t) 10
  at_lf : {t : List ℕ} → Look (10 ∷ t) 10
  other : {b : ℕ} {t : List ℕ} → is_digit b ≡ false → (b == 10) ≡ false → (b == 9) ≡ false → Look (b ∷ t) 11
  digit : {b : ℕ} {t : List ℕ} → is_digit b ≡ true → (b == 10) ≡ false → (b == 9) ≡ false → b - 48 < 10 → Look (b ∷ t) (b - 48)

pub look : (t : List ℕ) → Look t (look_at t)
unfolding look_at look_byte
look [] = at_end
look (b ∷ t) = go (nat_lt b 48) (b == 9) (b == 10) (nat_lt 57 b) refl refl refl refl
  where
    at : (n : ℕ) → Look (n ∷ t) 10 → b ≡ n → Look (b ∷ t) 10
    at n h e = rw e h

    low : b < 48 → is_digit b ≡ false
    low h = rw (lt-leb 48 b h)

    high : 57 < b → is_digit b ≡ false
    high h = rw (le-ltb b 58 h, and-false (nat_le 48 b))

    inside : 48 ≤ b → b ≤ 57 → is_digit b ≡ true
    inside h k = let l : b < 58 = omega arith in rw (le-leb 48 b h, lt-ltb b 58 l)

    go : (w x y z : Bool) → nat_lt b 48 ≡ w → (b == 9) ≡ x → (b == 10) ≡ y → nat_lt 57 b ≡ z
        → Look (b ∷ t) (cond w (cond x 10 (cond y 10 11)) (cond z 11 (b - 48)))
    go true true y z e f g h = at 9 at_tab (eqb-true b 9 f)
    go true false true z e f g h = at 10 at_lf (eqb-true b 10 g)
    go true false false z e f g h = other (low (ltb-true b 48 e)) g f
    go false x y true e f g h = let k = ltb-true 57 b h in other (high k) (ne_eqb b 10 (λ q. omega arith)) (ne_eqb b 9 (λ q. omega arith))
    go false x y false e f g h =
        let k = ltb-false 57 b h in
        let l = ltb-false b 48 e in
        digit {b = b} (inside l k) (ne_eqb b 10 (λ q. omega arith)) (ne_eqb b 9 (λ q. omega arith)) (omega arith)

-- what is seen at a place of a text
pub look_here : (s : List ℕ) (i : ℕ) → i < length s → look_at (drop i s) ≡ look_byte (slice_index s i)
unfolding look_at
look_here s i h = rw (drop-cons s i 0 h)

pub look_beyond : (s : List ℕ) (i : ℕ) → length s ≤ i → look_at (drop i s) ≡ 10
unfolding look_at
look_beyond s i h = rw (drop_of_length-le s h)

-- where a digit stands, the text goes on
pub look_inside : (s : List ℕ) (i : ℕ) → look_at (drop i s) < 10 → i < length s
look_inside s i h = elim (dec_le (length s) i) [ yes k ↦ absurd (omega (arith, look_beyond s i k)) | no k ↦ omega arith ]

-- past a digit: one fewer digit, the same value with the digit taken in
pub record Digit (t : List ℕ) (u : List ℕ) : Type 0 where
  pub all : all_digits (first t) ≡ all_digits (first u)
  pub value : (v : ℕ) → value_from v (first t) ≡ value_from (v * 10 + look_at t) (first u)
  pub size : length (first t) ≡ suc (length (first u))

pub look_digit : (t : List ℕ) → look_at t < 10 → Digit t (drop 1 t)
unfolding all_digits value_from
look_digit t h = go (look t) refl h
  where
    go : {t : List ℕ} {n : ℕ} → Look t n → look_at t ≡ n → n < 10 → Digit t (drop 1 t)
    go at_end e h = absurd (omega arith)
    go at_tab e h = absurd (omega arith)
    go at_lf e h = absurd (omega arith)
    go (other d f g) e h = absurd (omega arith)
    go (digit {b = b} {t = t} d f g k) e h =
        record {
          all = ap all_digits (first_within b t f g) ∙ rw d;
          value = λ v. ap (value_from v) (first_within b t f g) ∙ rw e;
          size = ap length (first_within b t f g);
        }

-- a tab, an LF or the end: no field is left
pub look_stop : (t : List ℕ) → look_at t ≡ 10 → first t ≡ []
unfolding fields
look_stop t h = go (look t) h
  where
    go : {t : List ℕ} {n : ℕ} → Look t n → n ≡ 10 → first t ≡ []
    go at_end e = refl
    go at_tab e = refl
    go at_lf e = refl
    go (other d f g) e = absurd (omega arith)
    go (digit d f g k) e = absurd (omega arith)

-- any other byte: the field is no number
pub look_other : (t : List ℕ) → look_at t ≡ 11 → all_digits (first t) ≡ false
unfolding all_digits
look_other t h = go (look t) h
  where
    go : {t : List ℕ} {n : ℕ} → Look t n → n ≡ 11 → all_digits (first t) ≡ false
    go at_end e = absurd (omega arith)
    go at_tab e = absurd (omega arith)
    go at_lf e = absurd (omega arith)
    go (other {b = b} {t = t} d f g) e = ap all_digits (first_within b t f g) ∙ rw d
    go (digit d f g k) e = absurd (omega arith)

-- a value only grows with further digits
pub value_grows : (f : List ℕ) (v : ℕ) → v ≤ value_from v f
unfolding value_from
value_grows [] v = le_refl v
value_grows (b ∷ f) v = omega (arith, value_grows f (v * 10 + (b - 48)))

-- what is no number: a byte that is no digit, a value above 65,535, nothing, a leading zero
pub bad_digit : (f : List ℕ) → all_digits f ≡ false → is_number f ≡ false
unfolding is_number
bad_digit f h = rw (h, and-false (plain f))

pub bad_value : (f : List ℕ) → 65535 < value_of f → is_number f ≡ false
unfolding is_number
bad_value f h = rw (lt-leb (value_of f) 65535 h, and-false (plain f && all_digits f))

pub bad_plain : (f : List ℕ) → plain f ≡ false → is_number f ≡ false
unfolding is_number
bad_plain f h = rw h

-- and more than five bytes: the first is a leading zero, no digit, or stands for 100,000 or more
pub bad_length_law : (f : List ℕ) → 5 < length f → is_number f ≡ false
unfolding value_from all_digits
bad_length_law (a ∷ b ∷ c ∷ d ∷ e ∷ g ∷ f) h =
    elim (dec_le a 48) [
      | yes l ↦ low (a == 48) refl l
      | no l ↦
          let v : ℕ = (((((0 * 10 + (a - 48)) * 10 + (b - 48)) * 10 + (c - 48)) * 10 + (d - 48)) * 10 + (e - 48)) * 10 + (g - 48) in
          bad_value (a ∷ b ∷ c ∷ d ∷ e ∷ g ∷ f) (omega (arith, value_grows f v))
    ]
  where
    low : (z : Bool) → (a == 48) ≡ z → a ≤ 48 → is_number (a ∷ b ∷ c ∷ d ∷ e ∷ g ∷ f) ≡ false
    low true q l = bad_plain (a ∷ b ∷ c ∷ d ∷ e ∷ g ∷ f) (rw q)
    low false q l = bad_digit (a ∷ b ∷ c ∷ d ∷ e ∷ g ∷ f) (rw (lt-leb 48 a (omega (arith, eqb-false a 48 q))))
bad_length_law [] h = absurd (omega arith)
bad_length_law (a ∷ []) h = absurd (omega arith)
bad_length_law (a ∷ b ∷ []) h = absurd (omega arith)
bad_length_law (a ∷ b ∷ c ∷ []) h = absurd (omega arith)
bad_length_law (a ∷ b ∷ c ∷ d ∷ []) h = absurd (omega arith)
bad_length_law (a ∷ b ∷ c ∷ d ∷ e ∷ []) h = absurd (omega arith)

pub good_number : (f : List ℕ) → plain f ≡ true → all_digits f ≡ true → value_of f ≤ 65535 → is_number f ≡ true
unfolding is_number
good_number f p d v = rw (p, d, le-leb (value_of f) 65535 v)

-- a field's first byte is the text's
pub first_byte : (t : List ℕ) → 0 < length (first t) → slice_index (first t) 0 ≡ slice_index t 0
unfolding fields
first_byte [] h = refl
first_byte (b ∷ t) h = go b t (sep b) h
  where
    go : (b : ℕ) (t : List ℕ) → Sep b → 0 < length (first (b ∷ t)) → slice_index (first (b ∷ t)) 0 ≡ b
    go b t is_tab h = absurd (omega arith)
    go b t is_lf h = absurd (omega arith)
    go b t (within e f) h = ap (λ (w : List ℕ). slice_index w 0) (first_within b t e f)

-- when digits are plain
pub plain_one : (f : List ℕ) → length f ≡ 1 → plain f ≡ true
plain_one [] h = absurd (omega arith)
plain_one (b ∷ []) h = refl
plain_one (b ∷ d ∷ f) h = absurd (omega arith)

pub plain_lead : (f : List ℕ) → 1 < length f → plain f ≡ not (slice_index f 0 == 48)
plain_lead [] h = absurd (omega arith)
plain_lead (b ∷ []) h = absurd (omega arith)
plain_lead (b ∷ d ∷ f) h = refl

pub plain_none : (f : List ℕ) → length f ≡ 0 → plain f ≡ false
plain_none [] h = refl
plain_none (b ∷ f) h = absurd (omega arith)

-- the answer to what is no number
pub number_refused : (from : ℕ) (f : List ℕ) → is_number f ≡ false → number_in from f ≡ None
unfolding number_in
number_refused from f h = rw h

-- the answer to the digits of a field, from its first byte, its ends and its value
pub digits_number : (from : ℕ) (t : List ℕ) (i v : ℕ) → all_digits (first t) ≡ true → value_of (first t) ≡ v → v ≤ 65535 → from + length (first t) ≡ i
    → number_of (slice_index t 0) from i v ≡ number_in from (first t)
unfolding number_in
digits_number from t i v d e h k = go (nat_le i from) (i - from == 1) (slice_index t 0 == 48) refl refl refl
  where
    value : is_number (first t) ≡ true → Some (v, i) ≡ number_in from (first t)
    value n = rw (n, e, k)

    good : plain (first t) ≡ true → Some (v, i) ≡ number_in from (first t)
    good p = value (good_number (first t) p d (omega (arith, e)))

    bad : plain (first t) ≡ false → None ≡ number_in from (first t)
    bad p = sym (number_refused from (first t) (bad_plain (first t) p))

    lead : 1 < length (first t) → plain (first t) ≡ not (slice_index t 0 == 48)
    lead l = plain_lead (first t) l ∙ ap (λ (n : ℕ). not (n == 48)) (first_byte t (omega arith))

    go : (x y z : Bool) → nat_le i from ≡ x → (i - from == 1) ≡ y → (slice_index t 0 == 48) ≡ z
        → cond x None (cond y (Some (v, i)) (cond z None (Some (v, i)))) ≡ number_in from (first t)
    go true y z p q r = bad (plain_none (first t) (omega (arith, leb-true)))
    go false true z p q r = good (plain_one (first t) (omega (arith, leb-false, eqb-true)))
    go false false true p q r =
        let l = eqb-false (i - from) 1 q in bad (lead (omega (arith, leb-false)) ∙ rw r)
    go false false false p q r =
        let l = eqb-false (i - from) 1 q in good (lead (omega (arith, leb-false)) ∙ rw r)

-- the reading of a number that has come to place i with the value v, and sees d there
pub record DigitsSoFar (s : List ℕ) (from i v d : ℕ) : Type 0 where
  pub all : all_digits (first (drop from s)) ≡ all_digits (first (drop i s))
  pub value : value_of (first (drop from s)) ≡ value_from v (first (drop i s))
  pub size : from + length (first (drop from s)) ≡ i + length (first (drop i s))
  pub after : from ≤ i
  pub few : i - from ≤ 5
  pub small : v < tens (i - from)
  pub sees : d ≡ look_at (drop i s)
  pub known : d ≤ 11

pub digits_start : (s : List ℕ) (from d : ℕ) → d ≡ look_at (drop from s) → d ≤ 11 → DigitsSoFar s from from 0 d
unfolding tens
digits_start s from d e h =
    let z : from - from ≡ 0 = omega arith in
    record { all = refl; value = refl; size = refl; after = le_refl from; few = omega arith; small = rw z (omega arith); sees = e; known = h }

-- before the fifth digit a value has at most four
tens_four : (n : ℕ) → n < 5 → tens n ≤ 10000
unfolding tens
tens_four zero h = omega arith
tens_four (suc zero) h = omega arith
tens_four (suc (suc zero)) h = omega arith
tens_four (suc (suc (suc zero))) h = omega arith
tens_four (suc (suc (suc (suc zero)))) h = omega arith
tens_four (suc (suc (suc (suc (suc n))))) h = absurd (omega arith)

module _ (s : List ℕ) (from i v d : ℕ) (inv : DigitsSoFar s from i v d) where
  here : d < 10 → Digit (drop i s) (drop (i + 1) s)
  here h = subst (λ (u : List ℕ). Digit (drop i s) u) (drop-drop 1 i s) (look_digit (drop i s) (subst (λ (n : ℕ). n < 10) inv.sees h))

  step : d < 10 → value_of (first (drop from s)) ≡ value_from (v * 10 + d) (first (drop (i + 1) s))
  step h = inv.value ∙ (here h).value v ∙ ap (λ (n : ℕ). value_from (v * 10 + n) (first (drop (i + 1) s))) (sym inv.sees)

  pub digits_inside : d < 10 → i < length s
  digits_inside h = look_inside s i (subst (λ (n : ℕ). n < 10) inv.sees h)

  pub digits_room : i - from < 5 → v ≤ 9999
  digits_room h = omega (arith, inv.small, tens_four (i - from) h)

  pub digits_more : (e : ℕ) → d < 10 → i - from < 5 → e ≡ look_at (drop (i + 1) s) → e ≤ 11 → DigitsSoFar s from (i + 1) (v * 10 + d) e
  unfolding tens
  digits_more e h k q l =
      let z : i + 1 - from ≡ suc (i - from) = omega (arith, inv.after) in
      record {
        all = inv.all ∙ (here h).all;
        value = step h;
        size = omega (arith, inv.size, (here h).size);
        after = omega (arith, inv.after);
        few = omega arith;
        small = rw z (omega (arith, inv.small));
        sees = q;
        known = l;
      }

  pub digits_many : d < 10 → 5 ≤ i - from → number_in from (first (drop from s)) ≡ None
  digits_many h k =
      number_refused from (first (drop from s)) (bad_length_law (first (drop from s)) (omega (arith, inv.size, (here h).size)))

  pub digits_large : 65535 < v → number_in from (first (drop from s)) ≡ None
  digits_large k =
      number_refused from (first (drop from s))
      (bad_value (first (drop from s)) (omega (arith, inv.value, value_grows (first (drop i s)) v)))

  pub digits_other : d ≡ 11 → number_in from (first (drop from s)) ≡ None
  digits_other h =
      number_refused from (first (drop from s))
      (bad_digit (first (drop from s)) (inv.all ∙ look_other (drop i s) (sym inv.sees ∙ h)))

  pub digits_stop : (b : ℕ) → b ≡ slice_index s from → 10 ≤ d → (d ≢ 11) → v ≤ 65535 → number_of b from i v ≡ number_in from (first (drop from s))
  unfolding all_digits value_from
  digits_stop b q h k m =
      let e : d ≡ 10 = omega (arith, inv.known) in
      let n = look_stop (drop i s) (sym inv.sees ∙ e) in
      ap (λ (b : ℕ). number_of b from i v) (q ∙ ap (λ (j : ℕ). slice_index s j) (sym (add-zero from)) ∙ sym (get_or-drop from s 0 0))
      ∙ digits_number from (drop from s) i v (inv.all ∙ ap all_digits n) (inv.value ∙ ap (value_from v) n) m
      (omega (arith, inv.size, ap length n))
