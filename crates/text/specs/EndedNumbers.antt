-- A number with the byte that ends it, a tab or an LF, for code that goes through a table's lines with a cursor: t is the text from a place on.
-- The answers are those of a number's reading, the place being the one after the byte that ends it.
use Rattle.std.specs.Prelude.{◌≡◌, ℕ, suc, ◌+◌, ◌-◌, ◌*◌, ◌%◌, ◌<◌, ◌≤◌, min, Bool, true, false, cond, ◌&&◌, List, [], ◌∷◌, length, drop, ◌==◌, ◌≢◌, nat_le, nat_lt, slice_index, refl, Option, Some, None}
use Rattle.std.proofs.Common.{sym, ap, ◌∙◌, add-zero, arith, drop-drop, get_or-drop, leb-true, ltb-true, ltb-false, le-leb, ne_eqb}
use Rattle.std.proofs.Math.Bool.{and-false}
use Rattle.std.proofs.lemmas.Bool.{eqb-false, lt-leb}
use Rattle.model.specs.Refusals.{number_says}
use Rattle.document.specs.Text.{fields, all_digits, plain, value_from, value_of, is_number}
use Rattle.laws.specs.SumLaws.{and_l}
use Rattle.text.specs.Places.{first, look_byte, look_at}
use Rattle.text.specs.Fields.{Sep, is_tab, is_lf, within, sep, fields_parts, first_within}
use Rattle.text.specs.DigitsRead.{Look, at_end, at_tab, at_lf, other, digit, look, look_inside, look_digit, look_stop, look_other, value_grows, bad_digit}
use Rattle.text.specs.Numerals.{plain_of}

-- the value v and the next place, if the byte is there
abbrev pub end_if : Bool → ℕ → ℕ → Option (ℕ × ℕ)
end_if end v at = cond end (Some (v, at + 1)) None

-- the byte after the field that stands at the front of t
abbrev pub byte_after : List ℕ → ℕ
byte_after t = slice_index t (length (first t))

pub byte_front : (t : List ℕ) (n : ℕ) → slice_index (drop n t) 0 ≡ slice_index t n
byte_front t n = get_or-drop n t 0 0 ∙ ap (λ (k : ℕ). slice_index t k) (add-zero n)

-- digits that follow those of v, ended by this byte
unfoldable pub digits_in : ℕ → ℕ → ℕ → List ℕ → Option (ℕ × ℕ)
digits_in stop v from t =
    end_if (all_digits (first t) && nat_le (value_from v (first t)) 65535 && byte_after t == stop) (value_from v (first t)) (from + length (first t))

-- a number, ended by this byte
unfoldable pub field_in : ℕ → ℕ → List ℕ → Option (ℕ × ℕ)
field_in stop from t = end_if (is_number (first t) && byte_after t == stop) (value_of (first t)) (from + length (first t))

-- what document 01's number and values are for it: the value and the place after the byte that ends it, or refusal 1 and none
abbrev pub field_said : ℕ → ℕ → List ℕ → ℕ × List ℕ
field_said stop from t =
    cond (is_number (first t) && byte_after t == stop) (0, value_of (first t) ∷ (from + length (first t) + 1) ∷ []) (1, [])

-- the answer says so
pub field_says : {x : Option (ℕ × ℕ)} (stop from : ℕ) (t : List ℕ) → x ≡ field_in stop from t → number_says x ≡ field_said stop from t
unfolding field_in
field_says stop from t e = ap number_says e ∙ go (is_number (first t) && byte_after t == stop) (value_of (first t)) (from + length (first t))
  where
    go : (b : Bool) (v at : ℕ) → number_says (end_if b v at) ≡ cond b (0, v ∷ (at + 1) ∷ []) (1, [])
    go true v at = refl
    go false v at = refl

-- a byte less that of digit 0 is below 10 for a digit alone
pub digit_less : (b r : ℕ) → r < 256 → (r + 48) % 256 ≡ b → min r 10 ≡ min (look_byte b) 10
unfolding look_byte
digit_less b r h e = go (nat_lt b 48) (b == 9) (b == 10) (nat_lt 57 b) refl refl
  where
    go : (w x y z : Bool) → nat_lt b 48 ≡ w → nat_lt 57 b ≡ z → min r 10 ≡ min (cond w (cond x 10 (cond y 10 11)) (cond z 11 (b - 48))) 10
    go true true y z p q = omega (arith, ltb-true)
    go true false true z p q = omega (arith, ltb-true)
    go true false false z p q = omega (arith, ltb-true)
    go false x y true p q = omega (arith, ltb-true, ltb-false)
    go false x y false p q = omega (arith, ltb-false)

-- past a digit
pub digits_on : (stop v i : ℕ) (t : List ℕ) → look_at t < 10 → digits_in stop v i t ≡ digits_in stop (v * 10 + look_at t) (i + 1) (drop 1 t)
unfolding digits_in
digits_on stop v i t h =
    let d = look_digit t h in
    let z : i + suc (length (first (drop 1 t))) ≡ i + 1 + length (first (drop 1 t)) = omega arith in
    rw (d.all, d.value v, d.size, z, after t (length (first (drop 1 t))))
  where
    after : (t : List ℕ) (n : ℕ) → slice_index t (suc n) ≡ slice_index (drop 1 t) n
    after [] n = refl
    after (b ∷ t) n = refl

-- a value above 65,535, whatever follows
pub digits_above : (stop v i : ℕ) (t : List ℕ) → 65535 < v → digits_in stop v i t ≡ None
unfolding digits_in
digits_above stop v i t h =
    let l : 65535 < value_from v (first t) = omega (arith, value_grows (first t) v) in
    rw (lt-leb (value_from v (first t)) 65535 l, and-false (all_digits (first t)))

-- no further digit
pub digits_end : (stop v i : ℕ) (t : List ℕ) → 10 ≤ look_at t → v ≤ 65535 → 9 ≤ stop → stop ≤ 10 → digits_in stop v i t ≡ end_if (slice_index t 0 == stop) v i
unfolding digits_in all_digits value_from
digits_end stop v i t h k l m = go (look t) refl h
  where
    none : (t : List ℕ) → look_at t ≡ 10 → digits_in stop v i t ≡ end_if (slice_index t 0 == stop) v i
    none t e = let z : i + 0 ≡ i = omega arith in rw (look_stop t e, le-leb v 65535 k, z)

    go : {t : List ℕ} {n : ℕ} → Look t n → look_at t ≡ n → 10 ≤ n → digits_in stop v i t ≡ end_if (slice_index t 0 == stop) v i
    go at_end e h = none [] e
    go (at_tab {t = t}) e h = none (9 ∷ t) e
    go (at_lf {t = t}) e h = none (10 ∷ t) e
    go (other {b = b} {t = t} d f g) e h =
        let x = eqb-false b 10 f in
        let y = eqb-false b 9 g in
        let w : b ≡ stop → ⊥ = λ q. omega arith in
        rw (look_other (b ∷ t) e, ne_eqb b stop w)
    go (digit {b = b} {t = t} d f g k) e h = absurd (omega arith)

-- a number that does not begin with 0 is its digits
field_plain : (stop from : ℕ) (t : List ℕ) → plain (first t) ≡ true → field_in stop from t ≡ digits_in stop 0 from t
unfolding field_in digits_in is_number
field_plain stop from t h = rw h

-- the number by its first digit: none, 0, and any other
pub field_none : (stop from : ℕ) (t : List ℕ) → 10 ≤ look_at t → field_in stop from t ≡ None
unfolding field_in is_number
field_none stop from t h = go (look t) refl h
  where
    none : (t : List ℕ) → look_at t ≡ 10 → field_in stop from t ≡ None
    none t e = rw (look_stop t e)

    go : {t : List ℕ} {n : ℕ} → Look t n → look_at t ≡ n → 10 ≤ n → field_in stop from t ≡ None
    go at_end e h = none [] e
    go (at_tab {t = t}) e h = none (9 ∷ t) e
    go (at_lf {t = t}) e h = none (10 ∷ t) e
    go (other {b = b} {t = t} d f g) e h = rw (bad_digit (first (b ∷ t)) (look_other (b ∷ t) e))
    go (digit d f g k) e h = absurd (omega arith)

pub field_zero : (stop from : ℕ) (t : List ℕ) → look_at t ≡ 0 → 9 ≤ stop → stop ≤ 10
    → field_in stop from t ≡ end_if (slice_index (drop 1 t) 0 == stop) 0 (from + 1)
unfolding field_in fields is_number all_digits value_from
field_zero stop from t h k l = go (look t) h
  where
    after : (u : List ℕ) → field_in stop from (48 ∷ u) ≡ end_if (slice_index u 0 == stop) 0 (from + 1)
    after [] = refl
    after (c ∷ u) = part c u (sep c)
      where
        part : (c : ℕ) (u : List ℕ) → Sep c → field_in stop from (48 ∷ c ∷ u) ≡ end_if (c == stop) 0 (from + 1)
        part c u is_tab = refl
        part c u is_lf = refl
        part c u (within e f) =
            let x = eqb-false c 10 e in
            let y = eqb-false c 9 f in
            let w : c ≡ stop → ⊥ = λ q. omega arith in
            rw (e, f, fields_parts u, ne_eqb c stop w)

    go : {t : List ℕ} {n : ℕ} → Look t n → n ≡ 0 → field_in stop from t ≡ end_if (slice_index (drop 1 t) 0 == stop) 0 (from + 1)
    go at_end e = absurd (omega arith)
    go at_tab e = absurd (omega arith)
    go at_lf e = absurd (omega arith)
    go (other d f g) e = absurd (omega arith)
    go (digit {b = b} {t = t} d f g k) e =
        let lo = leb-true 48 b (and_l (nat_le 48 b) (nat_lt b 58) d) in
        let z : b ≡ 48 = omega arith in rw z (after t)

pub field_digits : (stop from d : ℕ) (t : List ℕ) → look_at t ≡ d → 0 < d → d < 10 → field_in stop from t ≡ digits_in stop d (from + 1) (drop 1 t)
field_digits stop from d t e h k =
    field_plain stop from t (go (look t) (omega arith) (omega arith)) ∙ digits_on stop 0 from t (omega arith)
    ∙ ap (λ (n : ℕ). digits_in stop n (from + 1) (drop 1 t)) (omega arith)
  where
    go : {t : List ℕ} {n : ℕ} → Look t n → 0 < n → n < 10 → plain (first t) ≡ true
    go at_end h k = absurd (omega arith)
    go at_tab h k = absurd (omega arith)
    go at_lf h k = absurd (omega arith)
    go (other d f g) h k = absurd (omega arith)
    go (digit {b = b} {t = t} d f g l) h k = ap plain (first_within b t f g) ∙ plain_of b (first t) (ne_eqb b 48 (λ q. omega arith))

-- what is seen at a place: a digit by its value, anything else by 10 or more
pub record Sees (s : List ℕ) (at d : ℕ) : Type 0 where
  pub as_is : min d 10 ≡ min (look_at (drop at s)) 10

-- the reading of digits that has come to place i with the value v, and sees d there
pub record DigitsToEnd (s : List ℕ) (from value stop i v d : ℕ) : Type 0 where
  pub left : digits_in stop value from (drop from s) ≡ digits_in stop v i (drop i s)
  pub small : v ≤ 65535
  pub sees : Sees s i d

module _ {s : List ℕ} {from value stop i v d : ℕ} (inv : DigitsToEnd s from value stop i v d) where
  seen : d < 10 → look_at (drop i s) ≡ d
  seen h = omega (arith, inv.sees.as_is)

  more_left : d < 10 → digits_in stop value from (drop from s) ≡ digits_in stop (v * 10 + d) (i + 1) (drop (i + 1) s)
  more_left h =
      let e = seen h in
      inv.left ∙ digits_on stop v i (drop i s) (omega arith)
      ∙ rw (e, drop-drop 1 i s)

  pub to_end_inside : d < 10 → i < length s
  to_end_inside h = look_inside s i (omega (arith, seen h))

  pub to_end_more : (e : ℕ) → d < 10 → v * 10 + d ≤ 65535 → Sees s (i + 1) e
      → DigitsToEnd s from value stop (i + 1) (v * 10 + d) e
  to_end_more e h k q = record { left = more_left h; small = k; sees = q }

  pub to_end_above : d < 10 → 65535 < v * 10 + d → None ≡ digits_in stop value from (drop from s)
  to_end_above h k = sym (more_left h ∙ digits_above stop (v * 10 + d) (i + 1) (drop (i + 1) s) k)

  pub to_end : 10 ≤ d → 9 ≤ stop → stop ≤ 10 → end_if (slice_index s i == stop) v i ≡ digits_in stop value from (drop from s)
  to_end h k l =
      ap (λ (b : ℕ). end_if (b == stop) v i) (sym (byte_front s i))
      ∙ sym (inv.left ∙ digits_end stop v i (drop i s) (omega (arith, inv.sees.as_is)) inv.small k l)

-- the number at a place where d is seen
module _ {s : List ℕ} {from d : ℕ} (sees : Sees s from d) where
  pub first_inside : d ≤ 9 → from < length s
  first_inside h = look_inside s from (omega arith)

  pub first_none : (stop : ℕ) → 9 < d → None ≡ field_in stop from (drop from s)
  first_none stop h = sym (field_none stop from (drop from s) (omega arith))

  pub first_zero : (stop : ℕ) → d ≡ 0 → 9 ≤ stop → stop ≤ 10 → end_if (slice_index s (from + 1) == stop) 0 (from + 1) ≡ field_in stop from (drop from s)
  first_zero stop h k l =
      let z = sym (byte_front s (from + 1)) ∙ ap (λ (t : List ℕ). slice_index t 0) (sym (drop-drop 1 from s)) in
      ap (λ (b : ℕ). end_if (b == stop) 0 (from + 1)) z ∙ sym (field_zero stop from (drop from s) (omega arith) k l)

  pub first_other : (stop : ℕ) → d ≤ 9 → (d ≢ 0) → digits_in stop d (from + 1) (drop (from + 1) s) ≡ field_in stop from (drop from s)
  first_other stop h k =
      ap (digits_in stop d (from + 1)) (sym (drop-drop 1 from s)) ∙ sym (field_digits stop from d (drop from s) (omega arith) (omega arith) (omega arith))
