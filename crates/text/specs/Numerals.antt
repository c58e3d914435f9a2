-- A number and its decimal digits: each gives the other back.
use Rattle.std.specs.Prelude.{◌≡◌, ℕ, zero, suc, ◌+◌, ◌-◌, ◌*◌, ◌/◌, ◌%◌, ◌<◌, ◌≤◌, true, false, ◌&&◌, List, [], ◌∷◌, ◌++◌, length, ◌==◌, ◌≢◌, nat_le, nat_lt, refl}
use Rattle.std.proofs.Common.{sym, ap, subst, ◌∙◌, append-nil, append_assoc, arith, ne_eqb, leb-true, ltb-true}
use Rattle.std.proofs.lemmas.Bool.{false≢true, eqb-false, not-true}
use Rattle.std.proofs.Math.Decide.{dec_le}
use Rattle.document.specs.Text.{is_digit, all_digits, plain, value_from, value_of, is_number, decimal_in, decimal}
use Rattle.laws.specs.SumLaws.{and_l, and_r}
use Rattle.laws.specs.WrittenNumbers.{tens, decimal_digits, decimal_value, decimal_length}
use Rattle.text.specs.DigitsRead.{value_grows, good_number}
use Rattle.text.specs.Decimals.{ten_digits, top, room_more, decimal_one, decimal_more}

-- a field that does not begin with 0
pub plain_of : (b : ℕ) (f : List ℕ) → (b == 48) ≡ false → plain (b ∷ f) ≡ true
plain_of b [] h = refl
plain_of b (c ∷ f) h = rw h

-- the digits of a number above 0 do not begin with 0
Leads : ℕ → List ℕ → Type 0
Leads n f = 0 < n → (b : ℕ) × (g : List ℕ) × (f ≡ b ∷ g) × ((b == 48) ≡ false)

leads_one : (n : ℕ) → n < 10 → Leads n ((48 + n) ∷ [])
unfolding Leads
leads_one n h p = (48 + n, [], refl, ne_eqb (48 + n) 48 (λ e. omega arith))

leads_more : (n : ℕ) (f : List ℕ) → 10 ≤ n → Leads (n / 10) f → Leads n (f ++ ((48 + n % 10) ∷ []))
unfolding Leads
leads_more n f h m p =
    let w = m (omega arith) in (w.0, w.1 ++ ((48 + n % 10) ∷ []), ap (λ (l : List ℕ). l ++ ((48 + n % 10) ∷ [])) w.2, w.3)

leads_in : (k n : ℕ) → n < top k → n < ten_digits → Leads n (decimal n)
unfolding top
leads_in zero n h l = subst (λ (f : List ℕ). Leads n f) (sym (decimal_one n h)) (leads_one n h)
leads_in (suc k) n h l =
    elim (dec_le 10 n) [
      | yes d ↦
          let m = leads_in k (n / 10) (omega arith) (omega arith) in
          subst (λ (f : List ℕ). Leads n f) (sym (decimal_more n d l)) (leads_more n (decimal (n / 10)) d m)
      | no d ↦ subst (λ (f : List ℕ). Leads n f) (sym (decimal_one n (omega arith))) (leads_one n (omega arith))
    ]

decimal_plain : (n : ℕ) → n < ten_digits → plain (decimal n) ≡ true
unfolding Leads top
decimal_plain zero h = ap plain (decimal_one 0 (omega arith))
decimal_plain (suc n) h =
    let w = leads_in 9 (suc n) h h (omega arith) in ap plain w.2 ∙ plain_of w.0 w.1 w.3

-- ten digits are enough for every number that is written, which has at most 32 bits: its digits have its value, without leading zero, and
-- room for more digits changes nothing
pub record WrittenInFull (n : ℕ) : Type 0 where
  pub value : value_of (decimal n) ≡ n
  pub digits : all_digits (decimal n) ≡ true
  pub no_zero : plain (decimal n) ≡ true
  pub no_more : (k : ℕ) → decimal_in (10 + k) n ≡ decimal n

pub ten_digits_are_enough : (n : ℕ) → n ≤ 4294967295 → WrittenInFull n
unfolding decimal top tens
ten_digits_are_enough n h =
    record {
      value = decimal_value n (omega arith);
      digits = decimal_digits n;
      no_zero = decimal_plain n (omega arith);
      no_more = λ k. let z : 10 + k ≡ suc (k + 9) = omega arith in rw z (room_more k 9 (k + 9) n refl (omega arith));
    }

pub value_decimal : (n : ℕ) → n ≤ 65535 → value_of (decimal n) ≡ n
unfolding tens
value_decimal n h = decimal_value n (omega arith)

pub decimal_number : (n : ℕ) → n ≤ 65535 → is_number (decimal n) ≡ true
decimal_number n h =
    good_number (decimal n) (decimal_plain n (omega arith)) (decimal_digits n) (omega (arith, value_decimal n h))

-- the digits after those of a number
digits_after : (f : List ℕ) (v : ℕ) → 0 < v → all_digits f ≡ true → value_from v f < ten_digits → decimal (value_from v f) ≡ decimal v ++ f
unfolding value_from all_digits
digits_after [] v p d h = sym (append-nil (decimal v))
digits_after (b ∷ f) v p d h =
    let i = and_l (is_digit b) (all_digits f) d in
    let lo = leb-true 48 b (and_l (nat_le 48 b) (nat_lt b 58) i) in
    let hi = ltb-true b 58 (and_r (nat_le 48 b) (nat_lt b 58) i) in
    let w : ℕ = v * 10 + (b - 48) in
    digits_after f (v * 10 + (b - 48)) (omega arith) (and_r (is_digit b) (all_digits f) d) h
    ∙ ap (λ (l : List ℕ). l ++ f)
    (decimal_more (v * 10 + (b - 48)) (omega arith) (omega (arith, value_grows f (v * 10 + (b - 48))))
    ∙ last v b lo hi)
    ∙ append_assoc (decimal v) (b ∷ []) f
  where
    last : (v b : ℕ) → 48 ≤ b → b < 58 → decimal ((v * 10 + (b - 48)) / 10) ++ ((48 + (v * 10 + (b - 48)) % 10) ∷ []) ≡ decimal v ++ (b ∷ [])
    last v b lo hi =
        let x : (v * 10 + (b - 48)) / 10 ≡ v = omega arith in
        let y : 48 + (v * 10 + (b - 48)) % 10 ≡ b = omega arith in rw (x, y)

lead_digit : (b : ℕ) → is_digit b ≡ true → decimal (0 * 10 + (b - 48)) ≡ b ∷ []
lead_digit b i =
    let lo = leb-true 48 b (and_l (nat_le 48 b) (nat_lt b 58) i) in
    let hi = ltb-true b 58 (and_r (nat_le 48 b) (nat_lt b 58) i) in
    let x : 48 + (0 * 10 + (b - 48)) ≡ b = omega arith in
    decimal_one (0 * 10 + (b - 48)) (omega arith) ∙ rw x

-- a number's digits are those of its value
pub number_decimal : (f : List ℕ) → is_number f ≡ true → decimal (value_of f) ≡ f
unfolding is_number all_digits value_from
number_decimal f h =
    let a = and_l (plain f && all_digits f) (nat_le (value_of f) 65535) h in
    let v = leb-true (value_of f) 65535 (and_r (plain f && all_digits f) (nat_le (value_of f) 65535) h) in
    go f (and_l (plain f) (all_digits f) a) (and_r (plain f) (all_digits f) a) v
  where
    apart : (b : ℕ) → (b ≢ 48) → 48 ≤ b → 0 < 0 * 10 + (b - 48)
    apart b n lo = omega arith

    go : (f : List ℕ) → plain f ≡ true → all_digits f ≡ true → value_of f ≤ 65535 → decimal (value_of f) ≡ f
    go [] p d v = absurd (false≢true p)
    go (b ∷ []) p d v = lead_digit b (and_l (is_digit b) true d)
    go (b ∷ c ∷ f) p d v =
        let i = and_l (is_digit b) (all_digits (c ∷ f)) d in
        let n = eqb-false b 48 (not-true (b == 48) p) in
        let lo = leb-true 48 b (and_l (nat_le 48 b) (nat_lt b 58) i) in
        digits_after (c ∷ f) (0 * 10 + (b - 48)) (apart b n lo) (and_r (is_digit b) (all_digits (c ∷ f)) d) (omega arith)
        ∙ ap (λ (l : List ℕ). l ++ (c ∷ f)) (lead_digit b i)

-- a number of 16 bits has at most five digits
pub decimal_five : (n : ℕ) → n ≤ 65535 → length (decimal n) ≤ 5
unfolding tens
decimal_five n h = decimal_length 4 n (omega arith)
