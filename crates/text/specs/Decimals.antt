-- Laws of a number's decimal digits: the last one, and those of the rest.
use Rattle.std.specs.Prelude.{◌≡◌, ℕ, zero, suc, ◌+◌, ◌*◌, ◌/◌, ◌%◌, ◌<◌, ◌≤◌, Bool, true, false, cond, List, [], ◌∷◌, ◌++◌, length, nat_lt, refl}
use Rattle.std.proofs.Common.{sym, ap, ◌∙◌, zero-le, arith, length-append, lt-ltb, le-ltb, ltb-true, ltb-false}
use Rattle.document.specs.Text.{decimal_in, decimal}

-- the numbers of at most ten digits
abbrev pub ten_digits : ℕ
ten_digits = 10000000000

pub one_digit : (k n : ℕ) → n < 10 → decimal_in (suc k) n ≡ (48 + n) ∷ []
unfolding decimal_in
one_digit k n h = rw (lt-ltb n 10 h)

pub more_digits : (k n : ℕ) → 10 ≤ n → decimal_in (suc k) n ≡ decimal_in k (n / 10) ++ ((48 + n % 10) ∷ [])
unfolding decimal_in
more_digits k n h = rw (le-ltb n 10 h)

-- the first number of more than k + 1 digits
unfoldable pub top : ℕ → ℕ
top zero = 10
top (suc k) = top k * 10

top_least : (k : ℕ) → 10 ≤ top k
unfolding top
top_least zero = omega arith
top_least (suc k) = omega (arith, top_least k)

-- more room for digits than there are changes nothing
decimal_room : (k n : ℕ) → n < top k → decimal_in (suc (suc k)) n ≡ decimal_in (suc k) n
unfolding top
decimal_room zero n h = one_digit 1 n h ∙ sym (one_digit 0 n h)
decimal_room (suc k) n h = go (decimal_room k (n / 10) (omega arith)) (nat_lt n 10) refl
  where
    go : decimal_in (suc (suc k)) (n / 10) ≡ decimal_in (suc k) (n / 10) → (b : Bool) → nat_lt n 10 ≡ b → decimal_in (suc (suc (suc k))) n ≡ decimal_in (suc (suc k)) n
    go ih true e = one_digit (suc (suc k)) n (ltb-true n 10 e) ∙ sym (one_digit (suc k) n (ltb-true n 10 e))
    go ih false e =
        let l = ltb-false n 10 e in
        more_digits (suc (suc k)) n l ∙ ap (λ (d : List ℕ). d ++ ((48 + n % 10) ∷ [])) ih ∙ sym (more_digits (suc k) n l)

-- and neither does any more
top_more : (j k m n : ℕ) → m ≡ j + k → n < top k → n < top m
unfolding top
top_more zero k m n e h = let z : m ≡ k = omega arith in rw z h
top_more (suc j) k m n e h = let z : m ≡ suc (j + k) = omega arith in rw z (omega (arith, top_more j k (j + k) n refl h))

pub room_more : (j k m n : ℕ) → m ≡ j + k → n < top k → decimal_in (suc m) n ≡ decimal_in (suc k) n
room_more zero k m n e h = let z : m ≡ k = omega arith in ap (λ (i : ℕ). decimal_in (suc i) n) z
room_more (suc j) k m n e h =
    let z : m ≡ suc (j + k) = omega arith in
    ap (λ (i : ℕ). decimal_in (suc i) n) z ∙ decimal_room (j + k) n (top_more j k (j + k) n refl h) ∙ room_more j k (j + k) n refl h

pub decimal_one : (n : ℕ) → n < 10 → decimal n ≡ (48 + n) ∷ []
unfolding decimal
decimal_one n h = one_digit 9 n h

pub decimal_more : (n : ℕ) → 10 ≤ n → n < ten_digits → decimal n ≡ decimal (n / 10) ++ ((48 + n % 10) ∷ [])
unfolding decimal top
decimal_more n h l = more_digits 9 n h ∙ ap (λ (d : List ℕ). d ++ ((48 + n % 10) ∷ [])) (sym (decimal_room 8 (n / 10) (omega arith)))

pub decimal_size : (n : ℕ) → 10 ≤ n → n < ten_digits → length (decimal n) ≡ length (decimal (n / 10)) + 1
decimal_size n h l = ap length (decimal_more n h l) ∙ length-append (decimal (n / 10)) _

-- a number from the first of k + 2 digits to the last
pub size_is : (k n : ℕ) → top k ≤ n → n < top k * 10 → n < ten_digits → length (decimal n) ≡ k + 2
unfolding top
size_is zero n l h t = omega (arith, decimal_size n l t, ap length (decimal_one (n / 10) (omega arith)))
size_is (suc k) n l h t =
    omega (arith, decimal_size n (omega (arith, top_least k)) t, size_is k (n / 10) (omega arith) (omega arith) (omega arith))

-- five digits more than those of what is left without the last five
pub size_five : (n : ℕ) → 100000 ≤ n → n < ten_digits → length (decimal n) ≡ 5 + length (decimal (n / 100000))
size_five n l h =
    let e : n / 10 / 10 / 10 / 10 / 10 ≡ n / 100000 = omega arith in
    decimal_size n (omega arith) h
    ∙ omega (
      arith,
      decimal_size (n / 10) (omega arith) (omega arith),
      decimal_size (n / 10 / 10) (omega arith) (omega arith),
      decimal_size (n / 10 / 10 / 10) (omega arith) (omega arith),
      decimal_size (n / 10 / 10 / 10 / 10) (omega arith) (omega arith),
      ap (λ (m : ℕ). length (decimal m)) e,
    )

-- a number has at most ten digits
digits_most : (k n : ℕ) → length (decimal_in k n) ≤ k
unfolding decimal_in
digits_most zero n = zero-le
digits_most (suc k) n = go (nat_lt n 10) (digits_most k (n / 10))
  where
    go : (b : Bool) → length (decimal_in k (n / 10)) ≤ k → length (cond b ((48 + n) ∷ []) (decimal_in k (n / 10) ++ ((48 + n % 10) ∷ []))) ≤ suc k
    go true h = omega arith
    go false h = omega (arith, length-append (decimal_in k (n / 10)) ((48 + n % 10) ∷ []))

pub decimal_most : (n : ℕ) → length (decimal n) ≤ 10
unfolding decimal
decimal_most n = digits_most 10 n
