-- Laws of bytes that are stored one after the other, and of a number's digits stored from the last on.
use Rattle.std.specs.Prelude.{◌≡◌, ℕ, suc, ◌+◌, ◌-◌, ◌/◌, ◌%◌, ◌<◌, ◌≤◌, List, [], ◌∷◌, ◌++◌, length, take, set, slice_index, slice_set, refl}
use Rattle.std.proofs.Common.{sym, ap, ◌∙◌, arith, le_refl, add-one, length-set, take-suc}
use Rattle.std.proofs.lemmas.List.Edits.{sets}
use Rattle.std.proofs.Math.Seq.{set_out}
use Rattle.std.proofs.lemmas.List.{set_comm}
use Rattle.document.specs.Text.{decimal}
use Rattle.text.specs.Decimals.{ten_digits, decimal_one, decimal_more, decimal_size}

pub sets_append : (a b l : List ℕ) (i : ℕ) → sets l i (a ++ b) ≡ sets (sets l i a) (i + length a) b
sets_append [] b l i = let z : i + 0 ≡ i = omega arith in rw z
sets_append (x ∷ a) b l i = let z : i + suc (length a) ≡ suc i + length a = omega arith in rw z (sets_append a b (slice_set l i x) (suc i))

-- beyond the end nothing is stored
pub sets_out : (vs l : List ℕ) (i : ℕ) → length l ≤ i → sets l i vs ≡ l
sets_out [] l i h = refl
sets_out (v ∷ vs) l i h = rw (set_out l i v h) (sets_out vs l (suc i) (omega arith))

-- a store further on may come first
pub set_sets : (a l : List ℕ) (i j x : ℕ) → i + length a ≤ j → slice_set (sets l i a) j x ≡ sets (slice_set l j x) i a
set_sets [] l i j x h = refl
set_sets (y ∷ a) l i j x h =
    set_sets a (slice_set l i y) (suc i) j x (omega arith)
    ∙ ap (λ (m : List ℕ). sets m (suc i) a) (set_comm l i j y x (λ e. omega arith))

-- one byte more of a list
pub take_next : (s : List ℕ) (i : ℕ) → i < length s → take i s ++ (slice_index s i ∷ []) ≡ take (i + 1) s
take_next s i h = rw (add-one, take-suc s i 0 h)

-- a number's digits that are stored from the last on: what is left, stored from `at` on, gives the whole
pub record DigitsLeft (o : List ℕ) (at v : ℕ) (out : List ℕ) (i n : ℕ) : Type 0 where
  pub place : i ≡ at + length (decimal n)
  pub small : n < ten_digits
  pub stored : sets o at (decimal v) ≡ sets out at (decimal n)
  pub long : length out ≡ length o

pub digits_start : (o : List ℕ) (at v i : ℕ) → i ≡ at + length (decimal v) → v < ten_digits → DigitsLeft o at v o i v
digits_start o at v i e h = record { place = e; small = h; stored = refl; long = refl }

module _ (o : List ℕ) (at v : ℕ) (out : List ℕ) (i n : ℕ) (d : DigitsLeft o at v out i n) where
  pub digits_left : 10 ≤ n → 1 ≤ i
  digits_left h = omega (arith, d.place, decimal_size n h d.small)

  digits_before : 10 ≤ n → i - 1 ≡ at + length (decimal (n / 10))
  digits_before h = omega (arith, d.place, decimal_size n h d.small)

  pub digits_more : (b : ℕ) (new : List ℕ) → 10 ≤ n → b ≡ 48 + n % 10 → new ≡ slice_set out (i - 1) b → DigitsLeft o at v new (i - 1) (n / 10)
  digits_more b new h e q =
      record {
        place = digits_before h;
        small = omega (arith, d.small);
        stored =
            d.stored ∙ ap (sets out at) (decimal_more n h d.small) ∙ sets_append (decimal (n / 10)) _ out at
            ∙ rw (q, e, digits_before h) (set_sets (decimal (n / 10)) out at (at + length (decimal (n / 10))) (48 + n % 10) (le_refl _));
        long = ap length q ∙ length-set out (i - 1) b ∙ d.long;
      }

  pub digits_done : (b : ℕ) (new : List ℕ) → n < 10 → b ≡ 48 + n → new ≡ slice_set out at b → new ≡ sets o at (decimal v)
  digits_done b new h e q = q ∙ ap (set out at) e ∙ sym (d.stored ∙ ap (sets out at) (decimal_one n h))
