-- The numbers of an accepted text in the order of its bytes, as they are stored in a lent table: a byte is a digit of the number that is being read, or the
-- tab or LF that ends it.
use Rattle.std.specs.Prelude.{◌≡◌, ℕ, ◌+◌, ◌-◌, ◌*◌, ◌<◌, ◌≤◌, Bool, true, false, cond, ◌&&◌, List, [], ◌∷◌, ◌++◌, map, length, drop, nat_le, nat_lt, slice_index, slice_index_or, slice_set, refl}
use Rattle.std.proofs.Math.Path.{sym, ap}
use Rattle.std.proofs.Common.{subst, ◌∙◌, append-nil, append_assoc, zero-add, arith, drop_of_length-le, drop-cons}
use Rattle.std.proofs.Math.Numerals.{add-one}
use Rattle.std.proofs.Math.ListN.{length-set}
use Rattle.std.proofs.lemmas.List.Edits.{sets, sets-eq}
use borrow.Author.Tests.{leb-true, le-leb, lt-ltb, le-ltb}
use Rattle.model.specs.Refusals.{good}
use Rattle.document.specs.Superframe.{flat, at_start, row_formed, row_of, lines_fault, rows_of_text, form_fault}
use Rattle.document.specs.Text.{lines, is_digit, all_digits, plain, value_from, value_of, is_number, all_numbers, values_of, tabbed}
use Rattle.laws.specs.SumLaws.{and_l, and_r}
use Rattle.text.specs.Places.{first, more, line}
use Rattle.text.specs.Fields.{fields_parts}
use Rattle.text.specs.DigitsRead.{value_grows}
use Rattle.text.specs.WrittenLines.{line_fields}
use Rattle.text.specs.ReadThenWritten.{joined, each_line, lines_joined, lines_each}
use Rattle.text.specs.TableLines.{row_form, line_passes}

-- the numbers that end in t, where v is the value of the digits just before it
unfoldable pub numbers_left : ℕ → List ℕ → List ℕ
numbers_left v [] = []
numbers_left v (b ∷ t) = cond (nat_lt b 48) (v ∷ numbers_left 0 t) (numbers_left (v * 10 + (b - 48)) t)

-- no value on the way has more than 16 bits
unfoldable pub values_fit : ℕ → List ℕ → Bool
values_fit v [] = true
values_fit v (b ∷ t) = nat_le v 65535 && cond (nat_lt b 48) (values_fit 0 t) (values_fit (v * 10 + (b - 48)) t)

digit_high : (b : ℕ) → is_digit b ≡ true → nat_lt b 48 ≡ false
digit_high b h = le-ltb b 48 (leb-true 48 b (and_l (nat_le 48 b) (nat_lt b 58) h))

-- what stands before t gives these numbers, and its values fit
record Before (v : ℕ) (a ns : List ℕ) (w : ℕ) : Type 0 where
  gives : (t : List ℕ) → numbers_left v (a ++ t) ≡ ns ++ numbers_left w t
  fits : (t : List ℕ) → values_fit v (a ++ t) ≡ values_fit w t

-- digits, and fields with the tab before each and the LF after the last
before_digits : (f : List ℕ) (v : ℕ) → all_digits f ≡ true → value_from v f ≤ 65535 → Before v f [] (value_from v f)
unfolding numbers_left values_fit all_digits value_from
before_digits [] v d h = record { gives = λ t. refl; fits = λ t. refl }
before_digits (b ∷ f) v d h =
    let n = before_digits f (v * 10 + (b - 48)) (and_r (is_digit b) (all_digits f) d) h in
    let z = digit_high b (and_l (is_digit b) (all_digits f) d) in
    let k : v ≤ 65535 = omega (arith, value_grows f (v * 10 + (b - 48))) in
    record { gives = λ t. rw z (n.gives t); fits = λ t. rw (le-leb v 65535 k, z) (n.fits t) }

-- one after the other
before_both : (v : ℕ) (a ns : List ℕ) (w : ℕ) (b ms : List ℕ) (x : ℕ) → Before v a ns w → Before w b ms x → Before v (a ++ b) (ns ++ ms) x
before_both v a ns w b ms x p q =
    record {
      gives = λ t.
          ap (numbers_left v) (append_assoc a b t) ∙ p.gives (b ++ t) ∙ ap (λ (l : List ℕ). ns ++ l) (q.gives t)
          ∙ sym (append_assoc ns ms (numbers_left x t));
      fits = λ t. ap (values_fit v) (append_assoc a b t) ∙ p.fits (b ++ t) ∙ q.fits t;
    }

before_stop : (v b : ℕ) → v ≤ 65535 → b < 48 → Before v (b ∷ []) (v ∷ []) 0
unfolding numbers_left values_fit
before_stop v b h k = record { gives = λ t. rw (lt-ltb b 48 k); fits = λ t. rw (le-leb v 65535 h, lt-ltb b 48 k) }

number_parts : (f : List ℕ) → is_number f ≡ true → (all_digits f ≡ true) × (value_of f ≤ 65535)
unfolding is_number
number_parts f h = (
  and_r (plain f) (all_digits f) (and_l (plain f && all_digits f) (nat_le (value_of f) 65535) h),
  leb-true (value_of f) 65535 (and_r (plain f && all_digits f) (nat_le (value_of f) 65535) h),
)

before_number : (f : List ℕ) → is_number f ≡ true → Before 0 f [] (value_of f)
before_number f h = let p = number_parts f h in before_digits f 0 p.0 p.1

before_tabbed : (fs : List (List ℕ)) (v : ℕ) → all_numbers fs ≡ true → v ≤ 65535 → Before v (tabbed fs) (v ∷ values_of fs) 0
unfolding tabbed values_of all_numbers
before_tabbed [] v h k = before_stop v 10 k (omega arith)
before_tabbed (f ∷ fs) v h k =
    let n = and_l (is_number f) (all_numbers fs) h in
    before_both v (9 ∷ []) (v ∷ []) 0 (f ++ tabbed fs) (value_of f ∷ values_of fs) 0 (before_stop v 9 k (omega arith))
    (before_both 0 f [] (value_of f) (tabbed fs) (value_of f ∷ values_of fs) 0 (before_number f n)
    (before_tabbed fs (value_of f) (and_r (is_number f) (all_numbers fs) h) (number_parts f n).1))

-- a row's line, and the lines of an accepted text
before_row : (l : List ℕ) → line l ≡ l → row_formed l ≡ true → Before 0 l (row_of l) 0
unfolding row_of values_of all_numbers
before_row l e h =
    let f = row_form l h in
    let n : (is_number (first l) && all_numbers (more l)) ≡ true = subst (λ (fs : List (List ℕ)). all_numbers fs ≡ true) (fields_parts l) f.numbers in
    let one = and_l (is_number (first l)) (all_numbers (more l)) n in
    let all =
    before_both 0 (first l) [] (value_of (first l)) (tabbed (more l)) (value_of (first l) ∷ values_of (more l)) 0 (before_number (first l) one)
    (before_tabbed (more l) (value_of (first l)) (and_r (is_number (first l)) (all_numbers (more l)) n) (number_parts (first l) one).1) in
    subst (λ (ns : List ℕ). Before 0 l ns 0) (ap values_of (sym (fields_parts l)))
    (subst (λ (a : List ℕ). Before 0 a (value_of (first l) ∷ values_of (more l)) 0) (sym (line_fields l f.end) ∙ e) all)

before_rows : (ls : List (List ℕ)) (n : ℕ) (q : List ℕ) → each_line ls → good (lines_fault n q ls).refusal ≡ true
    → Before 0 (joined ls) (flat (map row_of ls)) 0
unfolding joined each_line flat
before_rows [] n q e h = record { gives = λ t. refl; fits = λ t. refl }
before_rows (l ∷ ls) n q e h =
    let p = line_passes n q l ls h in
    before_both 0 l (row_of l) 0 (joined ls) (flat (map row_of ls)) 0 (before_row l e.0 p.formed)
    (before_rows ls (n + 1) (row_of l) e.1 p.others)

-- an accepted text has the numbers of its rows
text_numbers : (s : List ℕ) → good (form_fault s).refusal ≡ true → (numbers_left 0 s ≡ flat (rows_of_text s)) × (values_fit 0 s ≡ true)
unfolding numbers_left values_fit
text_numbers s h =
    let b = before_rows (lines s) 1 [] (lines_each s) h in
    let e : joined (lines s) ++ [] ≡ s = append-nil (joined (lines s)) ∙ lines_joined s in (
      ap (numbers_left 0) (sym e) ∙ b.gives [] ∙ append-nil (flat (rows_of_text s)),
      ap (values_fit 0) (sym e) ∙ b.fits [],
    )

-- the storing that has come to this place of the text with i numbers stored, v the value of the digits of the next; new is the table in the end
pub record Storing (s new table : List ℕ) (at i v : ℕ) : Type 0 where
  pub left : sets table i (numbers_left v (drop at s)) ≡ new
  pub room : i + length (numbers_left v (drop at s)) ≤ length table
  pub fits : values_fit v (drop at s) ≡ true

pub storing_start : (s table : List ℕ) → good (form_fault s).refusal ≡ true → length (flat (rows_of_text s)) ≤ length table
    → Storing s (at_start (flat (rows_of_text s)) table) table 0 0 0
storing_start s table h k =
    let n = text_numbers s h in
    let z : 0 + length (flat (rows_of_text s)) ≤ length table = omega arith in
    record {
      left =
          ap (sets table 0) n.0 ∙ sets-eq (flat (rows_of_text s)) table 0 z
          ∙ ap (λ (j : ℕ). flat (rows_of_text s) ++ drop j table) (zero-add (length (flat (rows_of_text s))));
      room = omega (arith, ap length n.0);
      fits = n.1;
    }

pub storing_ends : (s new table : List ℕ) (at i v : ℕ) → Storing s new table at i v → length s ≤ at → table ≡ new
unfolding numbers_left
storing_ends s new table at i v inv h = sym (ap (λ (t : List ℕ). sets table i (numbers_left v t)) (drop_of_length-le s h)) ∙ inv.left

module _ {s new table : List ℕ} {at i v : ℕ} (inv : Storing s new table at i v) (inside : at < length s) where
  here : drop at s ≡ slice_index s at ∷ drop (at + 1) s
  here = rw (add-one, drop-cons s at 0 inside)

  fit : values_fit v (slice_index s at ∷ drop (at + 1) s) ≡ true
  fit = ap (values_fit v) (sym here) ∙ inv.fits

  pub storing_small : v ≤ 65535
  unfolding values_fit
  storing_small = leb-true v 65535 (and_l (nat_le v 65535) _ fit)

  -- the byte ends a number
  module _ (low : slice_index_or s at 0 < 48) where
    ended_here : numbers_left v (drop at s) ≡ v ∷ numbers_left 0 (drop (at + 1) s)
    unfolding numbers_left
    ended_here = ap (numbers_left v) here ∙ rw (lt-ltb (slice_index s at) 48 low)

    pub storing_room : i < length table
    storing_room = omega (arith, inv.room, ap length ended_here)

    pub storing_number : Storing s new (slice_set table i v) (at + 1) (i + 1) 0
    unfolding values_fit
    storing_number =
        record {
          left = rw add-one (ap (sets table i) (sym ended_here) ∙ inv.left);
          room = omega (arith, inv.room, ap length ended_here, length-set table i v);
          fits = sym (rw (lt-ltb (slice_index s at) 48 low)) ∙ and_r (nat_le v 65535) _ fit;
        }

  -- or is its next digit
  pub storing_digit : 48 ≤ slice_index s at → Storing s new table (at + 1) i (v * 10 + (slice_index s at - 48))
  unfolding numbers_left values_fit
  storing_digit high =
      let e : numbers_left v (drop at s) ≡ numbers_left (v * 10 + (slice_index s at - 48)) (drop (at + 1) s) =
      ap (numbers_left v) here ∙ rw (le-ltb (slice_index s at) 48 high) in
      record {
        left = ap (sets table i) (sym e) ∙ inv.left;
        room = omega (arith, inv.room, ap length e);
        fits = sym (rw (le-ltb (slice_index s at) 48 high)) ∙ and_r (nat_le v 65535) _ fit;
      }
