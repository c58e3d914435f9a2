-- A line's fields: a search through them stops at the first that breaks the form, the numbers stand after the word and the nodes after four numbers,
-- and there is at most one field more than bytes.
use Rattle.std.specs.Prelude.{◌≡◌, Bool, cond, ℕ, zero, suc, ◌+◌, ◌-◌, ◌≤◌, ◌<◌, eqb, length, get_or, drop}
use Rattle.std.proofs.Math.Path.{refl}
use Rattle.std.proofs.Common.{sym, ap, ◌∙◌, arith, get_or-drop}
use Rattle.std.proofs.Math.Bool.{true, false}
use mathlib.Core.List.{List, [], ◌∷◌}
use Rattle.std.proofs.Math.Decide.{dec_le}
use Rattle.document.specs.Text.{onto, lines, fields, others_of, value_of, numbers_of}
use Rattle.document.specs.BadField.{first_breaking, nodes_field}
use Rattle.document.specs.Reader.{repeat_at}
use Rattle.document.specs.FieldNamed.{field_at, NeighbourField}
use Rattle.laws.specs.Neighbours.{FirstRepeat, repeat_first}
use Rattle.laws.specs.WrittenNumbers.{values_length, value_at_law}

-- What a search through fields finds, the first of which is field n: one of them that breaks the form, and none before it does; or none at all.
pub record Found (breaks : ℕ → List ℕ → Bool) (n : ℕ) (fs : List (List ℕ)) (it : ℕ) : Type 0 where
  pub from : 1 ≤ it → n ≤ it
  pub below : it < n + length fs
  pub bad : 1 ≤ it → breaks it (get_or fs (it - n) []) ≡ true
  pub first : (i : ℕ) → n ≤ i → i < it → breaks i (get_or fs (i - n) []) ≡ false
  pub none : it ≡ 0 → (i : ℕ) → n ≤ i → i < n + length fs → breaks i (get_or fs (i - n) []) ≡ false

module _ (breaks : ℕ → List ℕ → Bool) where
  -- field i, from field n on
  at_later : (n i : ℕ) (f : List ℕ) (fs : List (List ℕ)) (b : Bool) → suc n ≤ i
      → breaks i (get_or fs (i - suc n) []) ≡ b → breaks i (get_or (f ∷ fs) (i - n) []) ≡ b
  at_later n i f fs b h e = let d : i - n ≡ suc (i - suc n) = omega arith in rw d e

  at_first : (n i : ℕ) (f : List ℕ) (fs : List (List ℕ)) (b : Bool) → i ≡ n → breaks n f ≡ b → breaks i (get_or (f ∷ fs) (i - n) []) ≡ b
  at_first n i f fs b h e = let d : n - n ≡ 0 = omega arith in rw (h, d) e

  pub found : (n : ℕ) (fs : List (List ℕ)) → 1 ≤ n → Found breaks n fs (first_breaking breaks n fs)
  unfolding first_breaking
  found n [] h =
      record {
        from = λ k. absurd (omega arith);
        below = omega arith;
        bad = λ k. absurd (omega arith);
        first = λ i k l. absurd (omega arith);
        none = λ e i k l. absurd (omega arith);
      }
  found n (f ∷ fs) h = go (breaks n f) refl (found (suc n) fs (omega arith))
    where
      go : (b : Bool) → breaks n f ≡ b → Found breaks (suc n) fs (first_breaking breaks (suc n) fs)
          → Found breaks n (f ∷ fs) (cond b n (first_breaking breaks (suc n) fs))
      go true e w =
          record {
            from = λ k. omega arith;
            below = omega arith;
            bad = λ k. at_first n n f fs true refl e;
            first = λ i k l. absurd (omega arith);
            none = λ z i k l. absurd (omega arith);
          }
      go false e w =
          record {
            from = λ k. omega (arith, w.from k);
            below = omega (arith, w.below);
            bad = λ k. at_later n _ f fs true (w.from k) (w.bad k);
            first = λ i k l. elim (dec_le i n) [
              | yes d ↦ at_first n i f fs false (omega arith) e
              | no d ↦ at_later n i f fs false (omega arith) (w.first i (omega arith) l)
            ];
            none = λ z i k l. elim (dec_le i n) [
              | yes d ↦ at_first n i f fs false (omega arith) e
              | no d ↦ at_later n i f fs false (omega arith) (w.none z i (omega arith) (omega arith))
            ];
          }

-- the numbers of a line stand in its fields after the first
others_at : (fs : List (List ℕ)) (i : ℕ) → get_or (others_of fs) i [] ≡ get_or fs (suc i) []
others_at [] i = refl
others_at (f ∷ fs) i = refl

others_length : (fs : List (List ℕ)) → length (others_of fs) ≡ length fs - 1
others_length [] = omega arith
others_length (f ∷ fs) = omega arith

pub numbers_length : (l : List ℕ) → length (numbers_of l) ≡ length (fields l) - 1
unfolding numbers_of
numbers_length l = values_length (others_of (fields l)) ∙ others_length (fields l)

-- the nodes of a flow's line: node i stands in field 6 + i
abbrev pub nodes_in : List ℕ → List ℕ
nodes_in l = drop 4 (numbers_of l)

node_at : (l : List ℕ) (i : ℕ) → value_of (field_at l (nodes_field + i)) ≡ get_or (nodes_in l) i 0
unfolding numbers_of
node_at l i =
    let d : nodes_field + i - 1 ≡ suc (4 + i) = omega arith in
    rw (d, ← (others_at (fields l) (4 + i)), ← (value_at_law (others_of (fields l)) (4 + i))) (sym (get_or-drop 4 (numbers_of l) i 0))

pub neighbour_field : (l : List ℕ) → repeat_at (nodes_in l) < length (nodes_in l) → NeighbourField l (nodes_field + repeat_at (nodes_in l))
neighbour_field l h = go (repeat_at (nodes_in l)) (repeat_first (nodes_in l) h)
  where
    before : (n j : ℕ) → n ≡ nodes_field + j → 1 ≤ j → value_of (field_at l (n - 1)) ≡ get_or (nodes_in l) (j - 1) 0
    before n j e p = let d : n - 1 ≡ nodes_field + (j - 1) = omega arith in rw d (node_at l (j - 1))

    go : (i : ℕ) → FirstRepeat (nodes_in l) i → NeighbourField l (nodes_field + i)
    go i w =
        record {
          later = omega (arith, w.later);
          equal = node_at l i ∙ w.equal ∙ sym (before (nodes_field + i) i refl w.later);
          first = λ n a b e.
              let d : n ≡ nodes_field + (n - nodes_field) = omega arith in
              w.first (n - nodes_field) (omega arith) (omega arith)
              (sym (ap (λ (x : ℕ). value_of (field_at l x)) d ∙ node_at l (n - nodes_field)) ∙ e ∙ before n (n - nodes_field) d (omega arith));
        }

-- A line has at most one field more than bytes, and no more bytes than the text.
pub fields_le : (l : List ℕ) → length (fields l) ≤ length l + 1
unfolding fields
fields_le [] = omega arith
fields_le (b ∷ s) = go (eqb b 10) (eqb b 9) (fields s) (fields_le s)
  where
    go : (x y : Bool) (fs : List (List ℕ)) → length fs ≤ length s + 1 → length (cond x ([] ∷ []) (cond y ([] ∷ fs) (onto b fs))) ≤ length (b ∷ s) + 1
    go true y fs h = omega arith
    go false true fs h = omega arith
    go false false [] h = omega arith
    go false false (f ∷ fs) h = omega arith

pub line_le : (text : List ℕ) (i : ℕ) → length (get_or (lines text) i []) ≤ length text
unfolding lines
line_le [] i = omega arith
line_le (b ∷ s) i = go (eqb b 10) (lines s) i (line_le s)
  where
    go : (x : Bool) (ls : List (List ℕ)) (i : ℕ) → ((j : ℕ) → length (get_or ls j []) ≤ length s)
        → length (get_or (cond x ((b ∷ []) ∷ ls) (onto b ls)) i []) ≤ length (b ∷ s)
    go true ls zero h = omega arith
    go true ls (suc i) h = omega (arith, h i)
    go false [] zero h = omega arith
    go false [] (suc i) h = omega arith
    go false (l ∷ ls) zero h = omega (arith, h 0)
    go false (l ∷ ls) (suc i) h = omega (arith, h (suc i))

-- a text without lines is empty
pub no_lines : (text : List ℕ) → lines text ≡ [] → text ≡ []
unfolding lines
no_lines [] e = refl
no_lines (b ∷ s) e = absurd (omega (arith, go (eqb b 10) (lines s), ap length e))
  where
    go : (x : Bool) (ls : List (List ℕ)) → 0 < length (cond x ((b ∷ []) ∷ ls) (onto b ls))
    go true ls = omega arith
    go false [] = omega arith
    go false (l ∷ ls) = omega arith
