-- The row at a place, for code that goes through a table's lines with a cursor: past a number and its tab the rest of the line is one of fewer
-- numbers, and the last number stands before LF.
use Rattle.std.specs.Prelude.{◌≡◌, ℕ, suc, ◌+◌, ◌<◌, Bool, true, false, cond, ◌&&◌, List, [], ◌∷◌, ◌++◌, length, drop, ◌==◌, ◌≢◌, slice_index, Option, Some, None}
use Rattle.std.proofs.Math.Path.{refl, ap}
use Rattle.std.proofs.Common.{sym, subst, ◌∙◌, append_assoc, arith, drop-drop}
use Rattle.std.proofs.Math.Bool.{and-false}
use Rattle.std.proofs.Math.Dec.{eqb-suc-suc, eqb-suc-zero}
use borrow.Author.Tests.{eqb-true, eqb-false, ne_eqb}
use Rattle.document.specs.Superframe.{row_formed, row_of}
use Rattle.document.specs.Text.{ended, fields, value_of, is_number, all_numbers, values_of}
use Rattle.laws.specs.SumLaws.{and_l, and_r}
use Rattle.text.specs.Places.{first, more, line}
use Rattle.text.specs.NumberAnswers.{same_parts}
use Rattle.text.specs.Fields.{Sep, is_tab, is_lf, within, sep, fields_parts, first_within, Past, past_first}
use Rattle.text.specs.Rows.{drop_byte}
use Rattle.text.specs.EndedNumbers.{end_if, byte_after, byte_front, field_in}

-- what a row's reading answers: its slot and offset with the place of the next line, or nothing where the line lacks the form
abbrev pub found_if : Bool → ℕ → List ℕ → Option (ℕ × ℕ × ℕ)
found_if true from t = Some (slice_index (row_of t) 0, slice_index (row_of t) 3, from + length (line t))
found_if false from t = None

-- the answer to the line that stands at the front of t
unfoldable pub found_in : ℕ → List ℕ → Option (ℕ × ℕ × ℕ)
found_in from t = found_if (row_formed t) from t

-- the number and the values of each case of a row's reading
abbrev pub row_says : Option (ℕ × ℕ × ℕ) → ℕ × List ℕ
row_says (Some (slot, offset, next)) = (0, slot ∷ offset ∷ next ∷ [])
row_says None = (1, [])

-- what these are for the line that stands at the front of t
abbrev pub row_said : ℕ → List ℕ → ℕ × List ℕ
row_said from t = cond (row_formed t) (0, slice_index (row_of t) 0 ∷ slice_index (row_of t) 3 ∷ (from + length (line t)) ∷ []) (1, [])

-- the answer says so
pub row_said_law : {x : Option (ℕ × ℕ × ℕ)} (from : ℕ) (t : List ℕ) → x ≡ found_in from t → row_says x ≡ row_said from t
unfolding found_in
row_said_law from t e = ap row_says e ∙ go (row_formed t)
  where
    go : (b : Bool) → row_says (found_if b from t) ≡ cond b (0, slice_index (row_of t) 0 ∷ slice_index (row_of t) 3 ∷ (from + length (line t)) ∷ []) (1, [])
    go true = refl
    go false = refl

-- the rest of a line has k numbers and its LF
abbrev formed : ℕ → List ℕ → Bool
formed k t = all_numbers (fields t) && length (fields t) == k && ended t

formed_parts : (k : ℕ) (t : List ℕ) → formed (suc k) t ≡ (is_number (first t) && all_numbers (more t) && length (more t) == k && ended t)
unfolding all_numbers
formed_parts k t = rw (fields_parts t, eqb-suc-suc (length (more t)) k)

-- what a number's answer says of the field and the byte after it
pub record FieldReads (t : List ℕ) (stop from v next : ℕ) : Type 0 where
  pub good : is_number (first t) ≡ true
  pub byte : byte_after t ≡ stop
  pub value : v ≡ value_of (first t)
  pub place : next ≡ from + length (first t) + 1

field_reads : (t : List ℕ) (stop from v next : ℕ) → field_in stop from t ≡ Some (v, next) → FieldReads t stop from v next
unfolding field_in
field_reads t stop from v next h = go (is_number (first t) && byte_after t == stop) refl h
  where
    go : (b : Bool) → (is_number (first t) && byte_after t == stop) ≡ b → end_if b (value_of (first t)) (from + length (first t)) ≡ Some (v, next)
        → FieldReads t stop from v next
    go true e h =
        record {
          good = and_l (is_number (first t)) _ e;
          byte = eqb-true (byte_after t) stop (and_r (is_number (first t)) _ e);
          value = sym (same_parts h).0;
          place = sym (same_parts h).1;
        }
    go false e h = absurd (cc)

field_bad : (t : List ℕ) (stop from : ℕ) → field_in stop from t ≡ None → (is_number (first t) && byte_after t == stop) ≡ false
unfolding field_in
field_bad t stop from h = go (is_number (first t) && byte_after t == stop) h
  where
    go : (b : Bool) → end_if b (value_of (first t)) (from + length (first t)) ≡ None → b ≡ false
    go true h = absurd (cc)
    go false h = refl

-- what stands after a field: the text's end, a tab or an LF
data Stop : List ℕ → Type 0 where
  no_more : Stop []
  a_tab : {w : List ℕ} → Stop (9 ∷ w)
  an_lf : {w : List ℕ} → Stop (10 ∷ w)

stop_of : (u : List ℕ) → first u ≡ [] → Stop u
stop_of [] h = no_more
stop_of (b ∷ u) h = go b u (sep b) h
  where
    go : (b : ℕ) (u : List ℕ) → Sep b → first (b ∷ u) ≡ [] → Stop (b ∷ u)
    go b u is_tab h = a_tab
    go b u is_lf h = an_lf
    go b u (within e f) h = absurd (omega (arith, ap length (sym (first_within b u e f) ∙ h)))

stop_after : (t : List ℕ) → Stop (drop (length (first t)) t)
stop_after t = stop_of (drop (length (first t)) t) (past_first t).none

-- past a tab: the other fields are those of the rest
record PastTab (t w : List ℕ) (n : ℕ) : Type 0 where
  others : more t ≡ fields w
  end : ended t ≡ ended w
  size : length (line t) ≡ n + 1 + length (line w)

past_tab : (t : List ℕ) → byte_after t ≡ 9 → PastTab t (drop (length (first t) + 1) t) (length (first t))
unfolding fields ended line
past_tab t h = turn (subst (λ (x : List ℕ). Past t x n) (drop_byte t n 9 h (omega arith)).1 (past_first t))
  where
    n : ℕ
    n = length (first t)

    turn : Past t (9 ∷ drop (n + 1) t) n → PastTab t (drop (n + 1) t) n
    turn q = record { others = sym q.others; end = sym q.end; size = omega (arith, q.size) }

-- before an LF: no other field
record PastLf (t : List ℕ) (n : ℕ) : Type 0 where
  others : more t ≡ []
  end : ended t ≡ true
  size : length (line t) ≡ n + 1

past_lf : (t : List ℕ) → byte_after t ≡ 10 → PastLf t (length (first t))
unfolding fields ended line
past_lf t h = turn (subst (λ (x : List ℕ). Past t x n) (drop_byte t n 10 h (omega arith)).1 (past_first t))
  where
    n : ℕ
    n = length (first t)

    turn : Past t (10 ∷ drop (n + 1) t) n → PastLf t n
    turn q = record { others = sym q.others; end = sym q.end; size = omega (arith, q.size) }

-- without the tab there is no other field, and without the LF another field or no end
no_tab : (t : List ℕ) → (byte_after t ≢ 9) → more t ≡ []
unfolding fields
no_tab t h = go (stop_after t) (past_first t) (λ e. h (sym (byte_front t (length (first t))) ∙ e))
  where
    go : {u : List ℕ} → Stop u → Past t u (length (first t)) → (slice_index u 0 ≢ 9) → more t ≡ []
    go no_more p h = sym p.others
    go a_tab p h = absurd (h refl)
    go an_lf p h = sym p.others

no_lf_law : (t : List ℕ) → (byte_after t ≢ 10) → (length (more t) == 0 && ended t) ≡ false
unfolding fields ended
no_lf_law t h = go (stop_after t) (past_first t) (λ e. h (sym (byte_front t (length (first t))) ∙ e))
  where
    go : {u : List ℕ} → Stop u → Past t u (length (first t)) → (slice_index u 0 ≢ 10) → (length (more t) == 0 && ended t) ≡ false
    go no_more p h = rw (← p.end, and-false (length (more t) == 0))
    go (a_tab {w = w}) p h = rw (← p.others, fields_parts w, eqb-suc-zero (length (more w)))
    go an_lf p h = absurd (h refl)

-- the reading of a row that has come to a place where k of its numbers are left, after those of vs
pub record RowSoFar (s : List ℕ) (from at k : ℕ) (vs : List ℕ) : Type 0 where
  pub form : row_formed (drop from s) ≡ formed k (drop at s)
  pub row : row_of (drop from s) ≡ vs ++ values_of (fields (drop at s))
  pub size : from + length (line (drop from s)) ≡ at + length (line (drop at s))

pub row_start : (s : List ℕ) (from : ℕ) → RowSoFar s from from 4 []
unfolding row_formed row_of
row_start s from = record { form = refl; row = refl; size = refl }

module _ {s : List ℕ} {from at k : ℕ} {vs : List ℕ} (inv : RowSoFar s from at (suc k) vs) where
  split : (v next stop : ℕ) → FieldReads (drop at s) stop at v next → row_of (drop from s) ≡ vs ++ (v ∷ values_of (more (drop at s)))
  unfolding values_of
  split v next stop f = inv.row ∙ ap (λ (fs : List (List ℕ)). vs ++ values_of fs) (fields_parts (drop at s)) ∙ rw f.value

  -- past a number that a tab ends
  pub row_next : (v next : ℕ) → field_in 9 at (drop at s) ≡ Some (v, next) → RowSoFar s from next k (vs ++ (v ∷ []))
  row_next v next h =
      let t = drop at s in
      let f = field_reads t 9 at v next h in
      let p = past_tab t f.byte in
      let z : at + (length (first t) + 1) ≡ next = omega (arith, f.place) in
      let d : drop (length (first t) + 1) t ≡ drop next s = drop-drop (length (first t) + 1) at s ∙ ap (λ (n : ℕ). drop n s) z in
      let o : more t ≡ fields (drop next s) = p.others ∙ ap fields d in
      let e : ended t ≡ ended (drop next s) = p.end ∙ ap ended d in
      let l : length (line (drop (length (first t) + 1) t)) ≡ length (line (drop next s)) = ap (λ (u : List ℕ). length (line u)) d in
      record {
        form = inv.form ∙ formed_parts k t ∙ rw (f.good, o, e);
        row =
            split v next 9 f ∙ ap (λ (fs : List (List ℕ)). vs ++ (v ∷ values_of fs)) o
            ∙ sym (append_assoc vs (v ∷ []) (values_of (fields (drop next s))));
        size = omega (arith, inv.size, p.size, f.place);
      }

  -- a number that is none or lacks its tab, where two or more are left
  pub row_no_tab : 0 < k → field_in 9 at (drop at s) ≡ None → None ≡ found_in from (drop from s)
  unfolding found_in all_numbers
  row_no_tab l h =
      let t = drop at s in
      let b = field_bad t 9 at h in
      rw (inv.form ∙ formed_parts k t ∙ go (is_number (first t)) b)
    where
      go : (x : Bool) → (x && byte_after (drop at s) == 9) ≡ false
          → (x && all_numbers (more (drop at s)) && length (more (drop at s)) == k && ended (drop at s)) ≡ false
      go true e =
          let m = no_tab (drop at s) (λ q. eqb-false _ _ e q) in
          rw (m, ne_eqb 0 k (λ q. omega arith))
      go false e = refl

module _ {s : List ℕ} {from at : ℕ} {vs : List ℕ} (inv : RowSoFar s from at 1 vs) where
  -- the last number, which LF ends
  pub row_ends : (v next : ℕ) → field_in 10 at (drop at s) ≡ Some (v, next)
      → (row_formed (drop from s) ≡ true) × (row_of (drop from s) ≡ vs ++ (v ∷ [])) × (next ≡ from + length (line (drop from s)))
  unfolding all_numbers values_of
  row_ends v next h =
      let t = drop at s in
      let f = field_reads t 10 at v next h in
      let p = past_lf t f.byte in (
        inv.form ∙ formed_parts 0 t ∙ rw (f.good, p.others, p.end),
        split inv v next 10 f ∙ rw p.others,
        omega (arith, inv.size, p.size, f.place),
      )

  pub row_no_lf : field_in 10 at (drop at s) ≡ None → None ≡ found_in from (drop from s)
  unfolding found_in
  row_no_lf h = let t = drop at s in rw (inv.form ∙ formed_parts 0 t ∙ go (is_number (first t)) (all_numbers (more t)) (field_bad t 10 at h))
    where
      go : (x y : Bool) → (x && byte_after (drop at s) == 10) ≡ false → (x && y && length (more (drop at s)) == 0 && ended (drop at s)) ≡ false
      go true true e = no_lf_law (drop at s) (λ q. eqb-false _ _ e q)
      go true false e = refl
      go false y e = refl

pub row_found : (s : List ℕ) (from a b c d next : ℕ)
    → (row_formed (drop from s) ≡ true) × (row_of (drop from s) ≡ a ∷ b ∷ c ∷ d ∷ []) × (next ≡ from + length (line (drop from s)))
    → Some (a, d, next) ≡ found_in from (drop from s)
unfolding found_in
row_found s from a b c d next h = rw (h.0, h.1, h.2)
