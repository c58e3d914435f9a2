-- Laws of the search for a line's bad field: the word is compared byte by byte, then the fields are gone through, each after its tab. What is left of
-- the line from a place on says the rest.
use Rattle.std.specs.Prelude.{◌≡◌, ℕ, zero, suc, ◌+◌, ◌-◌, ◌*◌, ◌<◌, ◌≤◌, Bool, true, false, not, ◌&&◌, ◌||◌, List, [], ◌∷◌, length, take, drop, ◌==◌, ◌≢◌, nat_lt, slice_index, slice_index_or, refl, Option, Some, None}
use Rattle.std.proofs.Common.{sym, ap, ◌∙◌, add-one, arith, length-append, length-drop, take-append-drop, ne_eqb}
use Rattle.std.proofs.Math.Bool.{or-true}
use Rattle.std.proofs.lemmas.Bool.{false≢true}
use Rattle.std.proofs.Math.Seq.{drop-drop, drop-nil}
use Rattle.model.specs.Limits.{most_nodes}
use Rattle.laws.specs.Rounds.{same_eq}
use Rattle.laws.specs.Neighbours.{repeat_le}
use Rattle.laws.specs.Padded.{pad_length}
use Rattle.document.specs.Reader.{repeat_at}
use Rattle.document.specs.Text.{set_word, same, fields, is_number}
use Rattle.document.specs.BadField.{breaks_form, breaks_flow, breaks_first, first_breaking, bad_field}
use Rattle.text.specs.Places.{first, more, look_at}
use Rattle.text.specs.declared.line.Row.{Row}
use Rattle.text.specs.RowFaults.{nodes_of, row_repeat}
use Rattle.text.specs.NumberAnswers.{number_in}
use Rattle.text.specs.Fields.{Sep, is_tab, is_lf, within, sep, fields_parts, first_within, Past, past_first}
use Rattle.text.specs.DigitsRead.{Look, at_end, at_tab, at_lf, other, digit, look}
use Rattle.text.specs.Rows.{drop_byte, NumberReads, number_value_law, number_bad, is_byte, begins, starts, drop_one, word_in, word_stands, word_lacks}

-- a field is this word: its first byte, and the rest
same_byte : (c : ℕ) (w t : List ℕ) → same (first t) (c ∷ w) ≡ (begins c t && same (first (drop 1 t)) w)
unfolding fields same begins
same_byte c w [] = refl
same_byte c w (b ∷ t) = go b t (sep b)
  where
    go : (b : ℕ) (t : List ℕ) → Sep b → same (first (b ∷ t)) (c ∷ w) ≡ (is_byte b c && same (first t) w)
    go b t is_tab = refl
    go b t is_lf = refl
    go b t (within e f) = rw (e, f, fields_parts t)

-- its bytes one by one, and then the field ends
same_word : (w t : List ℕ) → same (first t) w ≡ (starts w t && same (first (drop (length w) t)) [])
unfolding starts
same_word [] t = refl
same_word (c ∷ w) t = same_byte c w t ∙ go (begins c t) (same_word w (drop 1 t)) (drop_one (length w) t)
  where
    go : (b : Bool) → same (first (drop 1 t)) w ≡ (starts w (drop 1 t) && same (first (drop (length w) (drop 1 t))) [])
        → drop (suc (length w)) t ≡ drop (length w) (drop 1 t)
        → (b && same (first (drop 1 t)) w) ≡ (b && starts w (drop 1 t) && same (first (drop (suc (length w)) t)) [])
    go true h e = rw e h
    go false h e = refl

-- a field ends where a tab, an LF or the text's end stands
ends_here : (t : List ℕ) → (look_at t == 10) ≡ same (first t) []
unfolding fields same
ends_here t = go (look t)
  where
    more_bytes : (b : ℕ) (t : List ℕ) → (b == 10) ≡ false → (b == 9) ≡ false → false ≡ same (first (b ∷ t)) []
    more_bytes b t f g = sym (ap (λ (x : List ℕ). same x []) (first_within b t f g))

    go : {t : List ℕ} {n : ℕ} → Look t n → (n == 10) ≡ same (first t) []
    go at_end = refl
    go at_tab = refl
    go at_lf = refl
    go (other {b = b} {t = t} d f g) = more_bytes b t f g
    go (digit {b = b} {t = t} d f g k) = ne_eqb (b - 48) 10 (λ q. omega arith) ∙ more_bytes b t f g

-- where the word stands, the field is it if it ends there
pub word_field : (s w : List ℕ) (from at : ℕ) → Some at ≡ word_in w from (drop from s) → (look_at (drop at s) == 10) ≡ same (first (drop from s)) w
word_field s w from at h =
    let p = word_stands w from at (drop from s) h in
    rw (same_word w (drop from s), p.0, drop-drop (length w) from s, ← p.1) (ends_here (drop at s))

pub no_word_field : (s w : List ℕ) (from : ℕ) → None ≡ word_in w from (drop from s) → false ≡ same (first (drop from s)) w
no_word_field s w from h = sym (same_word w (drop from s) ∙ rw (word_lacks w from (drop from s) h))

-- the place behind a word that stands at this place
pub record WordEnds (s w : List ℕ) (at : ℕ) : Type 0 where
  pub within : length w ≤ length s - at
  pub ends : first (drop (at + length w) s) ≡ []
  pub others : more (drop (at + length w) s) ≡ more (drop at s)

-- a field is no longer than its text
first_fits : (t : List ℕ) → length (first t) ≤ length t
unfolding fields
first_fits [] = omega arith
first_fits (b ∷ t) = go b t (first_fits t) (sep b)
  where
    go : (b : ℕ) (t : List ℕ) → length (first t) ≤ length t → Sep b → length (first (b ∷ t)) ≤ length (b ∷ t)
    go b t h is_tab = omega arith
    go b t h is_lf = omega arith
    go b t h (within e f) = rw (first_within b t e f) (omega arith)

pub word_ends : (s w : List ℕ) (at : ℕ) → same (first (drop at s)) w ≡ true → WordEnds s w at
word_ends s w at h =
    let e = same_eq (first (drop at s)) w h in
    let p = past_first (drop at s) in
    let z : drop (at + length w) s ≡ drop (length (first (drop at s))) (drop at s) = rw (e, drop-drop (length w) at s) in
    record {
      within = omega (arith, ap length e, first_fits (drop at s), length-drop at s);
      ends = ap first z ∙ p.none;
      others = ap more z ∙ p.others;
    }

-- the first field of a line breaks its form, or the search goes on behind it
pub breaking_word : (breaks : ℕ → List ℕ → Bool) (t : List ℕ) → breaks 1 (first t) ≡ true → 1 ≡ bad_field breaks t
unfolding first_breaking
breaking_word breaks t h = rw (fields_parts t, h)

pub breaking_numbers : (breaks : ℕ → List ℕ → Bool) (t : List ℕ) → breaks 1 (first t) ≡ false → first_breaking breaks 2 (more t) ≡ bad_field breaks t
unfolding first_breaking
breaking_numbers breaks t h = rw (fields_parts t, h)

-- where a field ends: a tab and the next field, or no field more
more_tab : (t : List ℕ) → more (9 ∷ t) ≡ first t ∷ more t
unfolding fields
more_tab t = fields_parts t

more_none : (s : List ℕ) (i : ℕ) → first (drop i s) ≡ [] → (slice_index s i ≢ 9) → more (drop i s) ≡ []
unfolding fields
more_none [] i e h = ap more (drop-nil i)
more_none (b ∷ s) (suc i) e h = more_none s i e h
more_none (b ∷ s) zero e h = go b s (sep b) e h
  where
    go : (b : ℕ) (s : List ℕ) → Sep b → first (b ∷ s) ≡ [] → (b ≢ 9) → more (b ∷ s) ≡ []
    go b s is_tab e h = absurd (h refl)
    go b s is_lf e h = refl
    go b s (within f g) e h = let z : ◌≡◌ {A = ℕ} (suc (length (first s))) 0 = ap length (sym (first_within b s f g) ∙ e) in absurd (omega arith)

-- a number has a byte
number_long : (f : List ℕ) → is_number f ≡ true → 0 < length f
unfolding is_number
number_long [] h = absurd (false≢true h)
number_long (b ∷ f) h = omega arith

-- the field after the tab at place i is a number, and ends at this place
pub record FieldRead (s : List ℕ) (i next : ℕ) : Type 0 where
  pub good : is_number (first (drop (i + 1) s)) ≡ true
  pub ends : first (drop next s) ≡ []
  pub others : more (drop next s) ≡ more (drop (i + 1) s)
  pub on : i + 2 ≤ next

-- that field is the first that breaks the form, or the search goes on behind it
module _ (s : List ℕ) (i : ℕ) (tab_is : slice_index_or s i 0 ≡ 9) where
  pub tab_inside : i < length s
  tab_inside = (drop_byte s i 9 tab_is (omega arith)).0

  field_here : more (drop i s) ≡ first (drop (i + 1) s) ∷ more (drop (i + 1) s)
  field_here = ap more (drop_byte s i 9 tab_is (omega arith)).1 ∙ more_tab (drop (i + 1) s)

  pub breaking_here : (breaks : ℕ → List ℕ → Bool) (n : ℕ) → breaks n (first (drop (i + 1) s)) ≡ true → first_breaking breaks n (more (drop i s)) ≡ n
  unfolding first_breaking
  breaking_here breaks n h = rw (field_here, h)

  pub breaking_on : (breaks : ℕ → List ℕ → Bool) (n next : ℕ) → FieldRead s i next → breaks n (first (drop (i + 1) s)) ≡ false
      → first_breaking breaks n (more (drop i s)) ≡ first_breaking breaks (suc n) (more (drop next s))
  unfolding first_breaking
  breaking_on breaks n next r h = rw (field_here, h, r.others)

-- no field is left
pub breaking_none : (breaks : ℕ → List ℕ → Bool) (n : ℕ) (s : List ℕ) (i : ℕ) → first (drop i s) ≡ [] → (slice_index s i ≢ 9)
    → first_breaking breaks n (more (drop i s)) ≡ 0
unfolding first_breaking
breaking_none breaks n s i e h = rw (more_none s i e h)

-- the field after the tab at place i, whose reading as a number says x
pub record NextField (s : List ℕ) (i : ℕ) (x : Option (ℕ × ℕ)) : Type 0 where
  pub tab_is : slice_index_or s i 0 ≡ 9
  pub says : x ≡ number_in (i + 1) (first (drop (i + 1) s))

module _ {s : List ℕ} {i : ℕ} {x : Option (ℕ × ℕ)} (a : NextField s i x) where
  pub field_bad : x ≡ None → is_number (first (drop (i + 1) s)) ≡ false
  field_bad h = number_bad (i + 1) (first (drop (i + 1) s)) (sym a.says ∙ h)

  pub field_read : (v next : ℕ) → x ≡ Some (v, next) → FieldRead s i next
  field_read v next h = go (number_value_law (i + 1) (first t) v next (sym a.says ∙ h)) (past_first t)
    where
      t : List ℕ
      t = drop (i + 1) s

      go : NumberReads (first t) (i + 1) v next → Past t (drop (length (first t)) t) (length (first t)) → FieldRead s i next
      go r p =
          let e : drop next s ≡ drop (length (first t)) t = rw (r.place, drop-drop (length (first t)) (i + 1) s) in
          record {
            good = r.good;
            ends = ap first e ∙ p.none;
            others = ap more e ∙ p.others;
            on = omega (arith, r.place, number_long (first t) r.good);
          }

-- the search in a flow line that has come to place i, where field n ends
pub record FieldsSoFar (s : List ℕ) (from n i : ℕ) : Type 0 where
  pub left : first_breaking breaks_flow 2 (more (drop from s)) ≡ first_breaking breaks_flow (suc n) (more (drop i s))
  pub ends : first (drop i s) ≡ []
  pub later : 1 ≤ n
  pub slow : 2 * n ≤ i + 2

pub fields_start : (s : List ℕ) (from : ℕ) → first (drop from s) ≡ [] → FieldsSoFar s from 1 from
fields_start s from e = record { left = refl; ends = e; later = omega arith; slow = omega arith }

module _ {s : List ℕ} {from n i : ℕ} (inv : FieldsSoFar s from n i) where
  breaks_later : (f : List ℕ) → breaks_flow (suc n) f ≡ not (is_number f)
  breaks_later f = rw (ne_eqb (suc n) 1 (λ q. omega (arith, inv.later)))

  pub fields_inside : slice_index_or s i 0 ≡ 9 → i < length s
  fields_inside e = tab_inside s i e

  pub fields_done : (slice_index s i ≢ 9) → 0 ≡ first_breaking breaks_flow 2 (more (drop from s))
  fields_done h = sym (inv.left ∙ breaking_none breaks_flow (suc n) s i inv.ends h)

  module _ {x : Option (ℕ × ℕ)} (a : NextField s i x) where
    pub fields_bad : x ≡ None → n + 1 ≡ first_breaking breaks_flow 2 (more (drop from s))
    fields_bad h = rw add-one (sym (inv.left ∙ breaking_here s i a.tab_is breaks_flow (suc n) (breaks_later _ ∙ ap not (field_bad a h))))

    pub fields_more : (v next : ℕ) → x ≡ Some (v, next) → FieldsSoFar s from (n + 1) next
    fields_more v next h =
        let r = field_read a v next h in
        record {
          left = rw add-one (inv.left ∙ breaking_on s i a.tab_is breaks_flow (suc n) next r (breaks_later _ ∙ ap not r.good));
          ends = r.ends;
          later = omega arith;
          slow = omega (arith, inv.slow, r.on);
        }

-- the first line behind its word: a field that is no number, a field too many, or the number alone
module _ {s : List ℕ} {from : ℕ} {x : Option (ℕ × ℕ)} (a : NextField s from x) where
  pub map_bad : x ≡ None → 2 ≡ first_breaking breaks_first 2 (more (drop from s))
  map_bad h = sym (breaking_here s from a.tab_is breaks_first 2 (ap (λ (b : Bool). not b || nat_lt 2 2) (field_bad a h)))

  module _ (v next : ℕ) (h : x ≡ Some (v, next)) where
    past_map : first_breaking breaks_first 2 (more (drop from s)) ≡ first_breaking breaks_first 3 (more (drop next s))
    past_map = let r = field_read a v next h in breaking_on s from a.tab_is breaks_first 2 next r (ap (λ (b : Bool). not b || nat_lt 2 2) r.good)

    pub map_surplus : slice_index_or s next 0 ≡ 9 → 3 ≡ first_breaking breaks_first 2 (more (drop from s))
    map_surplus e = sym (past_map ∙ breaking_here s next e breaks_first 3 (or-true (breaks_form set_word 3 (first (drop (next + 1) s)))))

    pub map_alone : (slice_index s next ≢ 9) → 0 ≡ first_breaking breaks_first 2 (more (drop from s))
    map_alone e = sym (past_map ∙ breaking_none breaks_first 3 s next (field_read a v next h).ends e)

-- a row's repeat stands among the nodes that the array holds; a row of fewer than four numbers has no nodes
pub repeat_fits : (r : Row) → row_repeat (Some r) ≤ most_nodes
repeat_fits r =
    let l = nodes_of r.numbers in
    let n = r.count - 4 in
    omega (
      arith,
      repeat_le (take n l),
      length-append (take n l) (drop n l),
      ap length (take-append-drop n l),
      pad_length most_nodes (drop 4 r.numbers),
    )

pub repeat_short : (r : Row) → r.count < 4 → 0 ≡ row_repeat (Some r)
unfolding repeat_at
repeat_short r h = let z : r.count - 4 ≡ 0 = omega arith in rw z
