-- A table's lines judged one after the other: what is left of them, after the row before, says the rest.
use Rattle.std.specs.Prelude.{◌≡◌, ℕ, suc, ◌+◌, ◌*◌, ◌<◌, ◌≤◌, Bool, true, false, cond, ◌&&◌, ◌||◌, List, [], ◌∷◌, length, drop, ◌==◌, nat_le, nat_lt, slice_index, Option, Some, None, Result, Ok, Err}
use Rattle.std.proofs.Math.Path.{refl, sym, ap}
use Rattle.std.proofs.Common.{◌∙◌, zero-le, arith, length-drop, drop_of_length-le, drop-cons, ltb-true, ltb-false, eqb-true, le-leb}
use Rattle.std.proofs.Math.Bool.{and-false}
use Rattle.std.proofs.lemmas.Bool.{eqb-false, lt-leb}
use Rattle.model.specs.declared.answers.Fault.{Fault}
use Rattle.model.specs.declared.answers.Refusal.TheVariants.{BadForm}
use Rattle.model.specs.Refusals.{good, fault_at, no_fault}
use Rattle.document.specs.Superframe.{row_formed, row_of, above, lines_fault, form_fault}
use Rattle.document.specs.Text.{lines, fields, values_of}
use Rattle.laws.specs.WrittenNumbers.{values_length}
use Rattle.text.specs.Places.{line, after}
use Rattle.text.specs.Fields.{lines_line, fields_line, ended_line, drop_line}
use Rattle.text.specs.FlowRows.{line_one}
use Rattle.text.specs.WrittenLines.{small_at, values_small}
use Rattle.text.specs.TableLines.{row_form}
use Rattle.text.specs.RowAtPlace.{found_if, found_in}

-- slot and offset as one number, which rises as they do
abbrev pub key_of : ℕ → ℕ → ℕ
key_of slot offset = slot * 65536 + offset

-- the least key that is above row q
abbrev Least : List ℕ → ℕ → Type 0
Least q least = (r : List ℕ) → slice_index r 3 ≤ 65535 → above q r ≡ nat_le least (key_of (slice_index r 0) (slice_index r 3))

least_none : Least [] 0
unfolding above
least_none r h = sym (le-leb 0 (key_of (slice_index r 0) (slice_index r 3)) zero-le)

least_after : (q : List ℕ) → length q ≡ 4 → slice_index q 3 ≤ 65535 → Least q (key_of (slice_index q 0) (slice_index q 3) + 1)
unfolding above
least_after [] e h r k = absurd (omega arith)
least_after (t ∷ q) e h r k = go t (slice_index q 2) (slice_index r 0) (slice_index r 3) h k (nat_lt t _) (t == _) (nat_lt (slice_index q 2) _) refl refl refl
  where
    go : (t o a b : ℕ) → o ≤ 65535 → b ≤ 65535 → (x y z : Bool) → nat_lt t a ≡ x → (t == a) ≡ y → nat_lt o b ≡ z
        → (x || (y && z)) ≡ nat_le (key_of t o + 1) (key_of a b)
    go t o a b h k true y z p q r = sym (le-leb (key_of t o + 1) (key_of a b) (omega (arith, ltb-true)))
    go t o a b h k false true true p q r = sym (le-leb (key_of t o + 1) (key_of a b) (omega (arith, ltb-true, eqb-true)))
    go t o a b h k false true false p q r = sym (lt-leb (key_of t o + 1) (key_of a b) (omega (arith, ltb-false, eqb-true)))
    go t o a b h k false false z p q r = let n = eqb-false t a q in sym (lt-leb (key_of t o + 1) (key_of a b) (omega (arith, ltb-false)))

-- a line has the form and the row of the text that it begins
row_line : (t : List ℕ) → (row_formed (line t) ≡ row_formed t) × (row_of (line t) ≡ row_of t)
unfolding row_formed row_of
row_line t = (rw (fields_line t, ended_line t), rw (fields_line t))

-- the numbers of a line of the form
pub record RowNumbers (r : List ℕ) : Type 0 where
  pub four : length r ≡ 4
  pub fit : (i : ℕ) → slice_index r i ≤ 65535

pub row_numbers_law : (l : List ℕ) → row_formed l ≡ true → RowNumbers (row_of l)
unfolding row_of
row_numbers_law l h =
    let f = row_form l h in
    record { four = values_length (fields l) ∙ f.four; fit = λ i. small_at (values_of (fields l)) i (values_small (fields l) f.numbers) }

-- the judging that has come to this place with so many rows, and takes no key below the least
pub record Judging (s : List ℕ) (at rows least : ℕ) : Type 0 where
  pub prev : List ℕ
  pub left : form_fault s ≡ lines_fault (rows + 1) prev (lines (drop at s))
  pub count : rows + length (lines (drop at s)) ≡ length (lines s)
  pub order : Least prev least
  pub slow : rows ≤ at

pub judging_start : (s : List ℕ) → Judging s 0 0 0
judging_start s = record { prev = []; left = refl; count = omega arith; order = least_none; slow = zero-le }

-- what the answer says of a line that has it
record FoundRow (t : List ℕ) (from slot offset next : ℕ) : Type 0 where
  formed : row_formed t ≡ true
  first : slot ≡ slice_index (row_of t) 0
  last : offset ≡ slice_index (row_of t) 3
  place : next ≡ from + length (line t)

found_row : (t : List ℕ) (from slot offset next : ℕ) → found_in from t ≡ Some (slot, offset, next) → FoundRow t from slot offset next
unfolding found_in
found_row t from slot offset next h = go (row_formed t) refl h
  where
    parts : {a b c d e f : ℕ} → ◌≡◌ {A = Option (ℕ × ℕ × ℕ)} (Some (a, b, c)) (Some (d, e, f)) → (a ≡ d) × (b ≡ e) × (c ≡ f)
    parts {a} {b} {c} {d} {e} {f} h =
        let p : ◌≡◌ {A = ℕ × ℕ × ℕ} (a, b, c) (d, e, f) = (cc) in
        (ap (λ (x : ℕ × ℕ × ℕ). x.0) p, ap (λ (x : ℕ × ℕ × ℕ). x.1) p, ap (λ (x : ℕ × ℕ × ℕ). x.2) p)

    go : (b : Bool) → row_formed t ≡ b → found_if b from t ≡ Some (slot, offset, next) → FoundRow t from slot offset next
    go true e h = let p = parts h in record { formed = e; first = sym p.0; last = sym p.1; place = sym p.2 }
    go false e h = absurd (cc)

-- the judging at its next line, whose reading says x
pub record NextRow (s : List ℕ) (at rows least : ℕ) (x : Option (ℕ × ℕ × ℕ)) : Type 0 where
  pub so_far : Judging s at rows least
  pub inside : at < length s
  pub says : x ≡ found_in at (drop at s)

module _ {s : List ℕ} {at rows least : ℕ} {x : Option (ℕ × ℕ × ℕ)} (n : NextRow s at rows least x) where
  next : lines (drop at s) ≡ line (drop at s) ∷ lines (after (drop at s))
  next = rw (drop-cons s at 0 n.inside) (lines_line (slice_index s at) (drop (suc at) s))

  judged : (b : Bool) → (row_formed (drop at s) && above n.so_far.prev (row_of (drop at s))) ≡ b
      → form_fault s ≡ cond b (lines_fault (rows + 1 + 1) (row_of (drop at s)) (lines (after (drop at s)))) (fault_at BadForm (rows + 1))
  unfolding lines_fault
  judged b e =
      let r = row_line (drop at s) in n.so_far.left ∙ ap (lines_fault (rows + 1) n.so_far.prev) next ∙ rw (r.0, r.1, e)

  -- a line that lacks the form
  pub row_refused : x ≡ None → fault_at BadForm (rows + 1) ≡ form_fault s
  unfolding found_in
  row_refused h = sym (judged false (go (row_formed (drop at s)) (sym n.says ∙ h)))
    where
      go : (b : Bool) → found_if b at (drop at s) ≡ None → (b && above n.so_far.prev (row_of (drop at s))) ≡ false
      go true e = absurd (cc)
      go false e = refl

  -- a row, its key tested against the least
  module _ (slot offset p : ℕ) (h : x ≡ Some (slot, offset, p)) where
    reads : FoundRow (drop at s) at slot offset p
    reads = found_row (drop at s) at slot offset p (sym n.says ∙ h)

    tested : above n.so_far.prev (row_of (drop at s)) ≡ nat_le least (key_of slot offset)
    tested =
        n.so_far.order (row_of (drop at s)) ((row_numbers_law (drop at s) reads.formed).fit 3)
        ∙ rw (← reads.first, ← reads.last)

    pub row_low : key_of slot offset < least → fault_at BadForm (rows + 1) ≡ form_fault s
    row_low l = sym (judged false (rw (tested, lt-leb least (key_of slot offset) l, and-false (row_formed (drop at s)))))

    pub row_further : at < p
    row_further = omega (arith, reads.place, line_one (drop at s) (omega (arith, length-drop at s, n.inside)))

    pub row_passes : least ≤ key_of slot offset → Judging s p (rows + 1) (key_of slot offset + 1)
    row_passes l =
        let r = reads in
        let g = row_numbers_law (drop at s) r.formed in
        let d : drop p s ≡ after (drop at s) = ap (λ (i : ℕ). drop i s) r.place ∙ drop_line s at in
        record {
          prev = row_of (drop at s);
          left =
              judged true (rw (r.formed, tested, le-leb least (key_of slot offset) l))
              ∙ ap (λ (t : List ℕ). lines_fault (rows + 1 + 1) (row_of (drop at s)) (lines t)) (sym d);
          count = omega (arith, n.so_far.count, ap length next, ap (λ (t : List ℕ). length (lines t)) d);
          order = rw (r.first, r.last) (least_after (row_of (drop at s)) g.four (g.fit 3));
          slow = omega (arith, n.so_far.slow, row_further);
        }

pub judging_ends : (s : List ℕ) (at rows least : ℕ) → Judging s at rows least → length s ≤ at → (no_fault ≡ form_fault s) × (rows ≡ length (lines s))
unfolding lines lines_fault
judging_ends s at rows least inv h =
    let d = drop_of_length-le s h in (
      sym (inv.left ∙ ap (λ (t : List ℕ). lines_fault (rows + 1) inv.prev (lines t)) d),
      omega (arith, inv.count, ap (λ (t : List ℕ). length (lines t)) d),
    )

-- what is judged of a text: how many lines it has, or its fault
unfoldable pub judges : List ℕ → Result ℕ Fault
judges s = cond (good (form_fault s).refusal) (Ok (length (lines s))) (Err (form_fault s))

pub judges_bad : (s : List ℕ) (rows : ℕ) → fault_at BadForm (rows + 1) ≡ form_fault s → Err (fault_at BadForm (rows + 1)) ≡ judges s
unfolding judges
judges_bad s rows f = rw (← f)

pub judges_good : (s : List ℕ) (rows : ℕ) → (no_fault ≡ form_fault s) × (rows ≡ length (lines s)) → Ok rows ≡ judges s
unfolding judges
judges_good s rows h = rw (← h.0, h.1)

pub judges_ok : (s : List ℕ) (rows : ℕ) → Ok rows ≡ judges s → (good (form_fault s).refusal ≡ true) × (rows ≡ length (lines s))
unfolding judges
judges_ok s rows h = go (good (form_fault s).refusal) h
  where
    go : (b : Bool) → Ok rows ≡ cond b (Ok (length (lines s))) (Err (form_fault s)) → (b ≡ true) × (rows ≡ length (lines s))
    go true e = (refl, (cc))
    go false e = absurd (cc)

pub judges_err : (s : List ℕ) (f : Fault) → Err f ≡ judges s → (good (form_fault s).refusal ≡ false) × (f ≡ form_fault s)
unfolding judges
judges_err s f h = go (good (form_fault s).refusal) h
  where
    go : (b : Bool) → Err f ≡ cond b (Ok (length (lines s))) (Err (form_fault s)) → (b ≡ false) × (f ≡ form_fault s)
    go true e = absurd (cc)
    go false e = (refl, (cc))
