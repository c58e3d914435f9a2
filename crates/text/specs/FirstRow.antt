-- Laws of the first line: its row says of it what the definitions say of the line itself, and the flows' lines give the rest.
use Rattle.std.specs.Prelude.{◌≡◌, ℕ, Bool, true, false, cond, ◌&&◌, List, [], ◌∷◌, length, drop, ◌==◌, slice_index, Option, Some, None, Ok, Err, refl}
use Rattle.std.proofs.Common.{sym, ap, ◌∙◌, arith, ne_eqb}
use Rattle.model.specs.declared.kinds.FlowSet.{FlowSet}
use Rattle.model.specs.declared.answers.Refusal.{Refusal}
use Rattle.model.specs.declared.answers.Refusal.TheVariants.{BadForm}
use Rattle.model.specs.Refusals.{good, fault_in}
use Rattle.document.specs.BadField.{field_of}
use Rattle.document.specs.Reader.{map_fault, first_line_fault, first_line_field, refused_reading, read_flows, set_of, read_lines, read_text}
use Rattle.model.specs.Sets.{blank_set}
use Rattle.document.specs.Text.{set_word, same, lines, fields, well_formed, numbers_of}
use Rattle.laws.specs.SumLaws.{and_l}
use Rattle.laws.specs.LinesRead.{first_good, first_bad_law}
use Rattle.text.specs.Places.{line, after}
use Rattle.text.specs.Fields.{lines_line, fields_line, formed_line, numbers_line, drop_line}
use Rattle.text.specs.declared.line.Row.{Row}
use Rattle.text.specs.Row.{most_numbers, row_if, row_in}
use Rattle.text.specs.RowFaults.{first_row_fault, first_bad}
use Rattle.text.specs.PaddedEntries.{pad_at}
use Rattle.text.specs.RowFaults.{set_with, first_read}
use Rattle.text.specs.FlowRows.{formed_first, row_formed_law, row_ok, row_err, same_row}

pub first_judged : (from : ℕ) (t : List ℕ) → first_row_fault (row_in set_word from t) ≡ first_line_fault (line t)
unfolding row_in first_line_fault
first_judged from t = rw (formed_line set_word t, numbers_line t) (go (well_formed set_word t))
  where
    go : (b : Bool) → first_row_fault (row_if b from t) ≡ cond (b && length (numbers_of t) == 1) (map_fault (slice_index (numbers_of t) 0)) BadForm
    go true = rw (pad_at most_numbers (numbers_of t) 0 (omega arith))
    go false = refl

-- and its field
first_field : (b : ℕ) (t : List ℕ) (x : Refusal) → x ≡ first_line_fault (line (b ∷ t)) → field_of x (first_bad (b ∷ t)) 0 ≡ first_line_field (line (b ∷ t))
unfolding first_line_field
first_field b t x e = rw (← e, fields_line (b ∷ t), ne_eqb (length (b ∷ t)) 0 (λ q. omega arith))

-- a first line that no rule refuses
pub first_formed : (l : List ℕ) → good (first_line_fault l) ≡ true → well_formed set_word l ≡ true
unfolding first_line_fault
first_formed l h = and_l (well_formed set_word l) _ (formed_first (well_formed set_word l && length (numbers_of l) == 1) _ h).0

-- the whole reading, from the first line's row and its refusal
pub first_lines : (b : ℕ) (t : List ℕ) → read_text (b ∷ t) ≡ read_lines (line (b ∷ t) ∷ lines (after (b ∷ t)))
unfolding read_text
first_lines b t = ap read_lines (lines_line b t)

first_row_none : (o : Option Row) → o ≡ None → good (first_row_fault o) ≡ false
first_row_none o e = rw e

refused_at : (s : List ℕ) (x : Refusal) → x ≡ first_row_fault (row_in set_word 0 s) → good x ≡ false → (f : ℕ) → f ≡ field_of x (first_bad s) 0
    → refused_reading x 1 f ≡ read_text s
unfolding read_text read_lines lines row_in well_formed fields same
refused_at [] x q b f p = rw p (ap (λ (y : Refusal). refused_reading y 1 (field_of y 0 0)) q)
refused_at (c ∷ t) x q b f p =
    let j = q ∙ first_judged 0 (c ∷ t) in
    sym
    (first_lines c t ∙ first_bad_law (line (c ∷ t)) _ (ap good (sym j) ∙ b)
    ∙ rw (sym (first_field c t x j) ∙ sym p, ← j))

pub first_refused : (s : List ℕ) (x : Refusal) → Err x ≡ first_read (row_in set_word 0 s)
    → (f : ℕ) → f ≡ field_of x (first_bad s) 0 → (u : FlowSet) → u ≡ blank_set → record { fault = fault_in x 1 f; set = u } ≡ read_text s
first_refused s x h f p u v =
    let q = row_err _ _ (row_in set_word 0 s) x (first_row_none (row_in set_word 0 s)) h in
    ap (λ (t : FlowSet). record { fault = fault_in x 1 f; set = t }) v ∙ refused_at s x q.0 (ap good q.0 ∙ q.1) f p

read_on : (s : List ℕ) (w : Row) → row_in set_word 0 s ≡ Some w → good (first_row_fault (row_in set_word 0 s)) ≡ true
    → read_flows (set_with (slice_index w.numbers 0)) (lines (drop w.next s)) ≡ read_text s
unfolding set_of row_in well_formed fields same
read_on [] w q b = absurd (cc)
read_on (c ∷ t) w q b =
    let g : good (first_line_fault (line (c ∷ t))) ≡ true = ap good (sym (first_judged 0 (c ∷ t))) ∙ b in
    let f = first_formed (line (c ∷ t)) g in
    let r = same_row (sym q ∙ row_formed_law set_word 0 (c ∷ t) (sym (formed_line set_word (c ∷ t)) ∙ f)) in
    sym
    (first_lines c t ∙ first_good (line (c ∷ t)) _ g
    ∙ rw (sym r, pad_at most_numbers (numbers_of (c ∷ t)) 0 (omega arith), numbers_line (c ∷ t), drop_line (c ∷ t) 0))

pub first_accepted : (s : List ℕ) (w : Row) → Ok w ≡ first_read (row_in set_word 0 s)
    → read_flows (set_with (slice_index w.numbers 0)) (lines (drop w.next s)) ≡ read_text s
first_accepted s w h = let p = row_ok _ _ (row_in set_word 0 s) w h in read_on s w p.0 p.1
