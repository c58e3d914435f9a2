-- Request 2, theorem 5: a table's rows and their lines, each of which gives the other back. The rows of a rising table of 16-bit numbers are read
-- again as they were written, and an accepted text is written again with the same bytes.
use mathlib.Core.{Path.{◌≡◌, refl, sym, ap, subst, ◌∙◌}, Bool.{Bool, true, false, ◌&&◌, cond, false≢true}, List.{List, [], ◌∷◌, ◌++◌, map}}
use Rattle.std.specs.Prelude.{ℕ, suc, ◌+◌, ◌≤◌}
use Rattle.std.proofs.Common.{arith}
use lib.{Dec.{eqb, leb}, ListN.{length, get_or}}
use Rattle.std.proofs.Common.{eqb-true}
use Rattle.model.specs.declared.answers.Refusal.TheVariants.{BadForm}
use Rattle.model.specs.Refusals.{good, fault_at, no_fault}
use Rattle.document.specs.Text.{same, lines, ended, fields, is_number, all_numbers, values_of, well_formed, decimal, decimals, line_of}
use Rattle.document.specs.Superframe.{row_line, row_lines, row_formed, row_of, above, rising_from, lines_fault, SixteenBits, LinesAgain}
use Rattle.laws.specs.SumLaws.{and_l, and_r}
use Rattle.laws.specs.WrittenNumbers.{decimal_digits}
use Rattle.text.specs.Places.{first, more, line}
use Rattle.text.specs.Fields.{fields_parts}
use Rattle.text.specs.Numerals.{number_decimal}
use Rattle.text.specs.WrittenLines.{small, digits_inside, decimals_good, fields_line_of, line_written, line_fields, values_back}
use Rattle.text.specs.HeldByCode.{small_of}
use Rattle.text.specs.ReadThenWritten.{joined, each_line, lines_joined, lines_each}

-- what a written row is: a line of the form, with these numbers, and the first of the lines of a text that begins with it
record RowReads (r : List ℕ) : Type 0 where
  formed : row_formed (row_line r) ≡ true
  row : row_of (row_line r) ≡ r
  first_of_law : (s : List ℕ) → lines (row_line r ++ s) ≡ row_line r ∷ lines s

row_written : (r : List ℕ) → length r ≡ 4 → ((j : ℕ) → get_or r j 0 ≤ 65535) → RowReads r
unfolding row_formed row_of small well_formed decimals
row_written [] h f = absurd (omega arith)
row_written (a ∷ []) h f = absurd (omega arith)
row_written (a ∷ b ∷ []) h f = absurd (omega arith)
row_written (a ∷ b ∷ c ∷ []) h f = absurd (omega arith)
row_written (a ∷ b ∷ c ∷ d ∷ []) h f =
    let fits = small_of (a ∷ b ∷ c ∷ d ∷ []) f in
    let i = digits_inside (decimal a) (decimal_digits a) in
    let p = line_written (decimal a) (b ∷ c ∷ d ∷ []) i (and_r (leb a 65535) (small (b ∷ c ∷ d ∷ [])) fits) in
    let l = row_line (a ∷ b ∷ c ∷ d ∷ []) in
    let whole : fields l ≡ decimals (a ∷ b ∷ c ∷ d ∷ []) = fields_line_of (decimal a) (b ∷ c ∷ d ∷ []) i in
    let n = decimals_good (a ∷ b ∷ c ∷ d ∷ []) fits in
    record {
      formed = rw (whole, n.0) (and_r (same (first l) (decimal a) && all_numbers (more l)) (ended l) p.formed);
      row = ap values_of whole ∙ n.1;
      first_of_law = p.first_of_law;
    }
row_written (a ∷ b ∷ c ∷ d ∷ e ∷ r) h f = absurd (omega arith)

-- the lines of a rising table have no fault, and its rows
rows_read_law : (table : List (List ℕ)) (n : ℕ) (q : List ℕ) → SixteenBits table → rising_from q table ≡ true
    → (lines_fault n q (lines (row_lines table)) ≡ no_fault) × (map row_of (lines (row_lines table)) ≡ table)
unfolding row_lines lines lines_fault rising_from
rows_read_law [] n q h k = (refl, refl)
rows_read_law (r ∷ rs) n q h k =
    let p = row_written r (h 0 (omega arith)).0 (h 0 (omega arith)).1 in
    let i = rows_read_law rs (n + 1) r (λ j l. h (suc j) (omega arith)) (and_r (above q r) (rising_from r rs) k) in
    rw (p.first_of_law (row_lines rs), p.formed, p.row, and_l (above q r) (rising_from r rs) k) (i.0, ap (λ (l : List (List ℕ)). r ∷ l) i.1)

-- what a line of the form has
pub record RowForm (l : List ℕ) : Type 0 where
  pub numbers : all_numbers (fields l) ≡ true
  pub four : length (fields l) ≡ 4
  pub end : ended l ≡ true

pub row_form : (l : List ℕ) → row_formed l ≡ true → RowForm l
unfolding row_formed
row_form l h =
    let a = and_l (all_numbers (fields l) && eqb (length (fields l)) 4) (ended l) h in
    record {
      numbers = and_l (all_numbers (fields l)) (eqb (length (fields l)) 4) a;
      four = eqb-true (length (fields l)) 4 (and_r (all_numbers (fields l)) (eqb (length (fields l)) 4) a);
      end = and_r (all_numbers (fields l) && eqb (length (fields l)) 4) (ended l) h;
    }

-- and such a line is the line of its row
row_back : (l : List ℕ) → line l ≡ l → row_formed l ≡ true → row_line (row_of l) ≡ l
unfolding row_of values_of line_of all_numbers
row_back l e h =
    let f = row_form l h in
    let n : (is_number (first l) && all_numbers (more l)) ≡ true = subst (λ (fs : List (List ℕ)). all_numbers fs ≡ true) (fields_parts l) f.numbers in
    ap (λ (fs : List (List ℕ)). row_line (values_of fs)) (fields_parts l)
    ∙ rw (number_decimal (first l) (and_l (is_number (first l)) _ n), values_back (more l) (and_r (is_number (first l)) (all_numbers (more l)) n))
    (sym (line_fields l f.end) ∙ e)

-- lines without a fault: the first is above the row before it, and the others have none
pub record LinePasses (n : ℕ) (q l : List ℕ) (ls : List (List ℕ)) : Type 0 where
  pub formed : row_formed l ≡ true
  pub rises : above q (row_of l) ≡ true
  pub others : good (lines_fault (n + 1) (row_of l) ls).refusal ≡ true

pub line_passes : (n : ℕ) (q l : List ℕ) (ls : List (List ℕ)) → good (lines_fault n q (l ∷ ls)).refusal ≡ true → LinePasses n q l ls
unfolding lines_fault
line_passes n q l ls h = go (row_formed l && above q (row_of l)) refl h
  where
    go : (b : Bool) → (row_formed l && above q (row_of l)) ≡ b
        → good (cond b (lines_fault (n + 1) (row_of l) ls) (fault_at BadForm n)).refusal ≡ true → LinePasses n q l ls
    go true e g = record { formed = and_l (row_formed l) (above q (row_of l)) e; rises = and_r (row_formed l) (above q (row_of l)) e; others = g }
    go false e g = absurd (false≢true g)

rows_written : (ls : List (List ℕ)) (n : ℕ) (q : List ℕ) → each_line ls → good (lines_fault n q ls).refusal ≡ true
    → row_lines (map row_of ls) ≡ joined ls
unfolding row_lines joined each_line
rows_written [] n q e h = refl
rows_written (l ∷ ls) n q e h =
    let p = line_passes n q l ls h in
    rw (row_back l e.0 p.formed, rows_written ls (n + 1) (row_of l) e.1 p.others)

pub lines_again : LinesAgain
lines_again =
    record {
      read = λ table h k. rows_read_law table 1 [] h k;
      written = λ text h. rows_written (lines text) 1 [] (lines_each text) h ∙ lines_joined text;
    }
