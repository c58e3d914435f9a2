-- The answer of reading a table and the lent table afterwards, from what its lines were judged and its room.
use Rattle.std.specs.Prelude.{◌≡◌, ℕ, ◌+◌, ◌*◌, ◌/◌, ◌<◌, ◌≤◌, Bool, true, false, cond, List, [], ◌∷◌, map, length, nat_lt, Result, Ok, Err}
use Rattle.std.proofs.Math.Path.{refl, ap}
use Rattle.std.proofs.Common.{sym, ◌∙◌, arith, length-append, lt-ltb, le-ltb, ltb-true, ltb-false}
use Rattle.std.proofs.lemmas.Bool.{false≢true}
use Rattle.model.specs.declared.answers.Fault.{Fault}
use Rattle.model.specs.declared.answers.Refusal.TheVariants.{NoRoom}
use Rattle.model.specs.Refusals.{good, fault_at, no_fault, refused_table}
use Rattle.document.specs.Superframe.{flat, at_start, row_of, lines_fault, rows_of_text, form_fault, read_table_fault, read_table_answer, read_table_into}
use Rattle.document.specs.Text.{lines}
use Rattle.text.specs.TableLines.{line_passes}
use Rattle.text.specs.LinesJudged.{row_numbers_law, judges, judges_ok, judges_err}

-- each row of an accepted text has four numbers
rows_length : (ls : List (List ℕ)) (n : ℕ) (q : List ℕ) → good (lines_fault n q ls).refusal ≡ true → length (flat (map row_of ls)) ≡ length ls * 4
unfolding flat
rows_length [] n q h = refl
rows_length (l ∷ ls) n q h =
    let p = line_passes n q l ls h in
    omega (
      arith,
      length-append (row_of l) (flat (map row_of ls)),
      (row_numbers_law l p.formed).four,
      rows_length ls (n + 1) (row_of l) p.others,
    )

-- 10, where the rows are more than there is room for
abbrev pub room_fault : ℕ → ℕ → Fault
room_fault room rows = cond (nat_lt room rows) (fault_at NoRoom 0) no_fault

-- how many rows are read of a text, with room for so many numbers, or what refuses the table
unfoldable pub rows_read : List ℕ → ℕ → Result ℕ Fault
rows_read s room = cond (good (read_table_fault s room).refusal) (Ok (length (lines s))) (Err (read_table_fault s room))

-- what no fault says of the text and of the room
pub record Reads (s : List ℕ) (room rows : ℕ) : Type 0 where
  pub accepted : good (form_fault s).refusal ≡ true
  pub fits : length (flat (rows_of_text s)) ≤ room
  pub numbers : rows * 4 ≡ length (flat (rows_of_text s))

module _ (s : List ℕ) (room : ℕ) where
  -- a row has room exactly where its four numbers have
  four : good (form_fault s).refusal ≡ true → length (lines s) * 4 ≡ length (flat (rows_of_text s))
  four g = sym (rows_length (lines s) 1 [] g)

  short : good (form_fault s).refusal ≡ true → room / 4 < length (lines s) → nat_lt room (length (flat (rows_of_text s))) ≡ true
  short g h = lt-ltb room _ (omega (arith, four g))

  enough : good (form_fault s).refusal ≡ true → length (lines s) ≤ room / 4 → nat_lt room (length (flat (rows_of_text s))) ≡ false
  enough g h = le-ltb room _ (omega (arith, four g))

  -- the lines' fault comes first, then 10
  pub rows_bad : (f : Fault) → Err f ≡ judges s → Err f ≡ rows_read s room
  unfolding rows_read read_table_fault
  rows_bad f h = let j = judges_err s f h in rw (j.1, j.0, j.0)

  module _ (n : ℕ) (h : Ok n ≡ judges s) where
    by_rows : room_fault (room / 4) n ≡ read_table_fault s room
    unfolding read_table_fault
    by_rows = let j = judges_ok s n h in rw j.0 (go (nat_lt (room / 4) n) refl)
      where
        go : (b : Bool) → nat_lt (room / 4) n ≡ b
            → cond b (fault_at NoRoom 0) no_fault ≡ cond (nat_lt room (length (flat (rows_of_text s)))) (fault_at NoRoom 0) no_fault
        go true e = let j = judges_ok s n h in rw (short j.0 (omega (arith, ltb-true (room / 4) n e, j.1)))
        go false e = let j = judges_ok s n h in rw (enough j.0 (omega (arith, ltb-false (room / 4) n e, j.1)))

    pub rows_short : (f : Fault) → f ≡ room_fault (room / 4) n → good f.refusal ≡ false → Err f ≡ rows_read s room
    unfolding rows_read
    rows_short f e b = rw (sym by_rows ∙ sym e, b)

    pub rows_good : good (room_fault (room / 4) n).refusal ≡ true → Ok n ≡ rows_read s room
    unfolding rows_read
    rows_good b = let j = judges_ok s n h in rw (sym by_rows, b, j.1)

  -- what is answered: rows, or what refuses the table
  read_ok : (n : ℕ) → Ok n ≡ rows_read s room → (good (read_table_fault s room).refusal ≡ true) × (n ≡ length (lines s))
  unfolding rows_read
  read_ok n h = go (good (read_table_fault s room).refusal) h
    where
      go : (b : Bool) → Ok n ≡ cond b (Ok (length (lines s))) (Err (read_table_fault s room)) → (b ≡ true) × (n ≡ length (lines s))
      go true e = (refl, (cc))
      go false e = absurd (cc)

  read_err : (f : Fault) → Err f ≡ rows_read s room → (good (read_table_fault s room).refusal ≡ false) × (f ≡ read_table_fault s room)
  unfolding rows_read
  read_err f h = go (good (read_table_fault s room).refusal) h
    where
      go : (b : Bool) → Err f ≡ cond b (Ok (length (lines s))) (Err (read_table_fault s room)) → (b ≡ false) × (f ≡ read_table_fault s room)
      go true e = absurd (cc)
      go false e = (refl, (cc))

  pub reads_good : (n : ℕ) → Ok n ≡ rows_read s room → Reads s room n
  unfolding read_table_fault
  reads_good n h = let r = read_ok n h in go r.1 (good (form_fault s).refusal) refl (nat_lt room (length (flat (rows_of_text s)))) refl r.0
    where
      go : n ≡ length (lines s) → (b : Bool) → good (form_fault s).refusal ≡ b → (x : Bool) → nat_lt room (length (flat (rows_of_text s))) ≡ x
          → good (cond b (cond x (fault_at NoRoom 0) no_fault) (form_fault s)).refusal ≡ true → Reads s room n
      go e true g true l k = absurd (false≢true k)
      go e true g false l k = record { accepted = g; fits = ltb-false room _ l; numbers = ap (λ (i : ℕ). i * 4) e ∙ four g }
      go e false g x l k = absurd (false≢true (sym g ∙ k))

  -- the answer, refused and not
  pub answer_refused : (f : Fault) → Err f ≡ rows_read s room → refused_table f ≡ read_table_answer s room
  unfolding read_table_answer
  answer_refused f h = let r = read_err f h in rw (r.1, r.0)

  pub answer_good : (g : Fault) → g ≡ no_fault → (n : ℕ) → Ok n ≡ rows_read s room → record { fault = g; hyper = 0; numbers = n * 4 } ≡ read_table_answer s room
  unfolding read_table_answer
  answer_good g k n h = rw ((read_ok n h).0, k, (reads_good n h).numbers)

-- the lent table, refused and not
pub into_refused : (s table : List ℕ) (f : Fault) → Err f ≡ rows_read s (length table) → table ≡ read_table_into s table
unfolding read_table_into
into_refused s table f h = rw (read_err s (length table) f h).0

pub into_good : (s table : List ℕ) (n : ℕ) → Ok n ≡ rows_read s (length table) → at_start (flat (rows_of_text s)) table ≡ read_table_into s table
unfolding read_table_into
into_good s table n h = rw (read_ok s (length table) n h).0
