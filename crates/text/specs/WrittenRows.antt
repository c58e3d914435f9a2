-- The lines of a table's rows, one row more at a time, and how long they are.
use Rattle.std.specs.Prelude.{◌≡◌, ℕ, zero, suc, ◌+◌, ◌-◌, ◌*◌, ◌<◌, ◌≤◌, true, false, List, [], ◌∷◌, ◌++◌, length, take, drop, nat_le, slice_index, slice_index_or, refl}
use Rattle.std.proofs.Common.{sym, ap, ◌∙◌, append-nil, append_assoc, zero-add, suc-add, zero-le, add-one, arith, le-leb, length-append, drop-cons, drop-drop, take_all, take-suc, take-append-drop}
use Rattle.std.proofs.lemmas.Bool.{lt-leb}
use Rattle.std.specs.Simd.{first_chunks}
use Rattle.document.specs.Text.{decimal, decimals, tabbed, line_of}
use Rattle.document.specs.Superframe.{row_line, row_lines, rows_in}

-- a table's rows are its whole chunks of four numbers
pub rows_chunks : (n : ℕ) (l : List ℕ) → first_chunks 4 n l ≡ rows_in n l
unfolding rows_in
rows_chunks zero l = refl
rows_chunks (suc n) l = ap (λ (rs : List (List ℕ)). take 4 l ∷ rs) (rows_chunks n (drop 4 l))

-- row i of a table
abbrev pub row_at : List ℕ → ℕ → List ℕ
row_at l i = slice_index l (4 * i) ∷ slice_index l (4 * i + 1) ∷ slice_index l (4 * i + 2) ∷ slice_index l (4 * i + 3) ∷ []

-- rows, and the rows after them
pub rows_split : (i k : ℕ) (l : List ℕ) → rows_in (i + k) l ≡ rows_in i l ++ rows_in k (drop (4 * i) l)
unfolding rows_in
rows_split zero k l = rw (zero-add k)
rows_split (suc i) k l =
    let z : 4 * suc i ≡ 4 + 4 * i = omega arith in
    rw (suc-add i k, z, ← drop-drop (4 * i) 4 l, rows_split i k (drop 4 l))

four_numbers : (l : List ℕ) (j : ℕ) → j + 4 ≤ length l
    → take 4 (drop j l) ≡ slice_index l j ∷ slice_index l (j + 1) ∷ slice_index l (j + 2) ∷ slice_index l (j + 3) ∷ []
four_numbers l j h =
    let a : suc j ≡ j + 1 = omega arith in
    let b : suc (suc j) ≡ j + 2 = omega arith in
    let c : suc (suc (suc j)) ≡ j + 3 = omega arith in
    rw (
      drop-cons l j 0 (omega arith),
      drop-cons l (suc j) 0 (omega arith),
      drop-cons l (suc (suc j)) 0 (omega arith),
      drop-cons l (suc (suc (suc j))) 0 (omega arith),
      ← a,
      ← b,
      ← c,
    )

pub lines_append : (a b : List (List ℕ)) → row_lines (a ++ b) ≡ row_lines a ++ row_lines b
unfolding row_lines
lines_append [] b = refl
lines_append (r ∷ a) b = rw (lines_append a b) (sym (append_assoc (row_line r) (row_lines a) (row_lines b)))

-- one line more
pub rows_next : (l : List ℕ) (i : ℕ) → 4 * i + 4 ≤ length l → row_lines (rows_in i l) ++ row_line (row_at l i) ≡ row_lines (rows_in (i + 1) l)
unfolding row_lines rows_in
rows_next l i h =
    ap (λ (x : List ℕ). row_lines (rows_in i l) ++ x) (sym (append-nil (row_line (row_at l i))))
    ∙ sym (lines_append (rows_in i l) (row_at l i ∷ []))
    ∙ ap (λ (r : List ℕ). row_lines (rows_in i l ++ (r ∷ []))) (sym (four_numbers l (4 * i) h))
    ∙ ap row_lines (sym (rows_split i 1 l))

-- more rows have no fewer bytes
pub rows_more_law : (l : List ℕ) (i n : ℕ) → i ≤ n → length (row_lines (rows_in i l)) ≤ length (row_lines (rows_in n l))
rows_more_law l i n h =
    let e : n ≡ i + (n - i) = omega arith in
    rw (e, rows_split i (n - i) l, lines_append (rows_in i l) (rows_in (n - i) (drop (4 * i) l)))
    (omega (arith, length-append (row_lines (rows_in i l)) (row_lines (rows_in (n - i) (drop (4 * i) l)))))

-- the same of any rows
line_one : (r : List ℕ) → row_lines (r ∷ []) ≡ row_line r
unfolding row_lines
line_one r = append-nil (row_line r)

pub line_next : (rs : List (List ℕ)) (i : ℕ) (d : List ℕ) → i < length rs → row_lines (take i rs) ++ row_line (slice_index_or rs i d) ≡ row_lines (take (i + 1) rs)
line_next rs i d h =
    ap (λ (l : List ℕ). row_lines (take i rs) ++ l) (sym (line_one (slice_index_or rs i d)))
    ∙ sym (lines_append (take i rs) (slice_index_or rs i d ∷ []))
    ∙ ap row_lines (sym (take-suc rs i d h) ∙ ap (λ (n : ℕ). take n rs) (sym (add-one i)))

-- all rows have no fewer bytes than the first ones
lines_front : (rs : List (List ℕ)) (i : ℕ) → length (row_lines (take i rs)) ≤ length (row_lines rs)
lines_front rs i =
    omega (
      arith,
      ap (λ (x : List (List ℕ)). length (row_lines x)) (sym (take-append-drop i rs)),
      ap length (lines_append (take i rs) (drop i rs)),
      length-append (row_lines (take i rs)) (row_lines (drop i rs)),
    )

-- the bytes of a line
pub line_size : (a b c d : ℕ) {i j k l : ℕ} → i ≡ length (decimal a) → j ≡ length (decimal b) → k ≡ length (decimal c) → l ≡ length (decimal d)
    → i + j + k + l + 4 ≡ length (row_line (a ∷ b ∷ c ∷ d ∷ []))
unfolding line_of tabbed decimals
line_size a b c d e f g h = simp length-append (omega arith)

pub row_size : (r : List ℕ) {i j k l : ℕ} → length r ≡ 4 → i ≡ length (decimal (slice_index r 0)) → j ≡ length (decimal (slice_index r 1))
    → k ≡ length (decimal (slice_index r 2)) → l ≡ length (decimal (slice_index r 3)) → i + j + k + l + 4 ≡ length (row_line r)
row_size (a ∷ b ∷ c ∷ d ∷ []) q e f g h = line_size a b c d e f g h
row_size [] q e f g h = absurd (omega arith)
row_size (a ∷ []) q e f g h = absurd (omega arith)
row_size (a ∷ b ∷ []) q e f g h = absurd (omega arith)
row_size (a ∷ b ∷ c ∷ []) q e f g h = absurd (omega arith)
row_size (a ∷ b ∷ c ∷ d ∷ x ∷ r) q e f g h = absurd (omega arith)

pub line_same : {a b c d i j k l : ℕ} → a ≡ i → b ≡ j → c ≡ k → d ≡ l → row_line (a ∷ b ∷ c ∷ d ∷ []) ≡ row_line (i ∷ j ∷ k ∷ l ∷ [])
line_same e f g h = rw (e, f, g, h)

-- the rows are measured as far as row i, and so much of the room is left
pub record Measured (rs : List (List ℕ)) (room left i : ℕ) : Type 0 where
  pub few : i ≤ length rs
  pub sum : length (row_lines (take i rs)) + left ≡ room

pub measured_none : (rs : List (List ℕ)) (room : ℕ) → Measured rs room room 0
unfolding row_lines
measured_none rs room = record { few = zero-le; sum = omega arith }

module _ {rs : List (List ℕ)} {room left i : ℕ} (v : Measured rs room left i) where
  next_size : (n : ℕ) (d : List ℕ) → i < length rs → n ≡ length (row_line (slice_index_or rs i d))
      → length (row_lines (take (i + 1) rs)) ≡ length (row_lines (take i rs)) + n
  next_size n d h e = ap length (sym (line_next rs i d h)) ∙ length-append (row_lines (take i rs)) (row_line (slice_index_or rs i d)) ∙ rw e

  pub measured_more : (n : ℕ) (d : List ℕ) → i < length rs → n ≡ length (row_line (slice_index_or rs i d)) → n ≤ left → Measured rs room (left - n) (i + 1)
  measured_more n d h e f = record { few = omega arith; sum = omega (arith, v.sum, next_size n d h e) }

  pub measured_short : (n : ℕ) (d : List ℕ) → i < length rs → n ≡ length (row_line (slice_index_or rs i d)) → left < n
      → nat_le (length (row_lines rs)) room ≡ false
  measured_short n d h e f = lt-leb (length (row_lines rs)) room (omega (arith, v.sum, next_size n d h e, lines_front rs (i + 1)))

  pub measured_all : length rs ≤ i → nat_le (length (row_lines rs)) room ≡ true
  measured_all h = le-leb (length (row_lines rs)) room (omega (arith, v.sum, ap (λ (x : List (List ℕ)). length (row_lines x)) (take_all i rs h)))
