-- A line and its word and numbers: each gives the other back.
use Rattle.std.specs.Prelude.{◌≡◌, ℕ, zero, suc, ◌≤◌, Bool, true, false, not, ◌&&◌, List, [], ◌∷◌, ◌++◌, ◌==◌, nat_le, slice_index, refl}
use Rattle.std.proofs.Common.{sym, ap, ◌∙◌, append_assoc, zero-le, eq-eqb, leb-true}
use Rattle.std.proofs.lemmas.Bool.{false≢true, not-true}
use Rattle.document.specs.Text.{same, lines, ended, fields, first_of, others_of, is_digit, all_digits, plain, is_number, all_numbers, values_of, value_of, well_formed, numbers_of, decimal, tabbed, decimals, line_of}
use Rattle.laws.specs.SumLaws.{and_l, and_r}
use Rattle.laws.specs.WrittenNumbers.{decimal_digits, digit_inside, fields_tabbed}
use Rattle.text.specs.Places.{first, more, line, after}
use Rattle.text.specs.Fields.{Sep, is_tab, is_lf, within, sep, fields_parts, fields_within, ended_within, lines_line}
use Rattle.text.specs.Put.{fields_of, line_parts}
use Rattle.text.specs.Numerals.{decimal_number, value_decimal, number_decimal}
use Rattle.laws.specs.Rounds.{same_eq}

-- every byte is of a field
unfoldable pub inside : List ℕ → Bool
inside [] = true
inside (b ∷ f) = not (b == 10) && not (b == 9) && inside f

inside_head : (b : ℕ) (f : List ℕ) → inside (b ∷ f) ≡ true → ((b == 10) ≡ false) × ((b == 9) ≡ false) × (inside f ≡ true)
unfolding inside
inside_head b f h =
    let a = and_l (not (b == 10) && not (b == 9)) (inside f) h in (
      not-true (b == 10) (and_l (not (b == 10)) (not (b == 9)) a),
      not-true (b == 9) (and_r (not (b == 10)) (not (b == 9)) a),
      and_r (not (b == 10) && not (b == 9)) (inside f) h,
    )

pub digits_inside : (f : List ℕ) → all_digits f ≡ true → inside f ≡ true
unfolding inside all_digits
digits_inside [] h = refl
digits_inside (b ∷ f) h =
    let i = digit_inside b (and_l (is_digit b) (all_digits f) h) in
    rw (i.0, i.1) (digits_inside f (and_r (is_digit b) (all_digits f) h))

-- a word before a text that begins with no field
fields_word : (w t : List ℕ) (fs : List (List ℕ)) → inside w ≡ true → fields t ≡ [] ∷ fs → fields (w ++ t) ≡ w ∷ fs
fields_word [] t fs h e = e
fields_word (b ∷ w) t fs h e =
    let i = inside_head b w h in
    let r = fields_word w t fs i.2 e in
    fields_within b (w ++ t) i.0 i.1 ∙ rw (ap first_of r, ap others_of r)

-- no byte of it is LF
unfoldable no_lf : List ℕ → Bool
no_lf [] = true
no_lf (b ∷ f) = not (b == 10) && no_lf f

inside_no_lf : (f : List ℕ) → inside f ≡ true → no_lf f ≡ true
unfolding no_lf
inside_no_lf [] h = refl
inside_no_lf (b ∷ f) h = let i = inside_head b f h in rw i.0 (inside_no_lf f i.2)

no_lf_append : (a b : List ℕ) → no_lf a ≡ true → no_lf b ≡ true → no_lf (a ++ b) ≡ true
unfolding no_lf
no_lf_append [] b h k = k
no_lf_append (x ∷ a) b h k = rw (and_l (not (x == 10)) (no_lf a) h) (no_lf_append a b (and_r (not (x == 10)) (no_lf a) h) k)

-- a line that is ended, before a text
record LineEnds (a s : List ℕ) : Type 0 where
  line_is : line (a ++ (10 ∷ s)) ≡ a ++ (10 ∷ [])
  after_is : after (a ++ (10 ∷ s)) ≡ s
  ended_is : ended (a ++ (10 ∷ s)) ≡ true

line_ends : (a s : List ℕ) → no_lf a ≡ true → LineEnds a s
unfolding line after ended no_lf
line_ends [] s h = record { line_is = refl; after_is = refl; ended_is = refl }
line_ends (b ∷ a) s h =
    let e = not-true (b == 10) (and_l (not (b == 10)) (no_lf a) h) in
    let r = line_ends a s (and_r (not (b == 10)) (no_lf a) h) in
    record { line_is = rw (e, r.line_is); after_is = rw (e, r.after_is); ended_is = rw (e, r.ended_is) }

-- numbers that a text may have
unfoldable pub small : List ℕ → Bool
small [] = true
small (v ∷ vs) = nat_le v 65535 && small vs

pub small_at : (vs : List ℕ) (i : ℕ) → small vs ≡ true → slice_index vs i ≤ 65535
unfolding small
small_at [] i h = zero-le
small_at (v ∷ vs) zero h = leb-true v 65535 (and_l (nat_le v 65535) (small vs) h)
small_at (v ∷ vs) (suc i) h = small_at vs i (and_r (nat_le v 65535) (small vs) h)

pub decimals_good : (vs : List ℕ) → small vs ≡ true → (all_numbers (decimals vs) ≡ true) × (values_of (decimals vs) ≡ vs)
unfolding small decimals all_numbers values_of
decimals_good [] h = (refl, refl)
decimals_good (v ∷ vs) h =
    let l = leb-true v 65535 (and_l (nat_le v 65535) (small vs) h) in
    let r = decimals_good vs (and_r (nat_le v 65535) (small vs) h) in (rw (decimal_number v l, r.0), rw (value_decimal v l, r.1))

fields_no_lf : (vs : List ℕ) → small vs ≡ true → no_lf (fields_of vs) ≡ true
unfolding small fields_of no_lf
fields_no_lf [] h = refl
fields_no_lf (v ∷ vs) h =
    let l = leb-true v 65535 (and_l (nat_le v 65535) (small vs) h) in
    no_lf_append (decimal v) (fields_of vs) (inside_no_lf (decimal v) (digits_inside (decimal v) (decimal_digits v)))
    (fields_no_lf vs (and_r (nat_le v 65535) (small vs) h))

same_self : (w : List ℕ) → same w w ≡ true
unfolding same
same_self [] = refl
same_self (b ∷ w) = rw (eq-eqb b b refl) (same_self w)

-- what a written line is: well formed, with these numbers, and the first of the lines of a text that begins with it
pub record LineReads (w vs : List ℕ) : Type 0 where
  pub formed : well_formed w (line_of w vs) ≡ true
  pub numbers : numbers_of (line_of w vs) ≡ vs
  pub first_of_law : (s : List ℕ) → lines (line_of w vs ++ s) ≡ line_of w vs ∷ lines s

lines_first : (a s : List ℕ) → no_lf a ≡ true → lines (a ++ (10 ∷ s)) ≡ (a ++ (10 ∷ [])) ∷ lines s
lines_first a s h = split a ∙ rw ((line_ends a s h).line_is, (line_ends a s h).after_is)
  where
    split : (a : List ℕ) → lines (a ++ (10 ∷ s)) ≡ line (a ++ (10 ∷ s)) ∷ lines (after (a ++ (10 ∷ s)))
    split [] = lines_line 10 s
    split (b ∷ a) = lines_line b (a ++ (10 ∷ s))

pub fields_line_of : (w vs : List ℕ) → inside w ≡ true → fields (line_of w vs) ≡ w ∷ decimals vs
unfolding line_of
fields_line_of w vs h = fields_word w (tabbed (decimals vs)) (decimals vs) h (fields_tabbed vs)

pub line_written : (w vs : List ℕ) → inside w ≡ true → small vs ≡ true → LineReads w vs
unfolding well_formed numbers_of
line_written w vs h k =
    let d = decimals_good vs k in
    let whole = fields_line_of w vs h in
    let n = no_lf_append w (fields_of vs) (inside_no_lf w h) (fields_no_lf vs k) in
    record {
      formed = rw (ap first_of whole, ap others_of whole, same_self w, d.0) (ap ended (sym (line_parts w vs)) ∙ (line_ends (w ++ fields_of vs) [] n).ended_is);
      numbers = ap (λ (l : List (List ℕ)). values_of (others_of l)) whole ∙ d.1;
      first_of_law = λ s.
          ap lines (ap (λ (l : List ℕ). l ++ s) (sym (line_parts w vs)) ∙ append_assoc (w ++ fields_of vs) (10 ∷ []) s)
          ∙ lines_first (w ++ fields_of vs) s n ∙ ap (λ (l : List ℕ). l ∷ lines s) (line_parts w vs);
    }

-- a line that is ended is its fields
pub line_fields : (t : List ℕ) → ended t ≡ true → line t ≡ first t ++ tabbed (more t)
unfolding ended line tabbed fields
line_fields [] h = absurd (false≢true h)
line_fields (b ∷ t) h = go b t (sep b) (line_fields t) h
  where
    go : (b : ℕ) (t : List ℕ) → Sep b → (ended t ≡ true → line t ≡ first t ++ tabbed (more t)) → ended (b ∷ t) ≡ true
        → line (b ∷ t) ≡ first (b ∷ t) ++ tabbed (more (b ∷ t))
    go b t is_tab ih h = ap (λ (l : List ℕ). 9 ∷ l) (ih h) ∙ ap (λ (fs : List (List ℕ)). tabbed fs) (sym (fields_parts t))
    go b t is_lf ih h = refl
    go b t (within e f) ih h =
        rw (e, f, fields_parts t) (ap (λ (l : List ℕ). b ∷ l) (ih (sym (ended_within b t e) ∙ h)))

pub values_back : (fs : List (List ℕ)) → all_numbers fs ≡ true → decimals (values_of fs) ≡ fs
unfolding all_numbers values_of decimals
values_back [] h = refl
values_back (f ∷ fs) h =
    let d = number_decimal f (and_l (is_number f) (all_numbers fs) h) in
    let r = values_back fs (and_r (is_number f) (all_numbers fs) h) in rw (d, r)

pub values_small : (fs : List (List ℕ)) → all_numbers fs ≡ true → small (values_of fs) ≡ true
unfolding all_numbers values_of small is_number
values_small [] h = refl
values_small (f ∷ fs) h =
    let n = and_l (is_number f) (all_numbers fs) h in
    rw (and_r (plain f && all_digits f) (nat_le (value_of f) 65535) n) (values_small fs (and_r (is_number f) (all_numbers fs) h))

-- a well formed line is the line of its numbers
pub line_back : (w t : List ℕ) → well_formed w t ≡ true → line t ≡ line_of w (numbers_of t)
unfolding well_formed numbers_of line_of
line_back w t h =
    let a = and_l (same (first t) w && all_numbers (more t)) (ended t) h in
    line_fields t (and_r (same (first t) w && all_numbers (more t)) (ended t) h)
    ∙ rw (
      same_eq (first t) w (and_l (same (first t) w) (all_numbers (more t)) a),
      values_back (more t) (and_r (same (first t) w) (all_numbers (more t)) a),
    )

pub line_small : (w t : List ℕ) → well_formed w t ≡ true → small (numbers_of t) ≡ true
unfolding well_formed numbers_of
line_small w t h =
    values_small (more t) (and_r (same (first t) w) (all_numbers (more t)) (and_l (same (first t) w && all_numbers (more t)) (ended t) h))
