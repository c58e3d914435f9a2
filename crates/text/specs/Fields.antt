-- Laws of what stands at a place: a byte is a tab, an LF, or one within a field, and each splits the text in its own way.
use Rattle.std.specs.Prelude.{◌≡◌, ℕ, ◌+◌, Bool, true, false, cond, ◌||◌, List, [], ◌∷◌, ◌++◌, length, drop, ◌==◌, refl}
use Rattle.std.proofs.Common.{sym, ap, subst, ◌∙◌, arith, drop-drop, eqb-true}
use Rattle.document.specs.Text.{onto, lines, ended, fields, first_of, others_of, well_formed, numbers_of}
use Rattle.text.specs.Places.{first, more, line, after}

-- what a byte is in a text
pub data Sep : ℕ → Type 0 where
  is_tab : Sep 9
  is_lf : Sep 10
  within : {b : ℕ} → (b == 10) ≡ false → (b == 9) ≡ false → Sep b

pub sep : (b : ℕ) → Sep b
sep b = go (b == 10) (b == 9) refl refl
  where
    at : (n : ℕ) → Sep n → b ≡ n → Sep b
    at n h e = rw e h

    go : (x y : Bool) → (b == 10) ≡ x → (b == 9) ≡ y → Sep b
    go true y e f = at 10 is_lf (eqb-true b 10 e)
    go false true e f = at 9 is_tab (eqb-true b 9 f)
    go false false e f = within e f

-- a text's fields are its first and the others
pub fields_parts : (t : List ℕ) → fields t ≡ first t ∷ more t
unfolding fields
fields_parts [] = refl
fields_parts (b ∷ t) = go b t (fields_parts t) (sep b)
  where
    go : (b : ℕ) (t : List ℕ) → fields t ≡ first t ∷ more t → Sep b → fields (b ∷ t) ≡ first (b ∷ t) ∷ more (b ∷ t)
    go b t h is_tab = refl
    go b t h is_lf = refl
    go b t h (within e f) = rw (e, f, h)

-- a byte within a field
pub fields_within : (b : ℕ) (t : List ℕ) → (b == 10) ≡ false → (b == 9) ≡ false → fields (b ∷ t) ≡ (b ∷ first t) ∷ more t
unfolding fields
fields_within b t e f = rw (e, f, fields_parts t)

pub first_within : (b : ℕ) (t : List ℕ) → (b == 10) ≡ false → (b == 9) ≡ false → first (b ∷ t) ≡ b ∷ first t
first_within b t e f = ap first_of (fields_within b t e f)

pub more_within : (b : ℕ) (t : List ℕ) → (b == 10) ≡ false → (b == 9) ≡ false → more (b ∷ t) ≡ more t
more_within b t e f = ap others_of (fields_within b t e f)

pub ended_within : (b : ℕ) (t : List ℕ) → (b == 10) ≡ false → ended (b ∷ t) ≡ ended t
unfolding ended
ended_within b t e = rw e

pub line_within : (b : ℕ) (t : List ℕ) → (b == 10) ≡ false → line (b ∷ t) ≡ b ∷ line t
unfolding line
line_within b t e = rw e

pub after_within : (b : ℕ) (t : List ℕ) → (b == 10) ≡ false → after (b ∷ t) ≡ after t
unfolding after
after_within b t e = rw e

-- past the first field the line's other fields, its end and the next line are the same
pub record Past (t u : List ℕ) (n : ℕ) : Type 0 where
  pub none : first u ≡ []
  pub others : more u ≡ more t
  pub end : ended u ≡ ended t
  pub size : length (line t) ≡ n + length (line u)
  pub rest : after u ≡ after t

pub past_first : (t : List ℕ) → Past t (drop (length (first t)) t) (length (first t))
unfolding fields line
past_first [] = record { none = refl; others = refl; end = refl; size = refl; rest = refl }
past_first (b ∷ t) = go b t (past_first t) (sep b)
  where
    go : (b : ℕ) (t : List ℕ) → Past t (drop (length (first t)) t) (length (first t)) → Sep b
        → Past (b ∷ t) (drop (length (first (b ∷ t))) (b ∷ t)) (length (first (b ∷ t)))
    go b t h is_tab = record { none = refl; others = refl; end = refl; size = omega arith; rest = refl }
    go b t h is_lf = record { none = refl; others = refl; end = refl; size = omega arith; rest = refl }
    go b t h (within e f) =
        subst (λ (w : List ℕ). Past (b ∷ t) (drop (length w) (b ∷ t)) (length w)) (sym (first_within b t e f))
        record {
          none = h.none;
          others = h.others ∙ sym (more_within b t e f);
          end = h.end ∙ sym (ended_within b t e);
          size = rw e (omega (arith, h.size));
          rest = h.rest ∙ sym (after_within b t e);
        }

-- a text is its first line and what stands after it
pub line_after : (t : List ℕ) → line t ++ after t ≡ t
unfolding line after
line_after [] = refl
line_after (b ∷ t) = go (b == 10) (line_after t) refl
  where
    go : (x : Bool) → line t ++ after t ≡ t → (b == 10) ≡ x → (b ∷ cond x [] (line t)) ++ cond x t (after t) ≡ b ∷ t
    go true h e = refl
    go false h e = rw h

-- the lines are the first one and those of what stands after it
pub lines_line : (b : ℕ) (t : List ℕ) → lines (b ∷ t) ≡ line (b ∷ t) ∷ lines (after (b ∷ t))
unfolding lines line after
lines_line b [] = go (b == 10)
  where
    go : (x : Bool) → cond x ((b ∷ []) ∷ []) (onto b []) ≡ (b ∷ cond x [] []) ∷ lines (cond x [] [])
    go true = refl
    go false = refl
lines_line b (d ∷ t) = go (b == 10) (lines_line d t)
  where
    go : (x : Bool) → lines (d ∷ t) ≡ line (d ∷ t) ∷ lines (after (d ∷ t))
        → cond x ((b ∷ []) ∷ lines (d ∷ t)) (onto b (lines (d ∷ t))) ≡ (b ∷ cond x [] (line (d ∷ t))) ∷ lines (cond x (d ∷ t) (after (d ∷ t)))
    go true h = refl
    go false h = rw h

-- a line has the fields and the end of the text that it begins
pub fields_line : (t : List ℕ) → fields (line t) ≡ fields t
unfolding fields line
fields_line [] = refl
fields_line (b ∷ t) = go b t (fields_line t) (sep b)
  where
    go : (b : ℕ) (t : List ℕ) → fields (line t) ≡ fields t → Sep b → fields (line (b ∷ t)) ≡ fields (b ∷ t)
    go b t h is_tab = rw h
    go b t h is_lf = refl
    go b t h (within e f) = rw (e, f, h)

pub ended_line : (t : List ℕ) → ended (line t) ≡ ended t
unfolding ended line
ended_line [] = refl
ended_line (b ∷ t) = go (b == 10) (ended_line t)
  where
    go : (x : Bool) → ended (line t) ≡ ended t → (x || ended (cond x [] (line t))) ≡ (x || ended t)
    go true h = refl
    go false h = h

pub formed_line : (w t : List ℕ) → well_formed w (line t) ≡ well_formed w t
unfolding well_formed
formed_line w t = rw (fields_line t, ended_line t)

pub numbers_line : (t : List ℕ) → numbers_of (line t) ≡ numbers_of t
unfolding numbers_of
numbers_line t = rw (fields_line t)

pub past_line : (t : List ℕ) → drop (length (line t)) t ≡ after t
unfolding line after
past_line [] = refl
past_line (b ∷ t) = go (b == 10) (past_line t)
  where
    go : (x : Bool) → drop (length (line t)) t ≡ after t → drop (length (cond x [] (line t))) t ≡ cond x t (after t)
    go true h = refl
    go false h = h

-- the next line begins where this one ends
pub drop_line : (s : List ℕ) (at : ℕ) → drop (at + length (line (drop at s))) s ≡ after (drop at s)
drop_line s at = sym (drop-drop (length (line (drop at s))) at s) ∙ past_line (drop at s)
