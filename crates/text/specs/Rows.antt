-- Laws of a line's numbers: past a tab and a number the rest of the line is a shorter one of the same kind.
use Rattle.std.specs.Prelude.{◌≡◌, ℕ, zero, suc, ◌+◌, ◌<◌, ◌≤◌, Bool, true, false, cond, not, ◌&&◌, List, [], ◌∷◌, ◌++◌, length, take, drop, replicate, ◌==◌, ◌≢◌, slice_index, slice_index_or, slice_set, refl, Option, Some, None}
use Rattle.std.proofs.Common.{sym, subst, ◌∙◌, zero-le, le_refl, add-one, arith, drop_of_length-le, length-set, drop-cons, drop-drop, ne_eqb}
use Rattle.std.proofs.Math.Path.{ap}
use Rattle.std.proofs.lemmas.Bool.{false≢true}
use Rattle.std.proofs.Math.Decide.{dec_le}
use Rattle.std.proofs.Math.ListN.{get_or-eq_default}
use Rattle.std.proofs.Math.Seq.{drop-nil, set_out}
use Rattle.std.proofs.lemmas.List.Edits.{sets}
use Rattle.laws.specs.SumLaws.{and_l, and_r}
use Rattle.document.specs.Reader.{pad}
use Rattle.document.specs.Text.{same, ended, fields, value_of, is_number, all_numbers, values_of, well_formed, numbers_of}
use Rattle.text.specs.Places.{first, more, line}
use Rattle.text.specs.NumberAnswers.{number_if, number_in, same_parts}
use Rattle.text.specs.Row.{most_numbers, row_if, row_in}
use Rattle.text.specs.Fields.{Sep, is_tab, is_lf, within, sep, fields_parts, more_within, line_within, Past, past_first}

-- a byte that is not 0 stands at the front of what is left
pub drop_byte : (s : List ℕ) (i b : ℕ) → slice_index s i ≡ b → 0 < b → (i < length s) × (drop i s ≡ b ∷ drop (i + 1) s)
drop_byte s i b e h =
    elim (dec_le (length s) i) [
      | yes k ↦ absurd (omega (arith, e, get_or-eq_default s 0 k))
      | no k ↦ (omega arith, go (omega arith))
    ]
  where
    go : i < length s → drop i s ≡ b ∷ drop (i + 1) s
    go l = rw (add-one, ← e, drop-cons s i 0 l)

-- zeros filled from the front
pub sets_cons : (vs l : List ℕ) (x i : ℕ) → sets (x ∷ l) (suc i) vs ≡ x ∷ sets l i vs
sets_cons [] l x i = refl
sets_cons (v ∷ vs) l x i = sets_cons vs (slice_set l i v) x (suc i)

pub sets_none : (vs : List ℕ) (i : ℕ) → sets [] i vs ≡ []
sets_none [] i = refl
sets_none (v ∷ vs) i = sets_none vs (suc i)

pub zeros_take : (n m : ℕ) → n ≤ m → ◌≡◌ {A = List ℕ} (replicate n 0) (take n (replicate m 0))
zeros_take zero m h = refl
zeros_take (suc n) zero h = absurd (omega arith)
zeros_take (suc n) (suc m) h = ap (λ (l : List ℕ). 0 ∷ l) (zeros_take n m (omega arith))

pub sets_zeros : (n m : ℕ) (vs : List ℕ) → n ≤ m → sets (replicate n 0) 0 vs ≡ take n (vs ++ replicate m 0)
sets_zeros zero m vs h = sets_none vs 0
sets_zeros (suc n) m [] h = zeros_take (suc n) m h
sets_zeros (suc n) m (v ∷ vs) h = sets_cons vs (replicate n 0) v 0 ∙ ap (λ (l : List ℕ). v ∷ l) (sets_zeros n m vs (omega arith))

-- what a number's answer says
pub record NumberReads (f : List ℕ) (from v next : ℕ) : Type 0 where
  pub good : is_number f ≡ true
  pub value : v ≡ value_of f
  pub place : next ≡ from + length f

pub number_value_law : (from : ℕ) (f : List ℕ) (v next : ℕ) → number_in from f ≡ Some (v, next) → NumberReads f from v next
unfolding number_in
number_value_law from f v next h = go (is_number f) refl h
  where
    go : (b : Bool) → is_number f ≡ b → number_if b from f ≡ Some (v, next) → NumberReads f from v next
    go true e h = let p = same_parts h in record { good = e; value = sym p.0; place = sym p.1 }
    go false e h = absurd (cc)

pub number_bad : (from : ℕ) (f : List ℕ) → number_in from f ≡ None → is_number f ≡ false
unfolding number_in
number_bad from f h = go (is_number f) refl h
  where
    go : (b : Bool) → is_number f ≡ b → number_if b from f ≡ None → b ≡ false
    go true e h = absurd (cc)
    go false e h = refl

-- the rest of a line that begins with a tab
pub formed_tab : (t : List ℕ) → well_formed [] (9 ∷ t) ≡ (is_number (first t) && all_numbers (more t) && ended t)
unfolding well_formed fields same all_numbers ended
formed_tab t = ap (λ (fs : List (List ℕ)). all_numbers fs && ended t) (fields_parts t)

pub numbers_tab : (t : List ℕ) → numbers_of (9 ∷ t) ≡ value_of (first t) ∷ values_of (more t)
unfolding numbers_of fields values_of
numbers_tab t = ap values_of (fields_parts t)

-- of one that begins where a field has ended
pub formed_past : (t u : List ℕ) (n : ℕ) → Past t u n → well_formed [] u ≡ (all_numbers (more t) && ended t)
unfolding well_formed same
formed_past t u n p = rw (p.none, p.others, p.end)

pub numbers_past : (t u : List ℕ) (n : ℕ) → Past t u n → numbers_of u ≡ values_of (more t)
unfolding numbers_of
numbers_past t u n p = ap values_of p.others

-- of one that begins with LF, and of one that begins with a field that no tab parts
pub formed_lf : (t : List ℕ) → well_formed [] (10 ∷ t) ≡ true
unfolding well_formed fields same all_numbers ended
formed_lf t = refl

pub numbers_lf : (t : List ℕ) → numbers_of (10 ∷ t) ≡ []
unfolding numbers_of fields values_of
numbers_lf t = refl

pub formed_other : (s : List ℕ) (i : ℕ) → (slice_index s i ≢ 9) → (slice_index s i ≢ 10) → well_formed [] (drop i s) ≡ false
unfolding well_formed fields same all_numbers ended
formed_other [] i h k = ap (well_formed []) (drop-nil i)
formed_other (b ∷ s) (suc i) h k = formed_other s i h k
formed_other (b ∷ s) zero h k = rw (ne_eqb b 10 k, ne_eqb b 9 h, fields_parts s)

-- the row of a text that lacks the form
pub row_refused : (word : List ℕ) (from : ℕ) (t : List ℕ) → well_formed word t ≡ false → None ≡ row_in word from t
unfolding row_in
row_refused word from t h = rw h

-- the reading of a line's numbers that has come to place i with k numbers, the first of them in ns
pub record NumbersSoFar (s : List ℕ) (from i k : ℕ) (ns : List ℕ) : Type 0 where
  pub form : well_formed [] (drop from s) ≡ well_formed [] (drop i s)
  pub few : k + length (numbers_of (drop i s)) ≡ length (numbers_of (drop from s))
  pub kept : sets ns k (numbers_of (drop i s)) ≡ sets (replicate most_numbers 0) 0 (numbers_of (drop from s))
  pub long : length ns ≡ most_numbers
  pub size : from + length (line (drop from s)) ≡ i + length (line (drop i s))
  pub slow : k ≤ i

pub numbers_start : (s : List ℕ) (from : ℕ) → NumbersSoFar s from from 0 (replicate most_numbers 0)
numbers_start s from = record { form = refl; few = omega arith; kept = refl; long = refl; size = refl; slow = zero-le }

-- the reading at its next number, which stands after a tab and whose reading says x
pub record NextNumber (s : List ℕ) (from i k : ℕ) (ns : List ℕ) (x : Option (ℕ × ℕ)) : Type 0 where
  pub so_far : NumbersSoFar s from i k ns
  pub tab_is : slice_index_or s i 0 ≡ 9
  pub says : x ≡ number_in (i + 1) (first (drop (i + 1) s))

module _ {s : List ℕ} {from i k : ℕ} {ns : List ℕ} {x : Option (ℕ × ℕ)} (a : NextNumber s from i k ns x) where
  tabbed_here : drop i s ≡ 9 ∷ drop (i + 1) s
  tabbed_here = (drop_byte s i 9 a.tab_is (omega arith)).1

  pub numbers_refused : x ≡ None → None ≡ row_in [] from (drop from s)
  numbers_refused h =
      row_refused [] from (drop from s)
      (a.so_far.form ∙ ap (well_formed []) tabbed_here ∙ formed_tab (drop (i + 1) s)
      ∙ rw (number_bad (i + 1) (first (drop (i + 1) s)) (sym a.says ∙ h)))

  numbers_more : (v next : ℕ) → x ≡ Some (v, next) → NumbersSoFar s from next (k + 1) (slice_set ns k v)
  unfolding line
  numbers_more v next h = go (number_value_law (i + 1) (first t) v next (sym a.says ∙ h)) (past_first t)
    where
      t : List ℕ
      t = drop (i + 1) s

      here : (n : ℕ) → next ≡ (i + 1) + n → drop next s ≡ drop n t
      here n q = rw (q, drop-drop n (i + 1) s)

      go : NumberReads (first t) (i + 1) v next → Past t (drop (length (first t)) t) (length (first t))
          → NumbersSoFar s from next (k + 1) (slice_set ns k v)
      go r p =
          let inv = a.so_far in
          let at = here _ r.place in
          let split : numbers_of (drop i s) ≡ v ∷ numbers_of (drop next s) =
          ap numbers_of tabbed_here ∙ numbers_tab t ∙ rw (r.value, at, numbers_past t _ _ p) in
          let tail : length (line (drop i s)) ≡ suc (length (line t)) = ap (λ (u : List ℕ). length (line u)) tabbed_here in
          let rest : length (line (drop next s)) ≡ length (line (drop (length (first t)) t)) = ap (λ (u : List ℕ). length (line u)) at in
          record {
            form = inv.form ∙ ap (well_formed []) tabbed_here ∙ formed_tab t ∙ rw r.good (sym (formed_past t _ _ p) ∙ ap (well_formed []) (sym at));
            few = omega (arith, inv.few, ap length split);
            kept = rw add-one (ap (sets ns k) (sym split) ∙ inv.kept);
            long = length-set ns k v ∙ inv.long;
            size = omega (arith, inv.size, p.size, r.place);
            slow = omega (arith, inv.slow, r.place);
          }

  -- the array takes the number where it has room for it
  pub numbers_next : (v next : ℕ) (out : List ℕ) → slice_set ns k v ≡ out → x ≡ Some (v, next) → NumbersSoFar s from next (k + 1) out
  numbers_next v next out q h = subst (λ (l : List ℕ). NumbersSoFar s from next (k + 1) l) q (numbers_more v next h)

  pub numbers_full : (v : ℕ) (out : List ℕ) → most_numbers ≤ k → out ≡ ns → slice_set ns k v ≡ out
  numbers_full v out h e = set_out ns k v (omega (arith, a.so_far.long)) ∙ sym e

  -- the text goes on here, and the place after the number is further on
  pub numbers_within : i < length s
  numbers_within = (drop_byte s i 9 a.tab_is (omega arith)).0

  pub numbers_on : (v next : ℕ) → x ≡ Some (v, next) → i < next
  numbers_on v next h = omega (arith, (number_value_law (i + 1) (first (drop (i + 1) s)) v next (sym a.says ∙ h)).place)

module _ (s : List ℕ) (from i k : ℕ) (ns : List ℕ) (inv : NumbersSoFar s from i k ns) where
  -- an LF, and any other byte
  pub numbers_ended : slice_index_or s i 0 ≡ 10 → Some record { count = k; numbers = ns; next = i + 1 } ≡ row_in [] from (drop from s)
  unfolding row_in line
  numbers_ended e =
      let d = (drop_byte s i 10 e (omega arith)).1 in
      let f = inv.form ∙ ap (well_formed []) d ∙ formed_lf (drop (i + 1) s) in
      let n = ap numbers_of d ∙ numbers_lf (drop (i + 1) s) in
      let k' : k ≡ length (numbers_of (drop from s)) = omega (arith, inv.few, ap length n) in
      let m : ns ≡ pad most_numbers (numbers_of (drop from s)) =
      ap (sets ns k) (sym n) ∙ inv.kept ∙ sets_zeros most_numbers most_numbers (numbers_of (drop from s)) (le_refl most_numbers) in
      let l : length (line (drop i s)) ≡ 1 = ap (λ (u : List ℕ). length (line u)) d in
      let z : i + 1 ≡ from + length (line (drop from s)) = omega (arith, inv.size) in
      rw (f, ← k', ← m, ← z)

  pub numbers_other : (slice_index s i ≢ 9) → (slice_index s i ≢ 10) → None ≡ row_in [] from (drop from s)
  numbers_other h g = row_refused [] from (drop from s) (inv.form ∙ formed_other s i h g)

-- a byte of a field, and this one
abbrev pub is_byte : ℕ → ℕ → Bool
is_byte b c = not (b == 10) && not (b == 9) && b == c

-- a text begins with it
unfoldable pub begins : ℕ → List ℕ → Bool
begins c [] = false
begins c (b ∷ t) = is_byte b c

-- it begins with these, so that a field does
unfoldable pub starts : List ℕ → List ℕ → Bool
starts [] t = true
starts (c ∷ w) t = begins c t && starts w (drop 1 t)

-- the place behind a word, if the text begins with it
unfoldable pub word_in : List ℕ → ℕ → List ℕ → Option ℕ
word_in w from t = cond (starts w t) (Some (from + length w)) None

-- a word's first byte
pub formed_byte : (c : ℕ) (w t : List ℕ) → well_formed (c ∷ w) t ≡ (begins c t && well_formed w (drop 1 t))
unfolding well_formed fields same begins ended
formed_byte c w [] = refl
formed_byte c w (b ∷ t) = go b t (sep b)
  where
    go : (b : ℕ) (t : List ℕ) → Sep b → well_formed (c ∷ w) (b ∷ t) ≡ (is_byte b c && well_formed w t)
    go b t is_tab = refl
    go b t is_lf = refl
    go b t (within e f) =
        rw (e, f, fields_parts t)
        elim (b == c) as (λ x. (x && same (first t) w && all_numbers (more t) && ended t) ≡ (x && (same (first t) w && all_numbers (more t) && ended t)))
        [ true ↦ refl | false ↦ refl ]

-- past a byte of a field: the same numbers, one byte less of the line
pub numbers_byte : (c : ℕ) (t : List ℕ) → begins c t ≡ true → numbers_of (drop 1 t) ≡ numbers_of t
unfolding begins numbers_of
numbers_byte c [] h = refl
numbers_byte c (b ∷ t) h = go b t (sep b) h
  where
    go : (b : ℕ) (t : List ℕ) → Sep b → is_byte b c ≡ true → values_of (more t) ≡ values_of (more (b ∷ t))
    go b t is_tab h = absurd (false≢true h)
    go b t is_lf h = absurd (false≢true h)
    go b t (within e f) h = ap values_of (sym (more_within b t e f))

pub line_byte : (c : ℕ) (t : List ℕ) → begins c t ≡ true → length (line t) ≡ suc (length (line (drop 1 t)))
unfolding begins
line_byte c [] h = absurd (false≢true h)
line_byte c (b ∷ t) h = go b t (sep b) h
  where
    go : (b : ℕ) (t : List ℕ) → Sep b → is_byte b c ≡ true → length (line (b ∷ t)) ≡ suc (length (line t))
    go b t is_tab h = ap length (line_within 9 t refl)
    go b t is_lf h = absurd (false≢true h)
    go b t (within e f) h = ap length (line_within b t e)

pub drop_one : (n : ℕ) (t : List ℕ) → drop (suc n) t ≡ drop n (drop 1 t)
drop_one n [] = sym (drop-nil n)
drop_one n (b ∷ t) = refl

-- a word: its bytes one by one
pub formed_word : (w t : List ℕ) → well_formed w t ≡ (starts w t && well_formed [] (drop (length w) t))
unfolding starts
formed_word [] t = refl
formed_word (c ∷ w) t = formed_byte c w t ∙ go (begins c t) (formed_word w (drop 1 t)) (drop_one (length w) t)
  where
    go : (b : Bool) → well_formed w (drop 1 t) ≡ (starts w (drop 1 t) && well_formed [] (drop (length w) (drop 1 t)))
        → drop (suc (length w)) t ≡ drop (length w) (drop 1 t)
        → (b && well_formed w (drop 1 t)) ≡ (b && starts w (drop 1 t) && well_formed [] (drop (suc (length w)) t))
    go true h e = rw e h
    go false h e = refl

pub record Word (w t : List ℕ) : Type 0 where
  pub same_numbers : numbers_of (drop (length w) t) ≡ numbers_of t
  pub same_line : length (line t) ≡ length w + length (line (drop (length w) t))

pub word_past : (w t : List ℕ) → starts w t ≡ true → Word w t
unfolding starts
word_past [] t h = record { same_numbers = refl; same_line = omega arith }
word_past (c ∷ w) t h =
    let b = and_l (begins c t) (starts w (drop 1 t)) h in
    let p = word_past w (drop 1 t) (and_r (begins c t) (starts w (drop 1 t)) h) in
    let e = drop_one (length w) t in
    record {
      same_numbers = ap numbers_of e ∙ p.same_numbers ∙ numbers_byte c t b;
      same_line = rw e (omega (arith, p.same_line, line_byte c t b));
    }

-- a line of this word is the word and then a line of numbers
pub row_word : (w : List ℕ) (from : ℕ) (t : List ℕ) → starts w t ≡ true → row_in [] (from + length w) (drop (length w) t) ≡ row_in w from t
unfolding row_in
row_word w from t h =
    let p = word_past w t h in
    let z : from + length w + length (line (drop (length w) t)) ≡ from + length (line t) = omega (arith, p.same_line) in
    go (well_formed [] (drop (length w) t)) (well_formed w t) (formed_word w t ∙ rw h) p.same_numbers z
  where
    go : (x y : Bool) → y ≡ x → numbers_of (drop (length w) t) ≡ numbers_of t → from + length w + length (line (drop (length w) t)) ≡ from + length (line t)
        → row_if x (from + length w) (drop (length w) t) ≡ row_if y from t
    go true y e n z = rw (e, n, z)
    go false y e n z = rw e

pub row_wordless : (w : List ℕ) (from : ℕ) (t : List ℕ) → starts w t ≡ false → None ≡ row_in w from t
row_wordless w from t h = row_refused w from t (formed_word w t ∙ rw h)

-- a byte that a text begins with
pub begins_inside : (s : List ℕ) (c at : ℕ) → begins c (drop at s) ≡ true → at < length s
unfolding begins
begins_inside s c at h =
    elim (dec_le (length s) at) [
      | yes k ↦ absurd (false≢true (ap (begins c) (sym (drop_of_length-le s k)) ∙ h))
      | no k ↦ omega arith
    ]

pub begins_here : (s : List ℕ) (c at : ℕ) → at < length s → begins c (drop at s) ≡ is_byte (slice_index s at) c
unfolding begins
begins_here s c at h = rw (drop-cons s at 0 h)

pub begins_beyond : (s : List ℕ) (c at : ℕ) → length s ≤ at → begins c (drop at s) ≡ false
unfolding begins
begins_beyond s c at h = rw (drop_of_length-le s h)

-- the comparison of a word that has come to its byte i, at this place of the text
pub record Spelling (s w : List ℕ) (from i at : ℕ) : Type 0 where
  pub left : starts w (drop from s) ≡ starts (drop i w) (drop at s)
  pub place : at ≡ from + i
  pub short : i ≤ length w

pub spelling_start : (s w : List ℕ) (from : ℕ) → Spelling s w from 0 from
spelling_start s w from = record { left = refl; place = omega arith; short = zero-le }

module _ (s w : List ℕ) (from i at : ℕ) (inv : Spelling s w from i at) where
  pub spelled : i < length w → starts w (drop from s) ≡ (begins (slice_index w i) (drop at s) && starts (drop (suc i) w) (drop 1 (drop at s)))
  unfolding starts
  spelled h = inv.left ∙ rw (drop-cons w i 0 h)

  pub spelling_more : i < length w → begins (slice_index w i) (drop at s) ≡ true → Spelling s w from (i + 1) (at + 1)
  spelling_more h b =
      record {
        left = spelled h ∙ rw (b, add-one, drop-drop 1 at s);
        place = omega (arith, inv.place);
        short = omega arith;
      }

  pub spelling_end : length w ≤ i → Some at ≡ word_in w from (drop from s)
  unfolding word_in starts
  spelling_end h =
      let z : at ≡ from + length w = omega (arith, inv.place, inv.short) in
      rw (inv.left, drop_of_length-le w h, z)

  pub spelling_inside : begins (slice_index w i) (drop at s) ≡ true → at < length s
  spelling_inside h = begins_inside s (slice_index w i) at h

  pub spelling_other : i < length w → begins (slice_index w i) (drop at s) ≡ false → None ≡ word_in w from (drop from s)
  unfolding word_in
  spelling_other h b = rw (spelled h, b)

-- where the word stands, the line is one of numbers from its end on; and where it does not
pub word_stands : (w : List ℕ) (from at : ℕ) (t : List ℕ) → Some at ≡ word_in w from t → (starts w t ≡ true) × (at ≡ from + length w)
unfolding word_in
word_stands w from at t h = go (starts w t) h
  where
    go : (b : Bool) → Some at ≡ cond b (Some (from + length w)) None → (b ≡ true) × (at ≡ from + length w)
    go true e = (refl, (cc))
    go false e = absurd (cc)

pub word_lacks : (w : List ℕ) (from : ℕ) (t : List ℕ) → None ≡ word_in w from t → starts w t ≡ false
unfolding word_in
word_lacks w from t h = go (starts w t) h
  where
    go : (b : Bool) → None ≡ cond b (Some (from + length w)) None → b ≡ false
    go true e = absurd (cc)
    go false e = refl

pub word_row : (s w : List ℕ) (from at : ℕ) → Some at ≡ word_in w from (drop from s) → row_in [] at (drop at s) ≡ row_in w from (drop from s)
word_row s w from at h =
    let p = word_stands w from at (drop from s) h in rw (p.1, ← (drop-drop (length w) from s)) (row_word w from (drop from s) p.0)

pub no_word_row : (s w : List ℕ) (from : ℕ) → None ≡ word_in w from (drop from s) → None ≡ row_in w from (drop from s)
no_word_row s w from h = row_wordless w from (drop from s) (word_lacks w from (drop from s) h)
