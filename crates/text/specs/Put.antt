-- Laws of bytes that are stored one after the other, as far as a buffer goes.
use Rattle.std.specs.Prelude.{◌≡◌, ℕ, ◌+◌, ◌<◌, ◌≤◌, min, List, [], ◌∷◌, ◌++◌, length, take, slice_index, refl}
use Rattle.std.proofs.Common.{sym, ap, subst, ◌∙◌, append-nil, append_assoc, zero-le, arith, length-append}
use Rattle.std.proofs.Math.Decide.{dec_le}
use Rattle.document.specs.Text.{decimal, decimals, tabbed, line_of}
use Rattle.text.specs.DigitsPut.{sets_append, sets_out, take_next}
use Rattle.std.proofs.lemmas.List.Edits.{sets}
use Rattle.std.proofs.Math.Seq.{length-sets}

-- the last place there is: no buffer is longer
abbrev pub last_place : ℕ
last_place = 18446744073709551615

-- the bytes stand from a place on, as far as the buffer goes, and r is the place after them
pub record Put (o : List ℕ) (at : ℕ) (bytes : List ℕ) (out : List ℕ) (r : ℕ) : Type 0 where
  pub place : r ≡ min (at + length bytes) last_place
  pub stored : out ≡ sets o at bytes

pub put_none : (o : List ℕ) (at : ℕ) → at ≤ last_place → Put o at [] o at
put_none o at h = record { place = omega arith; stored = refl }

-- bytes after bytes
pub put_put : (o : List ℕ) (at : ℕ) (a : List ℕ) (m : List ℕ) (r : ℕ) (b : List ℕ) (n : List ℕ) (q : ℕ)
    → length o ≤ last_place → Put o at a m r → Put m r b n q → Put o at (a ++ b) n q
put_put o at a m r b n q h p s =
    record {
      place = omega (arith, p.place, s.place, length-append a b);
      stored = s.stored ∙ ap (λ (l : List ℕ). sets l r b) p.stored ∙ go ∙ sym (sets_append a b o at);
    }
  where
    go : sets (sets o at a) r b ≡ sets (sets o at a) (at + length a) b
    go =
        elim (dec_le (at + length a) last_place) [
          | yes d ↦ let e : r ≡ at + length a = omega (arith, p.place) in rw e
          | no d ↦
              sets_out b (sets o at a) r (omega (arith, p.place, length-sets o at a))
              ∙ sym (sets_out b (sets o at a) (at + length a) (omega (arith, length-sets o at a)))
        ]

-- the place and the contents after are fixed by the contents before
pub put_once : (o p : List ℕ) (at : ℕ) (bytes m : List ℕ) (r : ℕ) (n : List ℕ) (q : ℕ) → o ≡ p → Put o at bytes m r → Put p at bytes n q
    → (r ≡ q) × (m ≡ n)
put_once o p at bytes m r n q e a b =
    (a.place ∙ sym b.place, a.stored ∙ ap (λ (l : List ℕ). sets l at bytes) e ∙ sym b.stored)

pub put_same : (o : List ℕ) (at : ℕ) (a b : List ℕ) (n : List ℕ) (q : ℕ) → a ≡ b → Put o at a n q → Put o at b n q
put_same o at a b n q e p = subst (λ (l : List ℕ). Put o at l n q) e p

-- the bytes of numbers, each after its tab
unfoldable pub fields_of : List ℕ → List ℕ
fields_of [] = []
fields_of (v ∷ vs) = (9 ∷ decimal v) ++ fields_of vs

-- one number more
pub fields_append : (a b : List ℕ) → fields_of (a ++ b) ≡ fields_of a ++ fields_of b
unfolding fields_of
fields_append [] b = refl
fields_append (v ∷ a) b = rw (fields_append a b, append_assoc (9 ∷ decimal v) (fields_of a) (fields_of b))

fields_one : (v : ℕ) → fields_of (v ∷ []) ≡ 9 ∷ decimal v
unfolding fields_of
fields_one v = append-nil (9 ∷ decimal v)

pub fields_next : (s : List ℕ) (i : ℕ) → i < length s → fields_of (take i s) ++ (9 ∷ decimal (slice_index s i)) ≡ fields_of (take (i + 1) s)
fields_next s i h =
    ap (λ (d : List ℕ). fields_of (take i s) ++ d) (sym (fields_one (slice_index s i)))
    ∙ sym (fields_append (take i s) (slice_index s i ∷ []))
    ∙ ap fields_of (take_next s i h)

-- a line's bytes
pub tabbed_fields : (vs : List ℕ) → tabbed (decimals vs) ≡ fields_of vs ++ (10 ∷ [])
unfolding tabbed decimals fields_of
tabbed_fields [] = refl
tabbed_fields (v ∷ vs) = rw (tabbed_fields vs, append_assoc (9 ∷ decimal v) (fields_of vs) (10 ∷ []))

pub line_parts : (w vs : List ℕ) → (w ++ fields_of vs) ++ (10 ∷ []) ≡ line_of w vs
unfolding line_of
line_parts w vs = append_assoc w (fields_of vs) (10 ∷ []) ∙ ap (λ (l : List ℕ). w ++ l) (sym (tabbed_fields vs))

-- a putting that has come to item i of a list; `f i` is the bytes of its first i items
pub record Putting (o : List ℕ) (at : ℕ) (f : ℕ → List ℕ) (m : ℕ) (out : List ℕ) (place i : ℕ) : Type 0 where
  pub put : Put o at (f i) out place
  pub few : i ≤ m
  pub long : length out ≡ length o

pub putting_start : (o : List ℕ) (at : ℕ) (f : ℕ → List ℕ) (m : ℕ) → f 0 ≡ [] → at ≤ last_place → Putting o at f m o at 0
putting_start o at f m e h = record { put = put_same o at [] (f 0) o at (sym e) (put_none o at h); few = zero-le; long = refl }

module _ (o : List ℕ) (at : ℕ) (f : ℕ → List ℕ) (m : ℕ) (out : List ℕ) (place i : ℕ) (p : Putting o at f m out place i) where
  pub putting_more : (b new : List ℕ) (q : ℕ) → i < m → length o ≤ last_place → f i ++ b ≡ f (i + 1) → Put out place b new q
      → Putting o at f m new q (i + 1)
  putting_more b new q h l e s =
      record {
        put = put_same o at (f i ++ b) (f (i + 1)) new q e (put_put o at (f i) out place b new q l p.put s);
        few = omega arith;
        long = ap length s.stored ∙ length-sets out place b ∙ p.long;
      }

  pub putting_done : (b : List ℕ) → m ≤ i → f m ≡ b → Put o at b out place
  putting_done b h e =
      let z : i ≡ m = omega (arith, p.few) in put_same o at (f i) b out place (ap f z ∙ e) p.put
