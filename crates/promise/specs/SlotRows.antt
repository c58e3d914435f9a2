-- The rows of a table: laws of lists of rows, of the rows of one slot, and of those of the first n slots of the run.
use Rattle.std.specs.Prelude.{◌≡◌, ◌≢◌, Bool, true, false, cond, ltb, eqb, length}
use Rattle.std.proofs.Math.Path.{refl, ap, ap₂}
use Rattle.std.proofs.Common.{sym, ◌∙◌, le_refl, add-zero, length-append, lt-ltb, eq-eqb, ne_eqb}
use Rattle.std.proofs.Math.Bool.{or-true}
use mathlib.Core.List.{List, [], ◌∷◌, ◌++◌, append-nil}
use Prim.Native.Nat.{ℕ, zero, suc, ◌+◌, ◌*◌, ◌≤◌, ◌<◌, min}
use Rattle.std.proofs.Math.Decide.{dec_le}
use native.Mathlib.Omega.{arith}
use Rattle.std.proofs.Math.ListN.{get_or}
use Rattle.model.specs.declared.kinds.FlowSet.{FlowSet}
use Rattle.model.specs.declared.kinds.State.{State}
use Rattle.model.specs.Limits.{last_slot}
use Rattle.model.specs.Refusals.{good}
use Rattle.model.specs.Sums.{sum_to}
use Rattle.document.specs.Reader.{record_fault}
use Rattle.document.specs.Delay.{ways}
use Rattle.document.specs.Machine.{had_at, placed_at, run_of}
use Rattle.document.specs.Superframe.{rows_from, rows_at, rows_to, rows_to_with, above, rising_from}
use Rattle.laws.specs.SumLaws.{sum_le, sum_const, and_l, and_r, and_i, or_l}
use Rattle.promise.specs.Repeated.{slot_of, offset_of, rows_of_slot}
use Rattle.promise.specs.DeadlineOrder.{deadline_order}
use Rattle.promise.specs.RunStates.{choice, every_slot}

-- every row of a list has P
abbrev pub Each : (List ℕ → Type 0) → List (List ℕ) → Type 0
Each P rs = (i : ℕ) → i < length rs → P (get_or rs i [])

pub each_append : (P : List ℕ → Type 0) (a b : List (List ℕ)) → Each P a → Each P b → Each P (a ++ b)
each_append P [] b f g i l = g i l
each_append P (r ∷ a) b f g zero l = f 0 (omega arith)
each_append P (r ∷ a) b f g (suc i) l = each_append P a b (λ j k. f (suc j) (omega arith)) g i (omega arith)

-- rows that rise after row q, and then rows that rise after each of these
pub rising_append : (P : List ℕ → Type 0) (q : List ℕ) (a b : List (List ℕ)) → rising_from q a ≡ true → P q → Each P a
    → ((r : List ℕ) → P r → rising_from r b ≡ true) → rising_from q (a ++ b) ≡ true
unfolding rising_from
rising_append P q [] b h p f g = g q p
rising_append P q (r ∷ a) b h p f g =
    and_i (above q r) _ (and_l (above q r) _ h)
    (rising_append P r a b (and_r (above q r) _ h) (f 0 (omega arith)) (λ i l. f (suc i) (omega arith)) g)

-- a row of a later slot is above, and one of the same slot with a higher offset
pub above_slot : (q r : List ℕ) → slot_of q < slot_of r → above q r ≡ true
unfolding above
above_slot [] r h = refl
above_slot (t ∷ q) r h = or_l _ _ (lt-ltb t (slot_of r) h)

pub above_offset : (t k i o : ℕ) (r : List ℕ) → slot_of r ≡ t → o < offset_of r → above (t ∷ k ∷ i ∷ o ∷ []) r ≡ true
unfolding above
above_offset t k i o r e l = rw (eq-eqb t (slot_of r) (sym e), lt-ltb o (offset_of r) l) (or-true (ltb t (slot_of r)))

-- the rows of slot u, of two tables one after the other
pub slot_append : (u : ℕ) (a b : List (List ℕ)) → rows_of_slot u (a ++ b) ≡ rows_of_slot u a ++ rows_of_slot u b
unfolding rows_of_slot
slot_append u [] b = refl
slot_append u (r ∷ a) b = go (eqb (slot_of r) u) (slot_append u a b)
  where
    go : (c : Bool) → rows_of_slot u (a ++ b) ≡ rows_of_slot u a ++ rows_of_slot u b
        → cond c (r ∷ rows_of_slot u (a ++ b)) (rows_of_slot u (a ++ b)) ≡ cond c (r ∷ rows_of_slot u a) (rows_of_slot u a) ++ rows_of_slot u b
    go true e = ap (λ (x : List (List ℕ)). r ∷ x) e
    go false e = e

-- From here on: the rows of one state's slot, from offset o on, of the flows ks.
module _ (s : FlowSet) (st : State) where
  -- one for each flow, at its place
  pub rows_length : (o : ℕ) (ks : List ℕ) → length (rows_from s st o ks) ≡ length ks
  unfolding rows_from
  rows_length o [] = refl
  rows_length o (k ∷ ks) = ap suc (rows_length (o + 1) ks)

  pub rows_at_law : (o : ℕ) (ks : List ℕ) (p : ℕ) → p < length ks
      → get_or (rows_from s st o ks) p [] ≡ st.slot.0 ∷ get_or ks p 0 ∷ had_at s st (get_or ks p 0) ∷ (o + p) ∷ []
  unfolding rows_from
  rows_at_law o [] p h = absurd (omega arith)
  rows_at_law o (k ∷ ks) zero h = rw (add-zero o)
  rows_at_law o (k ∷ ks) (suc p) h =
      let e : o + 1 + p ≡ o + suc p = omega arith in
      rows_at_law (o + 1) ks p (omega arith)
      ∙ ap (λ (x : ℕ). st.slot.0 ∷ get_or ks p 0 ∷ had_at s st (get_or ks p 0) ∷ x ∷ []) e

  -- they rise, by their offsets
  pub rows_rise : (q : List ℕ) (o : ℕ) (ks : List ℕ) → ((r : List ℕ) → slot_of r ≡ st.slot.0 → o ≤ offset_of r → above q r ≡ true)
      → rising_from q (rows_from s st o ks) ≡ true
  unfolding rows_from rising_from
  rows_rise q o [] f = refl
  rows_rise q o (k ∷ ks) f =
      let row = st.slot.0 ∷ k ∷ had_at s st k ∷ o ∷ [] in
      and_i _ _ (f row refl (le_refl o)) (rows_rise row (o + 1) ks (λ r e l. above_offset st.slot.0 k (had_at s st k) o r e (omega arith)))

  -- all of them are of this slot, and none of another
  pub slot_own : (u o : ℕ) (ks : List ℕ) → st.slot.0 ≡ u → rows_of_slot u (rows_from s st o ks) ≡ rows_from s st o ks
  unfolding rows_from rows_of_slot
  slot_own u o [] e = refl
  slot_own u o (k ∷ ks) e = rw (eq-eqb st.slot.0 u e, slot_own u (o + 1) ks e)

  pub slot_other : (u o : ℕ) (ks : List ℕ) → st.slot.0 ≢ u → rows_of_slot u (rows_from s st o ks) ≡ []
  unfolding rows_from rows_of_slot
  slot_other u o [] e = refl
  slot_other u o (k ∷ ks) e = rw (ne_eqb st.slot.0 u e, slot_other u (o + 1) ks e)

-- as many rows as flows are placed in these slots
pub table_rows : (s : FlowSet) (n : ℕ) → length (rows_to s n) ≡ sum_to (λ t. length (placed_at s (run_of s t).last)) n
unfolding rows_to_with sum_to
table_rows s zero = refl
table_rows s (suc n) =
    let st = (run_of s n).last in
    length-append (rows_to s n) (rows_at s st) ∙ ap₂ ◌+◌ (table_rows s n) (rows_length s st 0 (placed_at s st))

-- and no more of them in a slot than there are channels
pub rows_most : (s : FlowSet) (n : ℕ) → length (rows_to s n) ≤ n * ways s
rows_most s n =
    let fewer = sum_le (λ t. length (placed_at s (run_of s t).last)) (λ t. ways s) n (λ t l. (choice deadline_order s (run_of s t).last).few) in
    omega (arith, table_rows s n, fewer, sum_const (ways s) n)

-- From here on: the rows of the first n slots of an accepted set's run, which stands still at the last slot.
module _ (s : FlowSet) (g : good (record_fault s).refusal ≡ true) where
  -- slot v of the run adds rows of its own slot alone
  added_none : (u v : ℕ) → (min v last_slot ≡ u → ⊥) → rows_of_slot u (rows_at s (run_of s v).last) ≡ []
  added_none u v e = slot_other s (run_of s v).last u 0 _ (λ q. e (omega (arith, every_slot deadline_order s g v)))

  added_own : (u : ℕ) → u < last_slot → rows_of_slot u (rows_at s (run_of s u).last) ≡ rows_at s (run_of s u).last
  added_own u h = slot_own s (run_of s u).last u 0 _ (omega (arith, every_slot deadline_order s g u))

  -- none of them is of slot n or later,
  pub no_rows : (u n : ℕ) → n ≤ u → rows_of_slot u (rows_to s n) ≡ []
  unfolding rows_to_with rows_of_slot
  no_rows u zero l = refl
  no_rows u (suc n) l =
      slot_append u (rows_to s n) (rows_at s (run_of s n).last) ∙ ap₂ ◌++◌ (no_rows u n (omega arith)) (added_none u n (λ e. omega arith))

  -- and those of an earlier slot are what the run places in it
  pub rows_of_slot_law : (u n : ℕ) → u < n → u < last_slot → rows_of_slot u (rows_to s n) ≡ rows_at s (run_of s u).last
  unfolding rows_to_with
  rows_of_slot_law u zero l h = absurd (omega arith)
  rows_of_slot_law u (suc n) l h =
      slot_append u (rows_to s n) (rows_at s (run_of s n).last)
      ∙ elim (dec_le n u) [
        | yes b ↦ let e : n ≡ u = omega arith in rw e (ap₂ ◌++◌ (no_rows u u (omega arith)) (added_own u h))
        | no b ↦
            ap₂ ◌++◌ (rows_of_slot_law u n (omega arith) h) (added_none u n (λ e. omega arith))
            ∙ append-nil (rows_at s (run_of s u).last)
      ]
