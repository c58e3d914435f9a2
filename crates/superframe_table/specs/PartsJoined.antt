-- All parts together are the table's text, whatever the buffers' lengths.
use Rattle.std.specs.Prelude.{◌≡◌, refl, true, List, [], ◌++◌}
use Rattle.std.proofs.Common.{sym, ap, ◌∙◌, append-nil, append_assoc, add-suc, add-zero, add-one}
use Prim.Native.Nat.{ℕ, zero, suc, ◌+◌, ◌≤◌, ◌<◌, min}
use native.Mathlib.Omega.{arith}
use Rattle.model.specs.declared.kinds.FlowSet.{FlowSet}
use Rattle.model.specs.declared.kinds.State.{State}
use Rattle.model.specs.Limits.{last_slot}
use Rattle.model.specs.Refusals.{good}
use Rattle.model.specs.Sets.{fresh_state}
use Rattle.document.specs.Reader.{record_fault}
use Rattle.document.specs.Machine.{ahead, run_of, run_with, step_of}
use Rattle.document.specs.Superframe.{row_lines, rows_at, rows_to, rows_to_with}
use Rattle.machine.specs.States.{run_with_good, good_not_bad, step_no_fault}
use Rattle.text.specs.WrittenRows.{lines_append}
use Rattle.superframe_table.specs.Parts.{slot_rows, state_after, rows_more, most_slot, part_slots, part_text, parts_state, parts_text}

-- steps from slot a of the run lead to its later slots
pub run_after : (s : FlowSet) (a b : ℕ) → state_after s (run_of s a).last b ≡ (run_of s (a + b)).last
unfolding state_after run_with
run_after s a zero = rw (add-zero a)
run_after s a (suc b) = rw (add-suc a b) (ap (λ (st : State). (step_of s st).next) (run_after s a b))

-- the state after one part more
pub parts_next : (s : FlowSet) (h : ℕ) (room : ℕ → ℕ) (n : ℕ)
    → state_after s (parts_state s h room n) (part_slots h (parts_state s h room n) (room n)) ≡ parts_state s h room (n + 1)
unfolding parts_state
parts_next s h room n = rw (add-one n)

module _ (s : FlowSet) (g : good (record_fault s).refusal ≡ true) where
  -- a slot of the run below the last is not refused
  run_rows : (t : ℕ) → t < last_slot → slot_rows s (run_of s t).last ≡ rows_at s (run_of s t).last
  unfolding slot_rows
  run_rows t h =
      let r = run_with_good ahead s g t (omega arith) in
      rw (step_no_fault s (run_of s t).last g (good_not_bad s (run_of s t).last r.good_last) (omega (arith, r.slot_is)))

  -- the table of a + b slots is that of a, and then the rows of b slots from there
  pub rows_more_law : (a b : ℕ) → a + b ≤ last_slot → rows_to s (a + b) ≡ rows_to s a ++ rows_more s (run_of s a).last b
  unfolding rows_to_with rows_more
  rows_more_law a zero h = rw (add-zero a) (sym (append-nil (rows_to s a)))
  rows_more_law a (suc b) h =
      rw (add-suc a b, run_after s a b, run_rows (a + b) (omega arith), rows_more_law a b (omega arith))
      (append_assoc (rows_to s a) (rows_more s (run_of s a).last b) (rows_at s (run_of s (a + b)).last))

  -- after some parts of a table of h slots: the state is the run's in slot t, and the bytes so far are the lines of t slots
  record PartsTo (h : ℕ) (st : State) (bytes : List ℕ) (t : ℕ) : Type 0 where
    pub state : st ≡ (run_of s t).last
    pub text : bytes ≡ row_lines (rows_to s t)
    pub within : t ≤ h

  module _ (h : ℕ) (l : h ≤ last_slot) where
    slot_of : (st : State) (bytes : List ℕ) (t : ℕ) → PartsTo h st bytes t → st.slot.0 ≡ t
    slot_of st bytes t p = ap (λ (x : State). x.slot.0) p.state ∙ (run_with_good ahead s g t (omega (arith, p.within))).slot_is

    parts_start : PartsTo h fresh_state [] 0
    unfolding rows_to_with row_lines run_with
    parts_start = record { state = refl; text = refl; within = omega arith }

    parts_step : (st : State) (bytes : List ℕ) (t : ℕ) → PartsTo h st bytes t → (n : ℕ) → t + n ≤ h
        → PartsTo h (state_after s st n) (bytes ++ part_text s st n) (t + n)
    parts_step st bytes t p n m =
        record {
          state = ap (λ (x : State). state_after s x n) p.state ∙ run_after s t n;
          text =
              rw (p.text, p.state) (sym (ap row_lines (rows_more_law t n (omega arith)) ∙ lines_append (rows_to s t) (rows_more s (run_of s t).last n)));
          within = m;
        }

    module _ (room : ℕ → ℕ) where
      -- how many slots n parts have
      slots : ℕ → ℕ
      slots zero = 0
      slots (suc n) = slots n + part_slots h (parts_state s h room n) (room n)

      parts_so_far : (n : ℕ) → PartsTo h (parts_state s h room n) (parts_text s h room n) (slots n)
      unfolding parts_state parts_text slots
      parts_so_far zero = parts_start
      parts_so_far (suc n) =
          let p = parts_so_far n in
          let e = slot_of _ _ _ p in
          parts_step _ _ _ p (part_slots h (parts_state s h room n) (room n)) (omega (arith, p.within))

      slots_are : (n : ℕ) → (parts_state s h room n).slot.0 ≡ slots n
      slots_are n = slot_of _ _ _ (parts_so_far n)

      -- parts that reach the hyper-period are the whole text
      pub parts_whole : (n : ℕ) → (parts_state s h room n).slot.0 ≡ h → parts_text s h room n ≡ row_lines (rows_to s h)
      parts_whole n e = (parts_so_far n).text ∙ ap (λ (t : ℕ). row_lines (rows_to s t)) (sym (slots_are n) ∙ e)

      -- none goes beyond it
      pub parts_within : (n : ℕ) → (parts_state s h room n).slot.0 ≤ h
      parts_within n = omega (arith, slots_are n, (parts_so_far n).within)

      -- one part more
      pub parts_slot : (n : ℕ) → (parts_state s h room (n + 1)).slot.0 ≡ (parts_state s h room n).slot.0 + part_slots h (parts_state s h room n) (room n)
      unfolding slots
      parts_slot n = rw (add-one n) (omega (arith, slots_are (suc n), slots_are n))

      -- a part with room for one slot has one, so h parts reach the hyper-period
      pub parts_rise : ((i : ℕ) → most_slot ≤ room i) → (n : ℕ) → min n h ≤ (parts_state s h room n).slot.0
      parts_rise r zero = omega arith
      parts_rise r (suc n) = omega (arith, parts_rise r n, r n, rw (add-one n) at (parts_slot n))

      pub parts_end : ((i : ℕ) → most_slot ≤ room i) → (n : ℕ) → h ≤ n → (parts_state s h room n).slot.0 ≡ h
      parts_end r n m = omega (arith, parts_rise r n, parts_within n)
