-- Request 2, theorem 4: the shape of the superframe. The rows of the first n slots of any accepted set's run have it, since each slot's rows are
-- those of its placed flows, at offsets 0, 1, 2 .., and each slot is above those before it.
use Rattle.std.specs.Prelude.{◌≡◌, true, length, get_or}
use Rattle.std.proofs.Math.Path.{refl}
use Rattle.std.proofs.Common.{ap, ◌∙◌, zero-add, arith}
use mathlib.Core.List.{List, []}
use Prim.Native.Nat.{ℕ, zero, suc, ◌≤◌, ◌<◌}
use Rattle.std.proofs.Math.Decide.{dec_le}
use Rattle.model.specs.declared.kinds.FlowSet.{FlowSet}
use Rattle.model.specs.declared.kinds.State.{State}
use Rattle.model.specs.Limits.{last_slot}
use Rattle.model.specs.Refusals.{good}
use Rattle.document.specs.Reader.{record_fault}
use Rattle.document.specs.Delay.{ways, work_at}
use Rattle.document.specs.Machine.{placed_at, run_of}
use Rattle.document.specs.Superframe.{rows_at, rows_to, rows_to_with, above, rising_from, rising}
use Rattle.laws.specs.Members.{memb_at}
use Rattle.promise.specs.Repeated.{slot_of, flow_of, number_of, offset_of, rows_of_slot, Shaped}
use Rattle.promise.specs.DeadlineOrder.{deadline_order}
use Rattle.promise.specs.RunStates.{choice, ready_case, state_slot}
use Rattle.promise.specs.SlotRows.{Each, each_append, rising_append, above_slot, rows_length, rows_at_law, rows_rise, no_rows, rows_of_slot_law}

-- a row of a table of n slots: four numbers, a slot below n, a flow, a number below its C, an offset below m
record RowBelow (s : FlowSet) (n : ℕ) (r : List ℕ) : Type 0 where
  four : length r ≡ 4
  slot : slot_of r < n
  flow : flow_of r < s.count
  number : number_of r < work_at s (flow_of r)
  offset : offset_of r < ways s

row_more : (s : FlowSet) (n : ℕ) (r : List ℕ) → RowBelow s n r → RowBelow s (suc n) r
row_more s n r w = record { four = w.four; slot = omega (arith, w.slot); flow = w.flow; number = w.number; offset = w.offset }

-- the rows of a slot are such rows: placed flows were ready, and are at most m
slot_rows_law : (s : FlowSet) (st : State) (n : ℕ) → st.slot.0 < n → Each (RowBelow s n) (rows_at s st)
slot_rows_law s st n h p l =
    let i : p < length (placed_at s st) = omega (arith, rows_length s st 0 (placed_at s st)) in
    let c = choice deadline_order s st in
    let w = c.only (get_or (placed_at s st) p 0) (memb_at (placed_at s st) p i) in
    rw (rows_at_law s st 0 (placed_at s st) p i)
    (record { four = refl; slot = h; flow = w.0; number = (ready_case s st _ w.1).2; offset = omega (arith, c.few) })

-- and the offset of each is its place
slot_places : (s : FlowSet) (st : State) (p : ℕ) → p < length (rows_at s st) → offset_of (get_or (rows_at s st) p []) ≡ p
slot_places s st p l =
    ap offset_of (rows_at_law s st 0 (placed_at s st) p (omega (arith, rows_length s st 0 (placed_at s st)))) ∙ zero-add p

module _ (s : FlowSet) (g : good (record_fault s).refusal ≡ true) where
  slot_eq : (n : ℕ) → n ≤ last_slot → (run_of s n).last.slot.0 ≡ n
  slot_eq = state_slot deadline_order s g

  all_rows : (n : ℕ) → n ≤ last_slot → Each (RowBelow s n) (rows_to s n)
  unfolding rows_to_with
  all_rows zero h i l = absurd (omega arith)
  all_rows (suc n) h i l =
      each_append (RowBelow s (suc n)) (rows_to s n) (rows_at s (run_of s n).last) (λ j k. row_more s n _ (all_rows n (omega arith) j k))
      (slot_rows_law s (run_of s n).last (suc n) (omega (arith, slot_eq n (omega arith)))) i l

  -- every row of slot n is above the rows of the first n
  all_rise : (n : ℕ) → n ≤ last_slot → rising (rows_to s n) ≡ true
  unfolding rows_to_with rising_from above
  all_rise zero h = refl
  all_rise (suc n) h =
      rising_append Under [] (rows_to s n) (rows_at s st) (all_rise n (omega arith)) (λ r e. refl) under
      (λ q f. rows_rise s st q 0 (placed_at s st) (λ r e l. f r e))
    where
      st : State
      st = (run_of s n).last

      Under : List ℕ → Type 0
      Under q = (r : List ℕ) → slot_of r ≡ st.slot.0 → above q r ≡ true

      under : Each Under (rows_to s n)
      under i l r e =
          above_slot (get_or (rows_to s n) i []) r (omega (arith, (all_rows n (omega arith) i l).slot, slot_eq n (omega arith)))

  all_places : (n : ℕ) → n ≤ last_slot → (u p : ℕ) → p < length (rows_of_slot u (rows_to s n)) → offset_of (get_or (rows_of_slot u (rows_to s n)) p []) ≡ p
  all_places n h u p l =
      elim (dec_le n u) [
        | yes d ↦ absurd (omega (arith, ap (λ (x : List (List ℕ)). length x) (no_rows s g u n d)))
        | no d ↦ let e = rows_of_slot_law s g u n (omega arith) (omega arith) in rw e (slot_places s (run_of s u).last p (rw e at l))
      ]

  -- The rows of the first n slots have the shape of a table of n slots,
  pub rows_shaped : (n : ℕ) → n ≤ last_slot → Shaped s (rows_to s n) n
  rows_shaped n h =
      record {
        rises = all_rise n h;
        four = λ i l. (all_rows n h i l).four;
        slots = λ i l. (all_rows n h i l).slot;
        flows = λ i l. (all_rows n h i l).flow;
        numbers = λ i l. (all_rows n h i l).number;
        offsets = λ i l. (all_rows n h i l).offset;
        places = all_places n h;
      }
