-- Request 2, "it repeats": slot t of the run sends what the superframe's rows of slot t mod hyper-period stand for, on the channels of slot t, and
-- so the slot's report says.
use Rattle.std.specs.Prelude.{◌≡◌, refl, List, [], ◌∷◌, map, ℕ, ◌+◌, ◌/◌, ◌%◌, ◌≤◌, ◌<◌, length}
use Rattle.std.proofs.Common.{sym, ap, ap₂, ◌∙◌, mod-lt, arith}
use Rattle.std.proofs.Math.Nat.{mod-le}
use Rattle.model.specs.declared.kinds.FlowSet.{FlowSet}
use Rattle.model.specs.declared.kinds.State.{State}
use Rattle.model.specs.declared.answers.Send.{Send}
use Rattle.model.specs.declared.answers.Stepped.{Stepped}
use Rattle.model.specs.Limits.{most_channels, last_slot}
use Rattle.document.specs.Delay.{period}
use Rattle.document.specs.Machine.{Priority, had_at, placed_with, send_of, sends_from, sends_with, sends_at, no_send, filled, run_of}
use Rattle.document.specs.Superframe.{hyper, superframe, rows_from}
use Rattle.laws.specs.Members.{memb_head, memb_tail}
use Rattle.promise.specs.Repeated.{RepeatsIn, send_of_row, sends_by_table}
use Rattle.promise.specs.SlotChoice.{Ordering}
use Rattle.promise.specs.SameChoice.{Below}
use Rattle.promise.specs.DeadlineOrder.{deadline_order}
use Rattle.promise.specs.RunStates.{state_at, choice, state_slot, report_good}
use Rattle.promise.specs.Shifts.{AllFromZero, Whole, Shifts, deadline_shifts, whole_times}
use Rattle.promise.specs.ShiftedSlots.{placed_same}
use Rattle.promise.specs.ShiftedRun.{slot_shifted}
use Rattle.promise.specs.SlotRows.{rows_of_slot_law}

-- a transmission is what its row stands for, in any state in which its packet has had as many
send_is_row : (s : FlowSet) (st later : State) (t k o : ℕ) → later.slot.0 ≡ t → had_at s later k ≡ had_at s st k
    → send_of s later k o ≡ send_of_row s t (st.slot.0 ∷ k ∷ had_at s st k ∷ o ∷ [])
unfolding send_of
send_is_row s st later t k o e h = ap₂ (λ (u i : ℕ). send_of_row s u (st.slot.0 ∷ k ∷ i ∷ o ∷ [])) e h

-- so it is with all that are placed
sends_are_rows : (s : FlowSet) (st later : State) (t : ℕ) → later.slot.0 ≡ t → ((k : ℕ) → k < s.count → had_at s later k ≡ had_at s st k)
    → (o : ℕ) (ks : List ℕ) → Below s.count ks → sends_from s later o ks ≡ map (send_of_row s t) (rows_from s st o ks)
unfolding sends_from rows_from
sends_are_rows s st later t e h o [] b = refl
sends_are_rows s st later t e h o (k ∷ ks) b =
    ap₂ (λ (x : Send) (l : List Send). x ∷ l) (send_is_row s st later t k o e (h k (b k (memb_head k ks))))
    (sends_are_rows s st later t e h (o + 1) ks (λ l i. b l (memb_tail l k ks i)))

module _ {first : Priority} (order : Ordering first) (shifts : Shifts first) {s : FlowSet} {h : ℕ} (w : Whole s h) where
  -- with an order that shifts, slot t sends what slot t mod h has rows of
  pub sends_again : (t : ℕ) → t ≤ last_slot
      → sends_with first s (state_at first s t)
      ≡ map (send_of_row s t) (rows_from s (state_at first s (t % h)) 0 (placed_with first s (state_at first s (t % h))))
  sends_again t l =
      let st = state_at first s (t % h) in
      let d = slot_shifted order shifts w t l in
      ap (sends_from s (state_at first s t) 0) (placed_same (whole_times w (t / h)) st (state_at first s t) d shifts)
      ∙ sends_are_rows s st (state_at first s t) t (state_slot order s w.zero_starts.0 t l) d.had 0 (placed_with first s st)
      (λ k i. ((choice order s st).only k i).0)

module _ (s : FlowSet) (z : AllFromZero s) (positive : 0 < hyper s) (divided : (k : ℕ) → k < s.count → hyper s % period s k ≡ 0) where
  sends_by_table_law : (t : ℕ) → t < last_slot → sends_at s (run_of s t).last ≡ sends_by_table s (superframe s) (hyper s) t
  sends_by_table_law t l =
      let w : Whole s (hyper s) = record { zero_starts = z; divided = divided } in
      let a = mod-lt t positive in
      let b = mod-le t (hyper s) in
      sends_again deadline_order deadline_shifts w t (omega arith)
      ∙ ap (map (send_of_row s t)) (sym (rows_of_slot_law s z.0 (t % hyper s) (hyper s) a (omega arith)))

  -- Slot t repeats what the table has, whatever the length of the hyper-period.
  pub repeats_in : (t : ℕ) → t < last_slot → RepeatsIn s t
  repeats_in t l =
      let e = sends_by_table_law t l in
      let r = report_good deadline_order s z.0 t l in
      record {
        sends = e;
        count = ap (λ (r : Stepped). r.sends) r ∙ ap length e;
        list = ap (λ (r : Stepped). r.sent) r ∙ ap (filled most_channels no_send) e;
      }
