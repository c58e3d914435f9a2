-- The rows of a slot are those of its step's sends, and their lines have at most 320 bytes.
use Rattle.std.specs.Prelude.{◌≡◌, Bool, take, get_or}
use Rattle.std.proofs.Math.Path.{refl, ap}
use Rattle.std.proofs.Common.{sym, ◌∙◌, add-one, arith, take-suc, take_all, le_refl}
use Rattle.std.proofs.Math.Bool.{true, false, cond}
use mathlib.Core.List.{List, [], ◌∷◌, ◌++◌, map, map-append, append-nil}
use Prim.Native.Nat.{ℕ, zero, suc, ◌+◌, ◌-◌, ◌*◌, ◌≤◌, ◌<◌, zero-le}
use Rattle.std.proofs.Math.Nat.{le_trans}
use Rattle.std.proofs.lemmas.Nat.{ones-le}
use Rattle.std.proofs.Math.ListN.{length, length-append}
use Rattle.model.specs.declared.kinds.FlowSet.{FlowSet}
use Rattle.model.specs.declared.kinds.State.{State}
use Rattle.model.specs.declared.answers.Send.{Send}
use Rattle.model.specs.declared.answers.Stepped.{Stepped}
use Rattle.model.specs.Limits.{most_channels, most_flows}
use Rattle.model.specs.Refusals.{good}
use Rattle.model.specs.Sets.{memb, used}
use Rattle.document.specs.Text.{decimal}
use Rattle.document.specs.Reader.{record_fault}
use Rattle.document.specs.Machine.{ahead, count_at, count_after, had_at, next_state, no_send, placed_at, send_of, sends_at, sends_from, step_fault, step_if, step_of, step_with}
use Rattle.document.specs.Superframe.{at_start, row_line, row_lines, rows_from, rows_at}
use Rattle.laws.specs.{Accepted.{accepted, or_else_good, work_small}, Members.{memb_head, memb_tail}, Padded.{take_filled}, Used.{used_map}, WrittenNumbers.{decimal_length, tens}}
use Rattle.promise.specs.{RunStates.{next_count_law, ready_case}, DeadlineOrder.{deadline_order}}
use Rattle.text.specs.{Decimals.{decimal_most}, Lengths.{put_length, put_start}, Put.{Put, last_place}, WrittenRows.{line_size, lines_append}}
use Rattle.machine.specs.{PlacedChoice.{placed_le, placed_ready}, SlotAnswers.{count_after_law}, StepLines.{sends_with_few}}
use Rattle.superframe_table.specs.declared.parts.Part.{Part}
use Rattle.superframe_table.specs.Parts.{send_row, sent_rows, slot_rows, state_after, rows_more, part_of, part_slots, part_text, most_slot}

-- the count of a placed flow after the slot, less 1, is its transmission's number
module _ (s : FlowSet) (st : State) (few : s.count ≤ most_flows) where
  number_is : (k : ℕ) → memb k (placed_at s st) ≡ true → count_at (next_state s st) k - 1 ≡ had_at s st k
  number_is k h =
      let n = next_count_law deadline_order s st k (placed_ready ahead s st k h).0 few in
      let e : count_after s st k ≡ had_at s st k + 1 = count_after_law ahead s st k ∙ rw h in
      omega (arith, n, e)

  -- so the rows of a slot's sends are those of its placed flows
  rows_of_sends : (o : ℕ) (ks : List ℕ) → ((k : ℕ) → memb k ks ≡ true → memb k (placed_at s st) ≡ true)
      → map (send_row (next_state s st)) (sends_from s st o ks) ≡ rows_from s st o ks
  unfolding sends_from send_of rows_from
  rows_of_sends o [] h = refl
  rows_of_sends o (k ∷ ks) h =
      rw (number_is k (h k (memb_head k ks)), rows_of_sends (o + 1) ks (λ l m. h l (memb_tail l k ks m)))

-- how long their lines are: a flow is below 64, a number below C, an offset below 16
two_digits : (n : ℕ) → n < 100 → length (decimal n) ≤ 2
unfolding tens
two_digits n h = decimal_length 1 n (omega arith)

line_le : (t k i o : ℕ) → k < 100 → i < 100 → o < 100 → length (row_line (t ∷ k ∷ i ∷ o ∷ [])) ≤ 20
line_le t k i o a b c =
    let e = line_size t k i o refl refl refl refl in
    omega (arith, e, decimal_most t, two_digits k a, two_digits i b, two_digits o c)

module _ (s : FlowSet) (st : State) (g : good (record_fault s).refusal ≡ true) where
  placed_small : (k : ℕ) → memb k (placed_at s st) ≡ true → (k < 100) × (had_at s st k < 100)
  placed_small k h =
      let a = accepted s g in
      let p = placed_ready ahead s st k h in
      let r = ready_case s st k p.1 in
      (omega (arith, p.0, a.count_le), omega (arith, r.2, work_small _ (a.flow k p.0)))

  rows_le : (o : ℕ) (ks : List ℕ) → ((k : ℕ) → memb k ks ≡ true → memb k (placed_at s st) ≡ true) → o + length ks ≤ most_channels
      → length (row_lines (rows_from s st o ks)) ≤ 20 * length ks
  unfolding rows_from row_lines
  rows_le o [] h l = zero-le
  rows_le o (k ∷ ks) h l =
      let p = placed_small k (h k (memb_head k ks)) in
      let a = line_le st.slot.0 k (had_at s st k) o p.0 p.1 (omega arith) in
      let b = rows_le (o + 1) ks (λ i m. h i (memb_tail i k ks m)) (omega arith) in
      omega (arith, a, b, length-append (row_line (st.slot.0 ∷ k ∷ had_at s st k ∷ o ∷ [])) (row_lines (rows_from s st (o + 1) ks)))

-- what a step's answer has
module _ (s : FlowSet) (m : s.map.0 < 65536) (st : State) where
  step_is : (b : Bool) → good (step_fault (used s) st).refusal ≡ b → step_of (used s) st ≡ step_if (used s) st b
  unfolding step_with
  step_is b e = ap (step_if (used s) st) e

  set_good : good (step_fault (used s) st).refusal ≡ true → good (record_fault (used s)).refusal ≡ true
  unfolding step_fault
  set_good e = (or_else_good (record_fault (used s)) _ e).0

  pub few_sends : (a : Stepped) → a ≡ step_of (used s) st → a.sends ≤ most_channels
  few_sends a e = go (good (step_fault (used s) st).refusal) refl
    where
      go : (b : Bool) → good (step_fault (used s) st).refusal ≡ b → a.sends ≤ most_channels
      go true h = rw (e ∙ step_is true h) (sends_with_few ahead s st m)
      go false h = rw (e ∙ step_is false h) zero-le

  slot_rows_law : (a : Stepped) → a ≡ step_of (used s) st → sent_rows a ≡ slot_rows (used s) st
  unfolding slot_rows
  slot_rows_law a e = go (good (step_fault (used s) st).refusal) refl
    where
      go : (b : Bool) → good (step_fault (used s) st).refusal ≡ b → sent_rows a ≡ cond b (rows_at (used s) st) []
      go true h =
          ap sent_rows (e ∙ step_is true h)
          ∙ ap (λ (l : List Send). map (send_row (next_state (used s) st)) l) (take_filled most_channels no_send (sends_at (used s) st) (sends_with_few ahead s st m))
          ∙ rows_of_sends (used s) st (accepted (used s) (set_good h)).count_le 0 (placed_at (used s) st) (λ k i. i)
      go false h = ap sent_rows (e ∙ step_is false h)

  slot_le : length (row_lines (slot_rows (used s) st)) ≤ most_slot
  unfolding slot_rows row_lines
  slot_le = go (good (step_fault (used s) st).refusal) refl
    where
      go : (b : Bool) → good (step_fault (used s) st).refusal ≡ b → length (row_lines (cond b (rows_at (used s) st) [])) ≤ most_slot
      go true h =
          let n : length (placed_at (used s) st) ≤ most_channels =
          le_trans (placed_le ahead (used s) st) (ones-le 16 (used s).map.0 (rw (used_map s) m)) in
          omega (arith, n, rows_le (used s) st (set_good h) 0 (placed_at (used s) st) (λ k i. i) (omega (arith, n)))
      go false h = zero-le

-- so n slots have at most 320 · n bytes
part_le : (s : FlowSet) → s.map.0 < 65536 → (st : State) (n : ℕ) → length (part_text (used s) st n) ≤ most_slot * n
unfolding rows_more row_lines
part_le s m st zero = zero-le
part_le s m st (suc n) =
    let here = slot_rows (used s) (state_after (used s) st n) in
    let a = part_le s m st n in
    let b = slot_le s m (state_after (used s) st n) in
    rw (lines_append (rows_more (used s) st n) here) (omega (arith, a, b, length-append (part_text (used s) st n) (row_lines here)))

-- and a part fits its room
part_fits : (s : FlowSet) → s.map.0 < 65536 → (st : State) (h room : ℕ) → length (part_text (used s) st (part_slots h st room)) ≤ room
part_fits s m st h room = omega (arith, part_le s m st (part_slots h st room))

pub part_short : (s : FlowSet) → s.map.0 ≤ 65535 → (st : State) (h : ℕ) {part : Part} {room : ℕ} → part ≡ part_of (used s) st (part_slots h st room)
    → part.length ≤ room
part_short s m st h {part} {room} e = omega (arith, ap (λ (p : Part). p.length) e, part_fits s (omega arith) st h room)

-- the rows of one send more
pub sends_next : (next : State) (xs : List Send) (i : ℕ) (d : Send) → i < length xs
    → row_lines (map (send_row next) (take i xs)) ++ row_line (send_row next (get_or xs i d)) ≡ row_lines (map (send_row next) (take (i + 1) xs))
unfolding row_lines
sends_next next xs i d h =
    ap (λ (l : List ℕ). row_lines (map (send_row next) (take i xs)) ++ l) (sym (append-nil (row_line (send_row next (get_or xs i d)))))
    ∙ sym (lines_append (map (send_row next) (take i xs)) (send_row next (get_or xs i d) ∷ []))
    ∙ ap row_lines (sym (map-append (send_row next) (take i xs) (get_or xs i d ∷ [])))
    ∙ ap (λ (l : List Send). row_lines (map (send_row next) l)) (sym (take-suc xs i d h) ∙ ap (λ (n : ℕ). take n xs) (sym (add-one i)))

pub sends_all : (next : State) (xs : List Send) → row_lines (map (send_row next) (take (length xs) xs)) ≡ row_lines (map (send_row next) xs)
sends_all next xs = ap (λ (l : List Send). row_lines (map (send_row next) l)) (take_all (length xs) xs (le_refl (length xs)))

-- and of one slot more, by its step's answer
pub part_next : (s : FlowSet) → s.map.0 < 65536 → (st : State) (n : ℕ) (a : Stepped) → a ≡ step_of (used s) (state_after (used s) st n)
    → part_text (used s) st n ++ row_lines (sent_rows a) ≡ part_text (used s) st (n + 1)
unfolding rows_more
part_next s m st n a e =
    rw (add-one n, slot_rows_law s m (state_after (used s) st n) a e) (sym (lines_append (rows_more (used s) st n) (slot_rows (used s) (state_after (used s) st n))))

pub state_next : (s : FlowSet) (st : State) (n : ℕ) (a : Stepped) → a ≡ step_of s (state_after s st n) → a.next ≡ state_after s st (n + 1)
unfolding state_after
state_next s st n a e = rw (add-one n) (ap (λ (x : Stepped). x.next) e)

-- a part that was put at the start of its room
pub part_left : (s : FlowSet) → s.map.0 < 65536 → (st : State) (h : ℕ) {o out : List ℕ} {r : ℕ}
    → let text = part_text (used s) st (part_slots h st (length o)) in
    length o ≤ last_place → Put o 0 text out r → (r ≡ length text) × (out ≡ at_start text o)
part_left s m st h {o} l p = let b = part_fits s m st h (length o) in (put_length p (omega (arith, b)), put_start p b)

pub part_is : (s : FlowSet) (st : State) (i n : ℕ) {x : State} {r : ℕ} → i ≡ n → x ≡ state_after s st i → r ≡ length (part_text s st n)
    → record { state = x; length = r } ≡ part_of s st n
part_is s st i n e f g = rw (f, e, g)
