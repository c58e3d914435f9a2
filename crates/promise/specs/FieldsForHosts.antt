-- What request 3 says of the field reaches C and both programs: a refusal of the reader is answered as it stands, and a text that the reader accepts
-- passes the record check, so what is refused after it is no line and names no field.
use Rattle.std.specs.Prelude.{◌≡◌, Bool, true, false, cond, List, [], ◌∷◌, ℕ, zero, suc, ◌≤◌, ◌<◌, leb, ltb, eqb, length, get_or}
use Rattle.std.proofs.Math.Path.{refl}
use Rattle.std.proofs.Common.{sym, ap, ◌∙◌, arith, le-ltb}
use Rattle.model.specs.declared.kinds.{FlowSet.{FlowSet}, State.{State}}
use Rattle.model.specs.declared.answers.{Fault.{Fault}, Refusal.{Refusal}}
use Rattle.model.specs.declared.answers.Refusal.TheVariants.{NoRoom, AtLastSlot, BadState, NoSuchFlow, NotAdmitted, LateStart, LongHyperPeriod}
use Rattle.model.specs.Refusals.{good, refusal_number, fault_at, no_fault, or_else}
use Rattle.model.specs.Limits.{last_slot}
use Rattle.document.specs.Reader.{record_fault, read_text}
use Rattle.document.specs.Delay.{bounds_fault, bounds_if, bounds_of, verdict_of}
use Rattle.document.specs.Machine.{Priority, ahead, lower, bad_state, step_fault}
use Rattle.document.specs.Program.{state_length, state_of, slot_lines_with, slot_fault_with, refused_line, most_input, plan_of, text_of_plan, print_text}
use Rattle.document.specs.Fixed.{fixed_verdict_of, fixed_bounds_if, fixed_bounds_of, fixed_of, fixed_text}
use Rattle.document.specs.Superframe.{flat, superframe, hyper, most_hyper, neither_admits, starts_late, size_fault, superframe_fault, size_answer, superframe_answer, superframe_text}
use Rattle.document.specs.ForC.{verdict_of_reading, bounds_of_reading, slot_answer_with, rows_read, table_fault, table_answer, size_of_reading, superframe_of_reading, verdict_for_c, bounds_for_c, slot_for_c_with, all_bounds_for_c, size_for_c, superframe_for_c}
use Rattle.document.specs.ForC.{fixed_verdict_of_reading, fixed_bounds_of_reading, fixed_verdict_for_c, fixed_bounds_for_c, fixed_slot_for_c}
use Rattle.document.specs.Text.{fields, numbers_of, line_of}
use Rattle.document.specs.FieldNamed.{FieldNamed, FieldsForC, ProgramsPrint}
use Rattle.laws.specs.{Codes.{number_le}, WrittenNumbers.{tens, fields_tabbed, values_back}}
use Rattle.laws.specs.{LinesRead.{read_line_le}, NamedFields.{no_field, reader_names, field_le}}
use Rattle.promise.specs.{Promise.{set_in}, TextHeld.{text_passes}, LoadedCalls.{tabled_fault}}

-- a fault that names no field, since it is none or comes after the reader's
record After (f : Fault) : Type 0 where
  none : f.field ≡ 0
  number : 1 ≤ refusal_number f.refusal → 10 ≤ refusal_number f.refusal

after_none : After no_fault
after_none = record { none = refl; number = λ h. absurd (omega arith) }

after_test : (b : Bool) (f g : Fault) → After f → After g → After (cond b f g)
after_test true f g h k = h
after_test false f g h k = k

after_at : (r : Refusal) → 10 ≤ refusal_number r → After (fault_at r 0)
after_at r h = record { none = refl; number = λ k. h }

-- an answer's fault that is none, or one after the reader's
after_none_or : (answer : Bool → Fault) (f : Fault) → answer true ≡ no_fault → answer false ≡ f → After f → After (answer (good f.refusal))
after_none_or answer f e q h = go (good f.refusal)
  where
    go : (b : Bool) → After (answer b)
    go true = rw e after_none
    go false = rw q h

-- a refusal by its test, before another fault
refused_or : (b : Bool) (r : Refusal) (g : Fault) → 10 ≤ refusal_number r → After g → After (cond b (fault_at r 0) g)
refused_or b r g h k = after_test b (fault_at r 0) g (after_at r h) k

-- 10, after what was refused before it
room_after : (f : Fault) (b : Bool) → After f → After (or_else f (cond b (fault_at NoRoom 0) no_fault))
room_after f b h = after_test (good f.refusal) (cond b (fault_at NoRoom 0) no_fault) f (refused_or b NoRoom no_fault (omega arith) after_none) h

-- each fault of a set that passes the record check
module _ (s : FlowSet) (e : good (record_fault s).refusal ≡ true) where
  bounds_after : (k : ℕ) → After (bounds_fault s k)
  unfolding bounds_fault
  bounds_after k = rw e (refused_or (leb s.count k) NoSuchFlow no_fault (omega arith) after_none)

  step_after : (st : State) → After (step_fault s st)
  unfolding step_fault
  step_after st = rw e (refused_or (bad_state s st) BadState _ (omega arith)
      (refused_or (leb last_slot st.slot.0) AtLastSlot no_fault (omega arith) after_none))

  size_after : After (size_fault s)
  unfolding size_fault
  size_after =
      rw e
      (refused_or (neither_admits s) NotAdmitted _ (omega arith)
      (refused_or (starts_late s) LateStart _ (omega arith) (refused_or (ltb most_hyper (hyper s)) LongHyperPeriod no_fault (omega arith) after_none)))

  superframe_after_law : (room : ℕ) → After (superframe_fault s room)
  unfolding superframe_fault
  superframe_after_law room = room_after (size_fault s) (ltb room (length (flat (superframe s)))) size_after

-- the field of a fault is what request 3 says
abbrev NamedIn : List ℕ → Fault → Type 0
NamedIn text f = FieldNamed text (refusal_number f.refusal) f.line f.field

after_named : (text : List ℕ) (f : Fault) → After f → NamedIn text f
after_named text f h = rw h.none (no_field text (refusal_number f.refusal) f.line h.number)

module _ (text : List ℕ) where
  -- an answer's fault is the reader's, or one after it
  answered : (f : Fault) → (good (read_text text).fault.refusal ≡ true → good (record_fault (set_in text)).refusal ≡ true → After f)
      → (good (read_text text).fault.refusal ≡ false → f ≡ (read_text text).fault) → NamedIn text f
  answered f a b = go (good (read_text text).fault.refusal) refl
    where
      go : (x : Bool) → good (read_text text).fault.refusal ≡ x → NamedIn text f
      go true e = after_named text f (a e (text_passes text e))
      go false e = rw (b e) (reader_names text).named

  verdict_named : NamedIn text (verdict_of_reading (read_text text)).fault
  unfolding verdict_of_reading verdict_of
  verdict_named = answered (verdict_of_reading (read_text text)).fault (λ e p. rw (e, p) after_none) (λ e. rw e refl)

  bounds_named : (k : ℕ) → NamedIn text (bounds_of_reading (read_text text) k).fault
  unfolding bounds_of_reading bounds_of
  bounds_named k =
      answered (bounds_of_reading (read_text text) k).fault
      (λ e p. rw e (after_none_or (λ b. (bounds_if (set_in text) k b).fault) (bounds_fault (set_in text) k) refl refl (bounds_after (set_in text) p k)))
      (λ e. rw e refl)

  slot_named : (first : Priority) (state : List ℕ) (room : ℕ) → NamedIn text (slot_fault_with first (read_text text) state room)
  unfolding slot_fault_with
  slot_named first state room =
      answered (slot_fault_with first (read_text text) state room)
      (λ e p. rw e
      (after_test (eqb (length state) state_length) _ (fault_at BadState 0)
      (room_after _ (ltb room (length (slot_lines_with first (set_in text) state))) (step_after (set_in text) p (state_of state)))
      (after_at BadState (omega arith))))
      (λ e. rw e refl)

  fixed_verdict_named : NamedIn text (fixed_verdict_of_reading (read_text text)).fault
  unfolding fixed_verdict_of_reading fixed_verdict_of
  fixed_verdict_named = answered (fixed_verdict_of_reading (read_text text)).fault (λ e p. rw (e, p) after_none) (λ e. rw e refl)

  fixed_bounds_named : (k : ℕ) → NamedIn text (fixed_bounds_of_reading (read_text text) k).fault
  unfolding fixed_bounds_of_reading fixed_bounds_of
  fixed_bounds_named k =
      answered (fixed_bounds_of_reading (read_text text) k).fault
      (λ e p. rw e (after_none_or (λ b. (fixed_bounds_if (set_in text) k b).fault) (bounds_fault (set_in text) k) refl refl (bounds_after (set_in text) p k)))
      (λ e. rw e refl)

  table_named : (room : ℕ) → NamedIn text (table_fault (read_text text) room)
  unfolding table_fault
  table_named room =
      answered (table_fault (read_text text) room)
      (λ e p. rw e (refused_or (ltb room (length (rows_read (read_text text)))) NoRoom no_fault (omega arith) after_none)) (λ e. rw e refl)

  size_named : NamedIn text (size_of_reading (read_text text)).fault
  unfolding size_of_reading size_answer
  size_named =
      answered (size_of_reading (read_text text)).fault (λ e p. rw (e, tabled_fault (set_in text) (size_fault (set_in text))) (size_after (set_in text) p))
      (λ e. rw e refl)

  superframe_named : (room : ℕ) → NamedIn text (superframe_of_reading (read_text text) room).fault
  unfolding superframe_of_reading superframe_answer
  superframe_named room =
      answered (superframe_of_reading (read_text text) room).fault
      (λ e p. rw (e, tabled_fault (set_in text) (superframe_fault (set_in text) room)) (superframe_after_law (set_in text) p room))
      (λ e. rw e refl)

pub fields_for_c : (text : List ℕ) → FieldsForC text
unfolding verdict_for_c bounds_for_c slot_for_c_with slot_answer_with all_bounds_for_c table_answer size_for_c superframe_for_c
fields_for_c text =
    record {
      verdict = verdict_named text;
      bounds = bounds_named text;
      slot = slot_named text ahead;
      all_bounds = table_named text;
      size = size_named text;
      superframe = superframe_named text;
    }

-- So it is of the calls of fixed priority.
pub record FixedFieldsForC (text : List ℕ) : Type 0 where
  pub verdict : FieldNamed text (fixed_verdict_for_c text).refusal (fixed_verdict_for_c text).line (fixed_verdict_for_c text).field
  pub bounds : (k : ℕ) → FieldNamed text (fixed_bounds_for_c text k).refusal (fixed_bounds_for_c text k).line (fixed_bounds_for_c text k).field
  pub slot : (state : List ℕ) (room : ℕ)
      → FieldNamed text (fixed_slot_for_c text state room).refusal (fixed_slot_for_c text state room).line (fixed_slot_for_c text state room).field

pub fixed_fields : (text : List ℕ) → FixedFieldsForC text
unfolding fixed_verdict_for_c fixed_bounds_for_c slot_for_c_with slot_answer_with
fixed_fields text = record { verdict = fixed_verdict_named text; bounds = fixed_bounds_named text; slot = slot_named text lower }

-- the `refused` line gives its three numbers back, where the line and the field have at most ten digits
refused_numbers : (f : Fault) → f.line < tens 10 → f.field < tens 10 → numbers_of (refused_line f) ≡ refusal_number f.refusal ∷ f.line ∷ f.field ∷ []
unfolding numbers_of line_of fields tens
refused_numbers f l w =
    let vs : List ℕ = refusal_number f.refusal ∷ f.line ∷ f.field ∷ [] in
    rw (fields_tabbed vs) (values_back vs small)
  where
    small : (i : ℕ) → get_or (refusal_number f.refusal ∷ f.line ∷ f.field ∷ []) i 0 < tens 10
    small zero = omega (arith, number_le f.refusal)
    small (suc zero) = l
    small (suc (suc zero)) = w
    small (suc (suc (suc i))) = omega arith

-- every program prints it for a refused text, whatever it says of sets
print_refused : (says : FlowSet → List ℕ) (text : List ℕ) → length text ≤ most_input → good (read_text text).fault.refusal ≡ false
    → print_text says text ≡ refused_line (read_text text).fault
unfolding print_text
print_refused says text l b = rw (print_text, le-ltb most_input (length text) l, b)

superframe_refused : (text : List ℕ) → length text ≤ most_input → good (read_text text).fault.refusal ≡ false
    → superframe_text text ≡ refused_line (read_text text).fault
unfolding superframe_text
superframe_refused text l b = rw (le-ltb most_input (length text) l, b, b)

pub programs_print : ProgramsPrint
unfolding tens
programs_print text l b =
    let w = field_le text in
    record {
      plan = ap numbers_of (print_refused plan_of text l b)
          ∙ refused_numbers (read_text text).fault (omega (arith, read_line_le text)) (omega arith);
      superframe = ap numbers_of (superframe_refused text l b ∙ sym (print_refused plan_of text l b));
    }

-- and so does the program of fixed priority
pub fixed_prints : (text : List ℕ) → length text ≤ most_input → good (read_text text).fault.refusal ≡ false → fixed_text text ≡ text_of_plan text
fixed_prints text l b = print_refused fixed_of text l b ∙ sym (print_refused plan_of text l b)
