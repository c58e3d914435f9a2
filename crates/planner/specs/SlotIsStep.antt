-- One slot for C is the step of the set that was read, written, by any order of priority: the two agree on the fault, the lines and the next state.
use Rattle.std.specs.Prelude.{◌≡◌, refl, Bool, true, false, cond, List, Result, Err, MatchResult, ◌++◌, ℕ, ◌<◌, ltb, eqb, length, drop}
use Rattle.std.proofs.Common.{sym, ap, ◌∙◌, eqb-true}
use Rattle.std.proofs.lemmas.Bool.{false≢true}
use Rattle.model.specs.declared.answers.Fault.{Fault}
use Rattle.model.specs.declared.answers.Reading.{Reading}
use Rattle.model.specs.declared.answers.Written.{Written}
use Rattle.model.specs.declared.answers.Stepped.{Stepped}
use Rattle.model.specs.declared.answers.Refusal.TheVariants.{NoRoom, BadState}
use Rattle.model.specs.Refusals.{good, fault_at, no_fault, or_else}
use Rattle.model.specs.Sets.{used}
use Rattle.document.specs.Machine.{Priority, step_fault, next_with, step_with, step_if_with}
use Rattle.document.specs.Program.{state_of, state_bytes, state_length, slot_lines_with, slot_fault_with, slot_state_with, slot_buffer_with}
use Rattle.laws.specs.Accepted.{or_else_good}
use Rattle.machine.specs.StepLines.{lines_with_law}
use Rattle.superframe_table.specs.SetFaults.{unless}
use Rattle.planner.specs.OfReading.{told}
use Rattle.planner.specs.StateBytes.{with_state_law}
use Rattle.planner.specs.BeforeStep.{PassesIfRead, fault_before_step}
use Rattle.planner.specs.StepWritten.{step_lines, written, room_fault, step_answer, step_state, step_buffer}
use Rattle.document.specs.Reader.{record_fault, refused_writing}
use Rattle.document.specs.ForC.{slot_answer_with}

abbrev step_for : Priority → Reading → List ℕ → Stepped
step_for first r state = step_with first (used r.set) (state_of state)

-- ---- the same fault, lines and next state

pub record Agrees (first : Priority) (r : Reading) (state : List ℕ) (a : Stepped) : Type 0 where
  pub fault_is_law : (room : ℕ) → slot_fault_with first r state room ≡ room_fault a room
  pub lines_is : good a.fault.refusal ≡ true → slot_lines_with first (used r.set) state ≡ step_lines a
  pub next_is : good a.fault.refusal ≡ true → next_with first (used r.set) (state_of state) ≡ a.next

-- what it shows that nothing is refused before the step
whole : (b : Bool) → good (cond b no_fault (fault_at BadState 0)).refusal ≡ true → b ≡ true
whole true h = refl
whole false h = h

pub before_good : (f : Fault) (n : ℕ) → good (fault_before_step f n).refusal ≡ true → (good f.refusal ≡ true) × (eqb n state_length ≡ true)
before_good f n h =
    let w = or_else_good f (cond (eqb n state_length) no_fault (fault_at BadState 0)) h in
    (w.0, whole (eqb n state_length) w.1)

-- what is tested after the text and the state's length
abbrev roomed : List ℕ → ℕ → Fault
roomed l room = cond (ltb room (length l)) (fault_at NoRoom 0) no_fault

late : (first : Priority) (r : Reading) (state : List ℕ) → good (fault_before_step r.fault (length state)).refusal ≡ true → (room : ℕ)
    → slot_fault_with first r state room ≡ or_else (step_fault (used r.set) (state_of state)) (roomed (slot_lines_with first (used r.set) state) room)
unfolding slot_fault_with
late first r state h room = let w = before_good r.fault (length state) h in rw (w.0, w.1)

pub agrees : (first : Priority) (r : Reading) (state : List ℕ) → good (fault_before_step r.fault (length state)).refusal ≡ true → r.set.map.0 < 65536
    → Agrees first r state (step_for first r state)
unfolding step_with room_fault slot_lines_with
agrees first r state h m = go (good (step_fault (used r.set) (state_of state)).refusal) refl
  where
    go : (b : Bool) → good (step_fault (used r.set) (state_of state)).refusal ≡ b → Agrees first r state (step_if_with first (used r.set) (state_of state) b)
    go true e =
        record {
          fault_is_law = λ room. late first r state h room ∙ rw e (ap (λ (l : List ℕ). roomed l room) (lines_with_law first r.set (state_of state) m));
          lines_is = λ g. lines_with_law first r.set (state_of state) m;
          next_is = λ g. refl;
        }
    go false e =
        record {
          fault_is_law = λ room. late first r state h room ∙ rw e;
          lines_is = λ g. absurd (false≢true (sym e ∙ g));
          next_is = λ g. absurd (false≢true (sym e ∙ g));
        }

-- what is refused before the step is the slot's fault
before_slot : (first : Priority) (r : Reading) (state : List ℕ) (room : ℕ) → good (fault_before_step r.fault (length state)).refusal ≡ false
    → slot_fault_with first r state room ≡ fault_before_step r.fault (length state)
unfolding slot_fault_with
before_slot first r state room h = go (good r.fault.refusal) (eqb (length state) state_length) refl h
  where
    go : (b c : Bool) → good r.fault.refusal ≡ b → good (cond b (cond c no_fault (fault_at BadState 0)) r.fault).refusal ≡ false
        → cond b
        (cond c (or_else (step_fault (used r.set) (state_of state)) (roomed (slot_lines_with first (used r.set) state) room)) (fault_at BadState 0))
        r.fault
        ≡ cond b (cond c no_fault (fault_at BadState 0)) r.fault
    go false c e k = refl
    go true false e k = refl
    go true true e k = absurd (false≢true (sym k))

-- ---- the answer, the state and the buffer after a slot

abbrev pub Answered : Priority → Reading → List ℕ → List ℕ → Result Written Fault → List ℕ → List ℕ → Type 0
Answered first r state lines w s l =
    (w ≡ unless (slot_fault_with first r state (length lines)) (slot_answer_with first r state (length lines))) × ((s ≡ slot_state_with first r state (length lines)) × (l ≡ slot_buffer_with first r state lines))

-- a choice that is made only where what it chooses is the same
cond_same {ℓ} : {A : Type ℓ} (b : Bool) (x y z : A) → (b ≡ true → x ≡ y) → cond b x z ≡ cond b y z
cond_same true x y z h = h refl
cond_same false x y z h = refl

-- no room, or a fault of the step, is no good
step_first : (a : Stepped) (room : ℕ) → good (room_fault a room).refusal ≡ true → good a.fault.refusal ≡ true
unfolding room_fault
step_first a room h = (or_else_good a.fault (roomed (step_lines a) room) h).0

pub answered : (first : Priority) (r : Reading) (state lines : List ℕ) (a : Stepped) → Agrees first r state a → length state ≡ state_length
    → Answered first r state lines (unless (room_fault a (length lines)) (step_answer a (length lines))) (step_state a state (length lines)) (step_buffer a lines)
unfolding slot_answer_with slot_state_with slot_buffer_with step_answer step_state step_buffer
answered first r state lines a g w =
    let n = length lines in
    let l : good (room_fault a n).refusal ≡ true → step_lines a ≡ slot_lines_with first (used r.set) state = λ h. sym (g.lines_is (step_first a n h)) in
    rw (g.fault_is_law n) (
      ap (λ (k : ℕ). unless (room_fault a n) (written (room_fault a n) k)) (cond_same (good (room_fault a n).refusal) _ _ 0 (λ h. ap (λ (u : List ℕ). length u) (l h))),
      (
        cond_same (good (room_fault a n).refusal) _ _ state (λ h. with_state_law a.next state w ∙ ap state_bytes (sym (g.next_is (step_first a n h)))),
        cond_same (good (room_fault a n).refusal) _ _ lines (λ h. ap (λ (u : List ℕ). u ++ drop (length u) lines) (l h)),
      ),
    )

-- refused before the step
pub answered_before : (first : Priority) (r : Reading) (state lines : List ℕ) (f : Fault) → f ≡ fault_before_step r.fault (length state)
    → good f.refusal ≡ false → Answered first r state lines (Err f) state lines
unfolding slot_answer_with slot_state_with slot_buffer_with
answered_before first r state lines f e h =
    let s = before_slot first r state (length lines) (rw (← e) h) ∙ sym e in
    rw (s, h) (refl, (refl, refl))

-- nothing is refused before the step of the set that was read
module _ (r : Reading) (state : List ℕ) (passed : good (fault_before_step r.fault (length state)).refusal ≡ true) where
  pub state_whole : length state ≡ state_length
  state_whole = eqb-true (length state) state_length (before_good r.fault (length state) passed).1

  pub set_passes : PassesIfRead r → good (record_fault (used r.set)).refusal ≡ true
  set_passes p = p (before_good r.fault (length state) passed).0

  pub step_answered : (first : Priority) (a : Stepped) (lines : List ℕ) → r.set.map.0 < 65536 → a ≡ step_for first r state
      → Answered first r state lines (unless (room_fault a (length lines)) (step_answer a (length lines))) (step_state a state (length lines)) (step_buffer a lines)
  step_answered first a lines m e = answered first r state lines a (rw e (agrees first r state passed m)) state_whole

-- what C gets of it
pub slot_told : (first : Priority) (r : Reading) (state : List ℕ) (room : ℕ) {x : Result Written Fault} (w : Written)
    → x ≡ unless (slot_fault_with first r state room) (slot_answer_with first r state room)
    → MatchResult x (λ a. w ≡ a) (λ f. w ≡ refused_writing f) → w ≡ slot_answer_with first r state room
unfolding slot_answer_with
slot_told first r state room w e h = told (slot_fault_with first r state room) _ w e h
