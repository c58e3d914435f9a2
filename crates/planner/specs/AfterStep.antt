-- A step's answer is written, or refused and nothing is: what the three ways out leave behind.
use Rattle.std.specs.Prelude.{◌≡◌, refl, true, false, cond, List, Result, Ok, Err, ◌++◌, ℕ, ◌≤◌, ◌<◌, length, drop}
use Rattle.std.proofs.Common.{◌∙◌, lt-ltb, le-ltb}
use Rattle.model.specs.declared.answers.Fault.{Fault}
use Rattle.model.specs.declared.answers.Refusal.TheVariants.{NoRoom}
use Rattle.model.specs.declared.answers.Written.{Written}
use Rattle.model.specs.declared.answers.Stepped.{Stepped}
use Rattle.model.specs.Refusals.{good, fault_at, no_fault}
use Rattle.planner.specs.StateBytes.{with_state}
use Rattle.planner.specs.StepWritten.{step_lines, written, room_fault, step_answer, step_state, step_buffer}
use Rattle.superframe_table.specs.SetFaults.{unless, err_unless}

-- the answer, the state and the buffer after a step
abbrev pub Left : Stepped → List ℕ → List ℕ → Result Written Fault → List ℕ → List ℕ → Type 0
Left a state lines w s l = (w ≡ unless (room_fault a (length lines)) (step_answer a (length lines))) × ((s ≡ step_state a state (length lines)) × (l ≡ step_buffer a lines))

abbrev ifGood {ℓ} : {A : Type ℓ} → Fault → A → A → A
ifGood f x y = cond (good f.refusal) x y

left : (a : Stepped) (state lines : List ℕ) (f : Fault) → room_fault a (length lines) ≡ f
    → Left a state lines (unless f (written f (ifGood f (length (step_lines a)) 0)))
    (ifGood f (with_state a.next state) state) (ifGood f (step_lines a ++ drop (length (step_lines a)) lines) lines)
unfolding step_answer step_state step_buffer
left a state lines f e = rw (← e) (refl, (refl, refl))

pub left_refused : (a : Stepped) (state lines : List ℕ) (f : Fault) → f ≡ a.fault → good f.refusal ≡ false → Left a state lines (Err f) state lines
unfolding room_fault
left_refused a state lines f e h =
    let g : good a.fault.refusal ≡ false = rw e at h in
    let w = left a state lines a.fault (rw g) in
    (err_unless f a.fault _ e g ∙ w.0, rw g at w.1)

pub left_no_room : (a : Stepped) (state lines : List ℕ) → good a.fault.refusal ≡ true → length lines < length (step_lines a)
    → Left a state lines (Err (fault_at NoRoom 0)) state lines
unfolding room_fault
left_no_room a state lines h l = left a state lines (fault_at NoRoom 0) (rw (h, lt-ltb (length lines) (length (step_lines a)) l))

pub left_written : (a : Stepped) (state lines : List ℕ) → good a.fault.refusal ≡ true → length (step_lines a) ≤ length lines
    → Left a state lines (Ok (written no_fault (length (step_lines a)))) (with_state a.next state) (step_lines a ++ drop (length (step_lines a)) lines)
unfolding room_fault
left_written a state lines h l = left a state lines no_fault (rw (h, le-ltb (length lines) (length (step_lines a)) l))
