-- What is written of a step: its lines, the fault with 10 for a buffer that is too short, and both buffers afterwards.
use Rattle.std.specs.Prelude.{cond, List, ◌++◌, ℕ, ltb, length, take, drop}
use Rattle.model.specs.declared.answers.Fault.{Fault}
use Rattle.model.specs.declared.answers.Written.{Written}
use Rattle.model.specs.declared.answers.Stepped.{Stepped}
use Rattle.model.specs.declared.answers.Refusal.TheVariants.{NoRoom}
use Rattle.model.specs.Refusals.{good, fault_at, no_fault, or_else}
use Rattle.document.specs.Program.{send_lines}
use Rattle.planner.specs.StateBytes.{with_state}

-- the lines of a step
abbrev pub step_lines : Stepped → List ℕ
step_lines a = send_lines (take a.sends a.sent)

-- the step's fault, then 10
unfoldable pub room_fault : Stepped → ℕ → Fault
room_fault a room = or_else a.fault (cond (ltb room (length (step_lines a))) (fault_at NoRoom 0) no_fault)

-- what is answered, from the fault and the length
abbrev pub written : Fault → ℕ → Written
written f n = record { fault = f; length = n }

unfoldable pub step_answer : Stepped → ℕ → Written
step_answer a room =
    written (room_fault a room) (cond (good (room_fault a room).refusal) (length (step_lines a)) 0)

unfoldable pub step_state : Stepped → List ℕ → ℕ → List ℕ
step_state a state room = cond (good (room_fault a room).refusal) (with_state a.next state) state

unfoldable pub step_buffer : Stepped → List ℕ → List ℕ
step_buffer a buffer =
    cond (good (room_fault a (length buffer)).refusal) (step_lines a ++ drop (length (step_lines a)) buffer) buffer
