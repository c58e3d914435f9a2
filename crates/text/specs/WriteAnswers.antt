-- Laws of the writer's answer: refused by the record check, or what the buffer's room says.
use Rattle.std.specs.Prelude.{◌≡◌, ℕ, Bool, true, false, cond, List, ◌++◌, length, drop, nat_lt}
use Rattle.std.proofs.Math.Path.{refl}
use Rattle.std.proofs.Common.{◌∙◌}
use Rattle.model.specs.declared.kinds.FlowSet.{FlowSet}
use Rattle.model.specs.declared.answers.Fault.{Fault}
use Rattle.model.specs.declared.answers.Written.{Written}
use Rattle.model.specs.declared.answers.Refusal.TheVariants.{NoRoom}
use Rattle.model.specs.Refusals.{good, fault_at, no_fault}
use Rattle.document.specs.Reader.{record_fault, refused_writing, text_of, wrote, write_fault, write_answer, write_into}
use Rattle.text.specs.WriteRoom.{room_answer, room_into}

-- an answer, with the buffer as it leaves it
pub record WriteLeaves (s : FlowSet) (buffer : List ℕ) (w : Written) (out : List ℕ) : Type 0 where
  pub answer : w ≡ write_answer s (length buffer)
  pub bytes : out ≡ write_into s buffer

module _ (s : FlowSet) (buffer : List ℕ) (f : Fault) (e : f ≡ record_fault s) where
  pub write_refused : good f.refusal ≡ false → WriteLeaves s buffer record { fault = f; length = 0 } buffer
  unfolding write_answer write_into write_fault
  write_refused z =
      record { answer = rw (← e, z, z); bytes = rw (← e, z, z) }

  pub write_accepted : good f.refusal ≡ true → (w : Written) (out : List ℕ) → w ≡ room_answer (text_of s) (length buffer) → out ≡ room_into (text_of s) buffer
      → WriteLeaves s buffer w out
  unfolding write_answer write_into write_fault room_answer room_into
  write_accepted z w out a o =
      record {
        answer = a ∙ rw (← e, z) (answered (nat_lt (length buffer) (length (text_of s))) (length (text_of s)));
        bytes = o ∙ rw (← e, z) (left (nat_lt (length buffer) (length (text_of s))) (text_of s ++ drop (length (text_of s)) buffer));
      }
    where
      answered : (b : Bool) (n : ℕ)
          → cond b (refused_writing (fault_at NoRoom 0)) (wrote n)
          ≡ record { fault = cond b (fault_at NoRoom 0) no_fault; length = cond (good (cond b (fault_at NoRoom 0) no_fault).refusal) n 0 }
      answered true n = refl
      answered false n = refl

      left : (b : Bool) (t : List ℕ) → cond b buffer t ≡ cond (good (cond b (fault_at NoRoom 0) no_fault).refusal) t buffer
      left true t = refl
      left false t = refl
