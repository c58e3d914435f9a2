-- What is written of a text, by the buffer's room alone.
use Rattle.std.specs.Prelude.{◌≡◌, ℕ, ◌-◌, ◌≤◌, min, Bool, true, false, cond, List, ◌++◌, length, drop, nat_le, nat_lt}
use Rattle.std.proofs.Common.{sym, ◌∙◌, zero-add, le_refl, arith}
use Rattle.std.proofs.Math.Path.{ap}
use Rattle.std.proofs.Math.Seq.{sets, sets-eq}
use borrow.Author.Tests.{lt-ltb, le-ltb, leb-true, leb-false}
use Rattle.model.specs.declared.answers.Fault.{Fault}
use Rattle.model.specs.declared.answers.Written.{Written}
use Rattle.model.specs.declared.answers.Refusal.TheVariants.{NoRoom}
use Rattle.model.specs.Refusals.{fault_at, no_fault}
use Rattle.document.specs.Reader.{refused_writing, wrote}
use Rattle.text.specs.DigitsPut.{sets_out}
use Rattle.text.specs.Put.{last_place, Put}

-- the answer: the text's length, or 10
unfoldable pub room_answer : List ℕ → ℕ → Written
room_answer t room = cond (nat_lt room (length t)) (refused_writing (fault_at NoRoom 0)) (wrote (length t))

-- the buffer then
unfoldable pub room_into : List ℕ → List ℕ → List ℕ
room_into t buffer = cond (nat_lt (length buffer) (length t)) buffer (t ++ drop (length t) buffer)

-- an answer, with the buffer as it leaves it
pub record RoomLeaves (t : List ℕ) (buffer : List ℕ) (w : Written) (out : List ℕ) : Type 0 where
  pub answer : w ≡ room_answer t (length buffer)
  pub bytes : out ≡ room_into t buffer

-- the buffer is m by now, which is as it was; b says whether it has room
module _ (t buffer m : List ℕ) (q : m ≡ buffer) (b : Bool) (k : b ≡ nat_le (length t) (length buffer)) where
  pub room_short : b ≡ false → (f : Fault) → f ≡ fault_at NoRoom 0 → RoomLeaves t buffer record { fault = f; length = 0 } m
  unfolding room_answer room_into
  room_short h f e =
      let y = lt-ltb (length buffer) (length t) (leb-false _ _ (sym k ∙ h)) in
      record { answer = rw (e, y); bytes = q ∙ rw y }

  pub room_enough : b ≡ true → length buffer ≤ last_place → (out : List ℕ) (r : ℕ) → Put m 0 t out r
      → (f : Fault) → f ≡ no_fault → RoomLeaves t buffer record { fault = f; length = r } out
  unfolding room_answer room_into
  room_enough h l out r p f e =
      let w : length t ≤ length buffer = leb-true _ _ (sym k ∙ h) in
      let y = le-ltb (length buffer) (length t) w in
      let n : r ≡ length t = omega (arith, p.place) in
      record {
        answer = rw (e, y, n);
        bytes =
            rw y
            (p.stored ∙ ap (λ (o : List ℕ). sets o 0 t) q ∙ sets-eq t buffer 0 (omega arith)
            ∙ rw (zero-add (length t)));
      }

-- a text that is put where the buffer ends: nothing is stored, and the place after it tells its length
pub length_found : (o t out : List ℕ) (r : ℕ) → Put o (length o) t out r → length o ≤ last_place
    → (out ≡ o) × (r - length o ≡ min (length t) (last_place - length o))
length_found o t out r p h = (p.stored ∙ sets_out t o (length o) (le_refl (length o)), omega (arith, p.place))
