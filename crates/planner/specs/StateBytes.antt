-- The parts of a state's 68 bytes, as `state_of` and `state_bytes` have them.
use Rattle.std.specs.Prelude.{◌≡◌, cond, ◌≢◌, List, [], ◌∷◌, ◌++◌, ℕ, ◌+◌, ◌*◌, ◌/◌, ◌%◌, eqb, get_or, length, take, drop}
use Rattle.std.proofs.Common.{eq-eqb, ne_eqb, arith}
use Rattle.std.proofs.lemmas.List.{get_or-take}
use Rattle.model.specs.declared.kinds.State.{State}
use Rattle.model.specs.Sets.{fresh_state}
use Rattle.document.specs.Program.{state_length, state_of, state_bytes}

-- the slot in four bytes, lowest first, and what four bytes say
abbrev pub slot_bytes : ℕ → List ℕ
slot_bytes t = t % 256 ∷ t / 256 % 256 ∷ t / 65536 % 256 ∷ t / 16777216 % 256 ∷ []

abbrev pub slot_of : List ℕ → ℕ
slot_of b = get_or b 0 0 + get_or b 1 0 * 256 + get_or b 2 0 * 65536 + get_or b 3 0 * 16777216

abbrev pub state_from : ℕ → List ℕ → State
state_from t sent = record { slot = record { 0 = t }; sent = sent }

-- the state that bytes stand for, the fresh one where they are not 68; and bytes with a state put there, as they were where they are not 68
abbrev pub state_in : List ℕ → State
state_in b = cond (eqb (length b) state_length) (state_of b) fresh_state

abbrev pub with_state : State → List ℕ → List ℕ
with_state st b = cond (eqb (length b) state_length) (state_bytes st) b

pub state_in_law : (b : List ℕ) → length b ≡ state_length → state_in b ≡ state_of b
state_in_law b e = rw (eq-eqb (length b) state_length e)

pub with_state_law : (st : State) (b : List ℕ) → length b ≡ state_length → with_state st b ≡ state_bytes st
with_state_law st b e = rw (eq-eqb (length b) state_length e)

pub state_none : (b : List ℕ) → length b ≢ state_length → state_in b ≡ fresh_state
state_none b e = rw (ne_eqb (length b) state_length e)

pub with_none : (st : State) (b : List ℕ) → length b ≢ state_length → with_state st b ≡ b
with_none st b e = rw (ne_eqb (length b) state_length e)

-- read from its parts, the first four bytes and the others,
pub state_read : (b slot counts : List ℕ) → length b ≡ state_length → slot ≡ take 4 b → counts ≡ drop 4 b
    → state_from (slot_of slot) counts ≡ state_in b
unfolding state_of
state_read b slot counts l e f =
    rw (e, f, eq-eqb (length b) state_length l, get_or-take 4 b 0 0 (omega arith), get_or-take 4 b 1 0 (omega arith), get_or-take 4 b 2 0 (omega arith), get_or-take 4 b 3 0 (omega arith))

-- and written as its parts
pub state_put : (st : State) (b slot counts : List ℕ) → length b ≡ state_length → slot ≡ slot_bytes st.slot.0 → counts ≡ st.sent
    → slot ++ counts ≡ with_state st b
unfolding state_bytes
state_put st b slot counts l e f = rw (e, f, eq-eqb (length b) state_length l)
