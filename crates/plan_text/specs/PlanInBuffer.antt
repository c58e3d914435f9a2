-- The three ways of a program, how long its text can be, and the text in a lent buffer: of `plan` and of `fixed`.
use Rattle.std.specs.Prelude.{◌≡◌, Bool, List, [], ◌∷◌, ℕ, ◌≤◌, ◌<◌, length, take, drop}
use Rattle.std.proofs.Math.Path.{refl}
use Rattle.std.proofs.Common.{sym, ap, ◌∙◌, arith, length-take-le, take_at}
use Rattle.std.proofs.Math.Bool.{true, false}
use borrow.Author.Tests.{lt-ltb, le-ltb}
use Rattle.std.proofs.Math.Dec.{ltb}
use Rattle.model.specs.declared.kinds.{FlowSet.{FlowSet}, Order.{Order}, Order.TheVariants.{Deadline, Number}}
use Rattle.model.specs.declared.answers.Fault.{Fault}
use Rattle.model.specs.declared.answers.{Reading.{Reading}, Written.{Written}}
use Rattle.model.specs.declared.answers.Refusal.TheVariants.{NoRoom}
use Rattle.model.specs.Refusals.{good, fault_at, refusal_number}
use Rattle.model.specs.Sets.{used}
use Rattle.document.specs.Reader.{record_fault, read_text, refused_writing, wrote}
use Rattle.document.specs.Program.{most_input, print_text, print_if, refused_word, refused_line, print_answer, print_into}
use Rattle.text.specs.Lengths.{line_le, put_length, put_long, put_start, put_read}
use Rattle.text.specs.Put.{Put, put_same}
use Rattle.promise.specs.TextHeld.{text_held, text_passes}
use Rattle.plan_text.specs.{PlanLength.{plan_le, fixed_le}, PlanOfReading.{most_plan, says_by}}

-- ---- the three ways of a program

module _ (says : FlowSet → List ℕ) where
  abbrev text : List ℕ → List ℕ
  text = print_text says

  abbrev pub print_read : Reading → List ℕ
  print_read r = print_if says r (good r.fault.refusal)

  abbrev print_by : List ℕ → Bool → List ℕ
  print_by input b =
      elim b as (λ (x : Bool). List ℕ) [
        | true ↦ refused_line (fault_at NoRoom 0)
        | false ↦ print_read (read_text input)
      ]

  by_length : (input : List ℕ) → text input ≡ print_by input (ltb most_input (length input))
  unfolding print_text
  by_length input = refl

  pub text_long : (input : List ℕ) → ltb most_input (length input) ≡ true → text input ≡ refused_line (fault_at NoRoom 0)
  text_long input h = by_length input ∙ ap (print_by input) h

  pub text_short : (input : List ℕ) → ltb most_input (length input) ≡ false → text input ≡ print_read (read_text input)
  text_short input h = by_length input ∙ ap (print_by input) h

  -- what is said of the set, or a refusal
  pub read_good : (r : Reading) → good r.fault.refusal ≡ true → print_read r ≡ says (used r.set)
  read_good r h = ap (print_if says r) h

  pub read_refused : (r : Reading) → good r.fault.refusal ≡ false → print_read r ≡ refused_line r.fault
  read_refused r h = ap (print_if says r) h

-- ---- no text is longer than the longest plan

refused_le : (f : Fault) → length (refused_line f) ≤ most_plan
refused_le f = let a = line_le refused_word (refusal_number f.refusal ∷ f.line ∷ f.field ∷ []) in omega arith

-- what is told of an accepted set is short
abbrev pub Short : (FlowSet → List ℕ) → Type 0
Short says = (s : FlowSet) → s.map.0 < 65536 → good (record_fault (used s)).refusal ≡ true → length (says (used s)) ≤ most_plan

module _ (says : FlowSet → List ℕ) (short : Short says) where
  read_le : (input : List ℕ) → length (print_read says (read_text input)) ≤ most_plan
  read_le input = go (good (read_text input).fault.refusal) refl
    where
      go : (b : Bool) → good (read_text input).fault.refusal ≡ b → length (print_if says (read_text input) b) ≤ most_plan
      go true e = short (read_text input).set (text_held input e).0 (text_passes input e)
      go false e = refused_le (read_text input).fault

  pub said_le : (input : List ℕ) → length (text says input) ≤ most_plan
  said_le input = go (ltb most_input (length input)) refl
    where
      go : (b : Bool) → ltb most_input (length input) ≡ b → length (text says input) ≤ most_plan
      go true e = rw (text_long says input e) (refused_le (fault_at NoRoom 0))
      go false e = rw (text_short says input e) (read_le input)

  -- so a buffer of that length always has room, and begins with the text
  pub text_fits : (input : List ℕ) (room : ℕ) → most_plan ≤ room → print_answer says input room ≡ wrote (length (text says input))
  unfolding print_answer
  text_fits input room h = rw (le-ltb room (length (text says input)) (omega (arith, said_le input)))

  pub text_begins : (input out : List ℕ) → most_plan ≤ length out → take (length (text says input)) (print_into says input out) ≡ text says input
  unfolding print_into
  text_begins input out h =
      rw (le-ltb (length out) (length (text says input)) (omega (arith, said_le input)))
      (take_at (text says input) (drop (length (text says input)) out) (length (text says input)) refl)

  pub said_within : {w : Written} (input out : List ℕ) → w ≡ wrote (length (text says input)) → length out ≡ most_plan → w.length ≤ length out
  said_within input out e h =
      let b = ap (λ (x : Written). x.length) e in
      omega (arith, said_le input, b, h)

-- ---- the text in a lent buffer

-- what the lent buffer has in the end, and what is answered
abbrev pub Printed : (FlowSet → List ℕ) → List ℕ → List ℕ → List ℕ → Written → Type 0
Printed says input out new w = (w ≡ print_answer says input (length out)) × (new ≡ print_into says input out)

-- put first into a buffer that is long enough for every plan
module _ (says : FlowSet → List ℕ) (short : Short says) (input : List ℕ) {o held : List ℕ} {n : ℕ} (p : Put o 0 (text says input) held n) (k : length o ≡ most_plan) where
  whole : n ≡ length (text says input)
  whole = put_length p (omega (arith, said_le says short input))

  pub said_long : n ≤ length held
  said_long = omega (arith, said_le says short input, whole, put_long p)

  pub said_part : n ≡ length (take n held)
  said_part = sym (length-take-le n held said_long)

  whole_text : take n held ≡ text says input
  whole_text = put_read p (omega (arith, said_le says short input)) (omega (arith, said_le says short input))

  pub said_no_room : (out : List ℕ) → length out < n → Printed says input out out (refused_writing (fault_at NoRoom 0))
  unfolding print_answer print_into
  said_no_room out h =
      let e : ltb (length out) (length (text says input)) ≡ true = lt-ltb (length out) (length (text says input)) (omega (arith, whole)) in
      (rw e, rw e)

  pub said_room : (out new : List ℕ) (r : ℕ) → n ≤ length out → Put out 0 (take n held) new r → Printed says input out new (wrote n)
  unfolding print_answer print_into
  said_room out new r h q =
      let e : ltb (length out) (length (text says input)) ≡ false = le-ltb (length out) (length (text says input)) (omega (arith, whole)) in
      let g : Put out 0 (text says input) new r = put_same out 0 (take n held) (text says input) new r whole_text q in
      (rw e (ap wrote whole), rw e (put_start g (omega (arith, whole))))

-- ---- of the two programs

-- what each of them tells of an accepted set is short
pub says_le : (by : Order) → Short (says_by by)
says_le Deadline = plan_le
says_le Number = fixed_le

pub plan_fits : (by : Order) (input : List ℕ) (room : ℕ) → most_plan ≤ room → print_answer (says_by by) input room ≡ wrote (length (print_text (says_by by) input))
plan_fits by = text_fits (says_by by) (says_le by)

pub begins : (by : Order) (input out : List ℕ) → most_plan ≤ length out
    → take (length (print_text (says_by by) input)) (print_into (says_by by) input out) ≡ print_text (says_by by) input
begins by = text_begins (says_by by) (says_le by)

module _ (by : Order) where
  pub text_le : (input : List ℕ) → length (print_text (says_by by) input) ≤ most_plan
  text_le = said_le (says_by by) (says_le by)

  pub within : {w : Written} (input out : List ℕ) → w ≡ wrote (length (print_text (says_by by) input)) → length out ≡ most_plan → w.length ≤ length out
  within = said_within (says_by by) (says_le by)

module _ (by : Order) (input : List ℕ) {o held : List ℕ} {n : ℕ} (p : Put o 0 (print_text (says_by by) input) held n) (k : length o ≡ most_plan) where
  pub whole_long : n ≤ length held
  whole_long = said_long (says_by by) (says_le by) input p k

  pub whole_part : n ≡ length (take n held)
  whole_part = said_part (says_by by) (says_le by) input p k

  pub no_room : (out : List ℕ) → length out < n → Printed (says_by by) input out out (refused_writing (fault_at NoRoom 0))
  no_room = said_no_room (says_by by) (says_le by) input p k

  pub room : (out new : List ℕ) (r : ℕ) → n ≤ length out → Put out 0 (take n held) new r → Printed (says_by by) input out new (wrote n)
  room = said_room (says_by by) (says_le by) input p k
