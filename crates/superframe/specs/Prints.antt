-- What is written for an input: all parts of its table, or the line of its refusal. No contract can say that bytes are written: these say which were made.
use Rattle.std.specs.Prelude.{◌≡◌, true, List, [], ◌∷◌, ℕ, ◌+◌, ◌-◌, ◌≤◌, ◌<◌, length, take, Option, Some, None}
use Rattle.std.proofs.Common.{ap, ◌∙◌, arith}
use Rattle.model.specs.declared.kinds.{FlowSet.{FlowSet}, State.{State}}
use Rattle.model.specs.declared.answers.Fault.{Fault}
use Rattle.model.specs.Refusals.{good, refusal_number}
use Rattle.model.specs.Sets.{used}
use Rattle.document.specs.Text.{line_of}
use Rattle.document.specs.Reader.{read_text, record_fault}
use Rattle.document.specs.Program.{refused_line, refused_word}
use Rattle.document.specs.Superframe.{hyper, most_hyper, row_lines, rows_to, superframe_text}
use Rattle.text.specs.{Lengths.{line_le, put_length, put_read}, NamedLine.{refused_line_law}, Put.{Put}}
use Rattle.superframe_table.specs.declared.parts.Part.{Part}
use Rattle.superframe_table.specs.Parts.{part_of, part_slots, parts_state, parts_text}
use Rattle.superframe_table.specs.PartsJoined.{parts_next, parts_rise, parts_slot, parts_whole, parts_within}
use Rattle.superframe.specs.Loads.{Holds, Refuses, load_fault, prints_refusal, prints_table}
use Rattle.superframe.specs.declared.loading.Loaded.{Loaded}

-- the room of every part, and of a refusal's line
abbrev pub part_room : ℕ → ℕ
part_room i = 65536

abbrev pub most_refusal : ℕ
most_refusal = 48

-- n parts together are the lines of h slots
abbrev pub WholeTable : FlowSet → ℕ → ℕ → Type 0
WholeTable s h n = parts_text s h part_room n ≡ row_lines (rows_to s h)

-- the parts of an input's table, or its refusal's line where there are none, are what the program prints
abbrev pub Prints : List ℕ → Option ℕ → Type 0
Prints input (Some n) = parts_text (used (read_text input).set) (hyper (used (read_text input).set)) part_room n ≡ superframe_text input
Prints input None = refused_line (load_fault input) ≡ superframe_text input

-- ---- a turn of the loop: the state is that after the parts so far

pub record Turn (s : FlowSet) (h parts : ℕ) (st next : State) : Type 0 where
  pub state : next ≡ parts_state s h part_room (parts + 1)
  pub nearer : h - next.slot.0 < h - st.slot.0
  pub few : parts < most_hyper

module _ (s : FlowSet) (g : good (record_fault s).refusal ≡ true) (h : ℕ) (l : h ≤ most_hyper) (parts : ℕ) (st : State)
    (e : st ≡ parts_state s h part_room parts) where
  pub one_more : st.slot.0 < h → (room : ℕ) → room ≡ 65536 → (part : Part) → part ≡ part_of s st (part_slots h st room)
      → Turn s h parts st part.state
  one_more i room r part f =
      let q : part.state ≡ parts_state s h part_room (parts + 1) = ap (λ (x : Part). x.state) f ∙ rw (e, r) (parts_next s h part_room parts) in
      let a = parts_slot s g h (omega arith) part_room parts in
      let b = parts_rise s g h (omega arith) part_room (λ i. omega arith) parts in
      let c = ap (λ (x : State). x.slot.0) e in
      let d = ap (λ (x : State). x.slot.0) q in
      record { state = q; nearer = omega (arith, a, c, d); few = omega (arith, b, c) }

  pub all_parts : h ≤ st.slot.0 → WholeTable s h parts
  all_parts i =
      let c = ap (λ (x : State). x.slot.0) e in
      parts_whole s g h (omega arith) part_room parts (omega (arith, c, parts_within s g h (omega arith) part_room parts))

-- ---- what was written

pub refusal_prints : (input : List ℕ) (f : Fault) → Refuses input f → Prints input None
refusal_prints input f l = prints_refusal input (rw (← l.fault) l.refused)

pub table_prints : (input : List ℕ) (r : Loaded) → Holds input r → (n : ℕ) → WholeTable (used r.set) r.hyper n → Prints input (Some n)
table_prints input r l n h = rw (l.slots, l.set) at h ∙ prints_table input l.passes

-- a refusal's line has room
pub refusal_left : (f : Fault) (n : ℕ) → n ≡ refusal_number f.refusal → {o out : List ℕ} {r : ℕ} → most_refusal ≤ length o
    → Put o 0 (line_of refused_word (n ∷ f.line ∷ f.field ∷ [])) out r → (take r out ≡ refused_line f) × (r ≤ most_refusal)
refusal_left f n e h p =
    let a = line_le refused_word (n ∷ f.line ∷ f.field ∷ []) in
    (put_read p (omega (arith, a)) (omega (arith, a)) ∙ refused_line_law f n e, omega (arith, a, put_length p (omega (arith, a))))
