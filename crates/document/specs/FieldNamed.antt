-- Request 3: what is promised of the field that a refusal names, for every text: of the reader's fault, of each answer that C is given, and of the line
-- that both programs print.
use mathlib.Core.{Bool.{Bool, true, false, cond}, List.{List, [], ◌∷◌}, Logic.{◌≢◌}, Path.{◌≡◌}}
use Rattle.std.specs.Prelude.{ℕ, ◌-◌, ◌≤◌, ◌<◌}
use lib.{Dec.{eqb}, ListN.{length, get_or}}
use Rattle.model.specs.declared.answers.Fault.{Fault}
use Rattle.model.specs.Refusals.{good, refusal_number, no_fault}
use Rattle.document.specs.Text.{lines, fields, value_of, numbers_of}
use Rattle.document.specs.BadField.{breaks_first, breaks_flow, nodes_field}
use Rattle.document.specs.{Reader.{read_text}, Program.{most_input, text_of_plan}, Superframe.{superframe_text}}
use Rattle.document.specs.ForC.{verdict_for_c, bounds_for_c, slot_for_c, all_bounds_for_c, size_for_c, superframe_for_c}

-- line n of a text and field n of a line, counted from 1
abbrev pub line_at : List ℕ → ℕ → List ℕ
line_at text n = get_or (lines text) (n - 1) []

abbrev pub field_at : List ℕ → ℕ → List ℕ
field_at l n = get_or (fields l) (n - 1) []

-- field n of this line of a text breaks the form
abbrev pub breaks_at : List ℕ → ℕ → ℕ → Bool
breaks_at text line n = cond (eqb line 1) (breaks_first n (field_at (line_at text line) n)) (breaks_flow n (field_at (line_at text line) n))

-- the field of a 1: it breaks the form and no field before it does; with 0 no field of the line does, or the text is empty
pub record FormField (text : List ℕ) (line field : ℕ) : Type 0 where
  pub breaks : 1 ≤ field → breaks_at text line field ≡ true
  pub first : (n : ℕ) → 1 ≤ n → n < field → breaks_at text line n ≡ false
  pub none : field ≡ 0 → text ≢ [] → (n : ℕ) → 1 ≤ n → n ≤ length (fields (line_at text line)) → breaks_at text line n ≡ false

-- the field of an 8: a node that equals the one before it, and no earlier node equals the one before it
pub record NeighbourField (l : List ℕ) (field : ℕ) : Type 0 where
  pub later : nodes_field < field
  pub equal : value_of (field_at l field) ≡ value_of (field_at l (field - 1))
  pub first : (n : ℕ) → nodes_field < n → n < field → value_of (field_at l n) ≢ value_of (field_at l (n - 1))

-- What the field says, by the refusal's number: 0, or a field that the named line has; and which.
pub record FieldNamed (text : List ℕ) (refusal line field : ℕ) : Type 0 where
  pub present : 1 ≤ field → field ≤ length (fields (line_at text line))
  pub form : refusal ≡ 1 → FormField text line field
  pub map : refusal ≡ 2 → field ≡ 2
  pub flows : refusal ≡ 3 → field ≡ 1
  pub period : refusal ≡ 4 → field ≡ 2
  pub deadline : refusal ≡ 5 → field ≡ 3
  pub tries : refusal ≡ 6 → field ≡ 5
  pub route : refusal ≡ 7 → field ≡ 0
  pub neighbours : refusal ≡ 8 → NeighbourField (line_at text line) field
  pub work : refusal ≡ 9 → field ≡ 0
  pub nothing : refusal ≡ 0 → field ≡ 0
  pub later : 10 ≤ refusal → field ≡ 0

-- It holds of the reader's fault; a text that is accepted has none.
pub record ReaderNames (text : List ℕ) (f : Fault) : Type 0 where
  pub named : FieldNamed text (refusal_number f.refusal) f.line f.field
  pub accepted : good f.refusal ≡ true → f ≡ no_fault

-- It holds of what C is answered, for every text, flow, state and room,
pub record FieldsForC (text : List ℕ) : Type 0 where
  pub verdict : FieldNamed text (verdict_for_c text).refusal (verdict_for_c text).line (verdict_for_c text).field
  pub bounds : (k : ℕ) → FieldNamed text (bounds_for_c text k).refusal (bounds_for_c text k).line (bounds_for_c text k).field
  pub slot : (state : List ℕ) (room : ℕ)
      → FieldNamed text (slot_for_c text state room).refusal (slot_for_c text state room).line (slot_for_c text state room).field
  pub all_bounds : (room : ℕ) → FieldNamed text (all_bounds_for_c text room).refusal (all_bounds_for_c text room).line (all_bounds_for_c text room).field
  pub size : FieldNamed text (size_for_c text).refusal (size_for_c text).line (size_for_c text).field
  pub superframe : (room : ℕ)
      → FieldNamed text (superframe_for_c text room).refusal (superframe_for_c text room).line (superframe_for_c text room).field

-- and both programs print it: the numbers of the line of a refused input are the refusal, the line and the field.
pub record FieldPrinted (text : List ℕ) : Type 0 where
  pub plan : numbers_of (text_of_plan text) ≡ refusal_number (read_text text).fault.refusal ∷ (read_text text).fault.line ∷ (read_text text).fault.field ∷ []
  pub superframe : numbers_of (superframe_text text) ≡ numbers_of (text_of_plan text)

abbrev pub ProgramsPrint : Type 0
ProgramsPrint = (text : List ℕ) → length text ≤ most_input → good (read_text text).fault.refusal ≡ false → FieldPrinted text
