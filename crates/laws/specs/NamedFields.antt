-- The field that the reader names is what request 3 says: the line of a refusal is the one that was left when the lines before it were good, and the
-- refusal's number tells the field.
use Rattle.std.specs.Prelude.{◌≡◌, refl, Bool, true, false, cond, List, [], ◌∷◌, ℕ, zero, suc, ◌+◌, ◌-◌, ◌≤◌, ◌<◌, eqb, length, get_or, drop}
use Rattle.std.proofs.Common.{sym, ap, ◌∙◌, zero-le, arith, get_or-drop, drop-drop, ne_eqb}
use Rattle.std.proofs.lemmas.Bool.{false≢true}
use Rattle.std.proofs.Math.Decide.{dec_le}
use Rattle.std.proofs.Math.ListN.{get_or-eq_default}
use Rattle.model.specs.declared.kinds.FlowSet.{FlowSet}
use Rattle.model.specs.declared.answers.Fault.{Fault}
use Rattle.model.specs.declared.answers.Refusal.{Refusal}
use Rattle.model.specs.declared.answers.Refusal.TheVariants.{Nothing, BadForm, NoChannel, TooManyFlows, BadPeriod, BadDeadline, BadTries, BadRoute, EqualNeighbours, TooMuchWork, NoRoom, AtLastSlot, BadState, NoSuchFlow, NotAdmitted, LateStart, LongHyperPeriod}
use Rattle.model.specs.Refusals.{good, refusal_number, no_fault}
use Rattle.document.specs.Text.{lines, fields, numbers_of}
use Rattle.document.specs.BadField.{breaks_first, breaks_flow, bad_field, tries_field, nodes_field, field_of}
use Rattle.document.specs.Reader.{repeat_at, flow_of, with_flow, first_line_fault, flow_line_fault, first_line_field, flow_line_field, read_flows, set_of, read_lines, read_text}
use Rattle.document.specs.FieldNamed.{line_at, FormField, NeighbourField, FieldNamed, ReaderNames}
use Rattle.laws.specs.LinesRead.{read_good, read_bad, first_good, first_bad_law}
use Rattle.laws.specs.LineFields.{found, nodes_in, neighbour_field, fields_le, line_le, no_lines}
use Rattle.laws.specs.FieldFits.{Fits, first_line_fits, flow_line_fits}

-- the fields of refusals 0 to 8 in their order, where `bad` is the form's and `equal` the place of the equal node; later ones have none
abbrev by_number : ℕ → ℕ → List ℕ
by_number bad equal = 0 ∷ bad ∷ 2 ∷ 1 ∷ 2 ∷ 3 ∷ tries_field ∷ 0 ∷ (nodes_field + equal) ∷ []

field_by_number : (r : Refusal) (bad equal : ℕ) → field_of r bad equal ≡ get_or (by_number bad equal) (refusal_number r) 0
field_by_number Nothing bad equal = refl
field_by_number BadForm bad equal = refl
field_by_number NoChannel bad equal = refl
field_by_number TooManyFlows bad equal = refl
field_by_number BadPeriod bad equal = refl
field_by_number BadDeadline bad equal = refl
field_by_number BadTries bad equal = refl
field_by_number BadRoute bad equal = refl
field_by_number EqualNeighbours bad equal = refl
field_by_number TooMuchWork bad equal = refl
field_by_number NoRoom bad equal = refl
field_by_number AtLastSlot bad equal = refl
field_by_number BadState bad equal = refl
field_by_number NoSuchFlow bad equal = refl
field_by_number NotAdmitted bad equal = refl
field_by_number LateStart bad equal = refl
field_by_number LongHyperPeriod bad equal = refl

-- What is to be shown of a field: that the line has it, and for 1 and 8 which it is; the others are read off.
named : (text : List ℕ) (n line field bad equal : ℕ) → field ≡ get_or (by_number bad equal) n 0
    → field ≤ length (fields (line_at text line))
    → (n ≡ 1 → FormField text line bad)
    → (n ≡ 8 → NeighbourField (line_at text line) (nodes_field + equal))
    → FieldNamed text n line field
named text n line field bad equal e p f w =
    record {
      present = λ h. p;
      form = λ h. rw (is 1 h) (f h);
      map = is 2;
      flows = is 3;
      period = is 4;
      deadline = is 5;
      tries = is 6;
      route = is 7;
      neighbours = λ h. rw (is 8 h) (w h);
      work = is 9;
      nothing = is 0;
      later = λ h. e ∙ get_or-eq_default (by_number bad equal) 0 {n = n} (omega arith);
    }
  where
    is : (k : ℕ) → n ≡ k → field ≡ get_or (by_number bad equal) k 0
    is k h = e ∙ ap (λ (i : ℕ). get_or (by_number bad equal) i 0) h

-- no field, where nothing is refused or what is refused is no line
pub no_field : (text : List ℕ) (n line : ℕ) → (1 ≤ n → 10 ≤ n) → FieldNamed text n line 0
no_field text n line h =
    named text n line 0 0 0 (none n h) zero-le (λ e. absurd (omega (arith, h (omega arith)))) (λ e. absurd (omega (arith, h (omega arith))))
  where
    none : (n : ℕ) → (1 ≤ n → 10 ≤ n) → 0 ≡ get_or (by_number 0 0) n 0
    none zero h = refl
    none (suc n) h = sym (get_or-eq_default (by_number 0 0) 0 {n = suc n} (omega (arith, h (omega arith))))

-- the test of a line's fields: the first line has its own
abbrev Tests : ℕ → (ℕ → List ℕ → Bool) → Type 0
Tests line breaks = (n : ℕ) (f : List ℕ) → cond (eqb line 1) (breaks_first n f) (breaks_flow n f) ≡ breaks n f

flow_tests : (k : ℕ) → Tests (k + 2) breaks_flow
flow_tests k n f = ap (λ (b : Bool). cond b (breaks_first n f) (breaks_flow n f)) (ne_eqb (k + 2) 1 (λ e. omega arith))

form_field : (text : List ℕ) (line : ℕ) (breaks : ℕ → List ℕ → Bool) → Tests line breaks → FormField text line (bad_field breaks (line_at text line))
form_field text line breaks is =
    let w = found breaks 1 (fields (line_at text line)) (omega arith) in
    record {
      breaks = λ h. is _ _ ∙ w.bad h;
      first = λ n a b. is _ _ ∙ w.first n a b;
      none = λ z t n a b. is _ _ ∙ w.none z n a (omega arith);
    }

-- a refused line
line_named : (text : List ℕ) (line : ℕ) (breaks : ℕ → List ℕ → Bool) (equal n : ℕ) (r : Refusal) → Tests line breaks → Fits breaks (line_at text line) equal n r
    → (equal < n → NeighbourField (line_at text line) (nodes_field + equal))
    → FieldNamed text (refusal_number r) line (field_of r (bad_field breaks (line_at text line)) equal)
line_named text line breaks equal n r is w e =
    named text (refusal_number r) line _ _ equal (field_by_number r _ equal) w.present (λ h. form_field text line breaks is) (λ h. e (w.repeats h))

first_named : (text l : List ℕ) → line_at text 1 ≡ l → FieldNamed text (refusal_number (first_line_fault l)) 1 (first_line_field l)
unfolding first_line_field
first_named text l e =
    rw (← e) (line_named text 1 breaks_first 0 0 _ (λ n f. refl) (first_line_fits (line_at text 1)) (λ h. absurd (omega arith)))

flow_named : (text : List ℕ) (k : ℕ) (l : List ℕ) → line_at text (k + 2) ≡ l → FieldNamed text (refusal_number (flow_line_fault k l)) (k + 2) (flow_line_field k l)
unfolding flow_line_field
flow_named text k l e =
    let here = line_at text (k + 2) in
    rw (← e) (line_named text (k + 2) breaks_flow (repeat_at (nodes_in here)) (length (nodes_in here)) _ (flow_tests k) (flow_line_fits k here)
    (neighbour_field here))

-- a fault that is none, and one that is
names_none : (text : List ℕ) → ReaderNames text no_fault
names_none text = record { named = no_field text 0 0 (λ h. absurd (omega arith)); accepted = λ h. refl }

names_refused : (text : List ℕ) (f : Fault) → good f.refusal ≡ false → FieldNamed text (refusal_number f.refusal) f.line f.field → ReaderNames text f
names_refused text f e w = record { named = w; accepted = λ h. absurd (false≢true (sym e ∙ h)) }

-- what is left after the first line and the lines of the flows of s
flows_names : (text : List ℕ) (s : FlowSet) (ls : List (List ℕ)) → drop (s.count + 1) (lines text) ≡ ls → ReaderNames text (read_flows s ls).fault
unfolding read_flows with_flow
flows_names text s [] e = names_none text
flows_names text s (l ∷ ls) e =
    go (good (flow_line_fault s.count l)) refl
    (flows_names text (with_flow s (flow_of (numbers_of l))) ls (sym (drop-drop 1 (s.count + 1) (lines text)) ∙ ap (drop 1) e))
  where
    here : line_at text (s.count + 2) ≡ l
    here =
        let d : s.count + 2 - 1 ≡ s.count + 1 + 0 = omega arith in
        rw (d, ← (get_or-drop (s.count + 1) (lines text) 0 []), e) refl

    go : (b : Bool) → good (flow_line_fault s.count l) ≡ b → ReaderNames text (read_flows (with_flow s (flow_of (numbers_of l))) ls).fault
        → ReaderNames text (read_flows s (l ∷ ls)).fault
    go true g on = rw (read_good s l ls g) on
    go false g on = rw (read_bad s l ls g) (names_refused text _ g (flow_named text s.count l here))

-- Every refusal of the reader names the field that request 3 says, and an accepted text has none.
pub reader_names : (text : List ℕ) → ReaderNames text (read_text text).fault
unfolding read_text read_lines set_of
reader_names text = go (lines text) refl
  where
    go : (ls : List (List ℕ)) → lines text ≡ ls → ReaderNames text (read_lines ls).fault
    go [] e =
        names_refused text _ refl
        (named text 1 1 0 0 0 refl zero-le
        (λ h. record { breaks = λ k. absurd (omega arith); first = λ n i k. absurd (omega arith); none = λ z t. absurd (t (no_lines text e)) })
        (λ h. absurd (omega arith)))
    go (l ∷ ls) e = judged (good (first_line_fault l)) refl
      where
        judged : (b : Bool) → good (first_line_fault l) ≡ b → ReaderNames text (read_lines (l ∷ ls)).fault
        judged true g = rw (first_good l ls g) (flows_names text (set_of l) ls (ap (drop 1) e))
        judged false g = rw (first_bad_law l ls g) (names_refused text _ g (first_named text l (ap (λ (x : List (List ℕ)). get_or x 0 []) e)))

-- The field is one of a line of the text, and a line has at most one field more than bytes.
pub field_le : (text : List ℕ) → (read_text text).fault.field ≤ length text + 1
field_le text =
    let f = (read_text text).fault in
    elim (dec_le f.field 0) [
      | yes h ↦ omega arith
      | no h ↦ omega (
        arith,
        (reader_names text).named.present (omega arith),
        fields_le (line_at text f.line),
        line_le text (f.line - 1),
      )
    ]
