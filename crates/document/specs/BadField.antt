-- Request 3: the field that a refusal of the reader names, counted from 1; 0 names none. A line's fields are what one tab parts, up to its LF
-- or the text's end: the word, the period, the deadline, the start, the tries, then the nodes; on the first line the word and the map.
use mathlib.Core.{Bool.{Bool, not, ◌||◌, cond}, List.{List, [], ◌∷◌}}
use Rattle.std.specs.Prelude.{ℕ, suc, ◌+◌, ltb, eqb}
use Rattle.model.specs.declared.answers.Refusal.{Refusal}
use Rattle.model.specs.declared.answers.Refusal.TheVariants.{Nothing, BadForm, NoChannel, TooManyFlows, BadPeriod, BadDeadline, BadTries, BadRoute, EqualNeighbours, TooMuchWork, NoRoom, AtLastSlot, BadState, NoSuchFlow, NotAdmitted, LateStart, LongHyperPeriod}
use Rattle.document.specs.Text.{set_word, flow_word, same, fields, is_number}

-- field n of a line, with these bytes, is not the word, or a later one that is no number
abbrev pub breaks_form : List ℕ → ℕ → List ℕ → Bool
breaks_form word n f = cond (eqb n 1) (not (same f word)) (not (is_number f))

-- it breaks the form of a flow line
abbrev pub breaks_flow : ℕ → List ℕ → Bool
breaks_flow n f = breaks_form flow_word n f

-- it breaks the form of the first line, where every field from the third on is too many
abbrev pub breaks_first : ℕ → List ℕ → Bool
breaks_first n f = breaks_form set_word n f || ltb 2 n

-- the first of these fields that breaks the form, where the first of them is field n; 0 where none does
unfoldable pub first_breaking : (ℕ → List ℕ → Bool) → ℕ → List (List ℕ) → ℕ
first_breaking breaks n [] = 0
first_breaking breaks n (f ∷ fs) = cond (breaks n f) n (first_breaking breaks (suc n) fs)

-- the first field of a line that breaks its form
abbrev pub bad_field : (ℕ → List ℕ → Bool) → List ℕ → ℕ
bad_field breaks l = first_breaking breaks 1 (fields l)

-- where a flow line has its tries, and where its nodes begin
abbrev pub tries_field : ℕ
tries_field = 5

abbrev pub nodes_field : ℕ
nodes_field = 6

-- the field of each refusal of a line: `bad` is the first field that breaks its form, `equal` the place of the first node that equals the one
-- just before it
abbrev pub field_of : Refusal → ℕ → ℕ → ℕ
field_of Nothing bad equal = 0
field_of BadForm bad equal = bad
field_of NoChannel bad equal = 2
field_of TooManyFlows bad equal = 1
field_of BadPeriod bad equal = 2
field_of BadDeadline bad equal = 3
field_of BadTries bad equal = tries_field
field_of BadRoute bad equal = 0
field_of EqualNeighbours bad equal = nodes_field + equal
field_of TooMuchWork bad equal = 0
field_of NoRoom bad equal = 0
field_of AtLastSlot bad equal = 0
field_of BadState bad equal = 0
field_of NoSuchFlow bad equal = 0
field_of NotAdmitted bad equal = 0
field_of LateStart bad equal = 0
field_of LongHyperPeriod bad equal = 0
