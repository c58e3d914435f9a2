-- What a line's reading answers: its numbers with the place of the next line, or nothing where it lacks the form.
use Rattle.std.specs.Prelude.{ℕ, ◌+◌, Bool, true, false, Option, Some, None, List, length}
use Rattle.model.specs.Limits.{most_nodes}
use Rattle.document.specs.Reader.{pad}
use Rattle.document.specs.Text.{well_formed, numbers_of}
use Rattle.text.specs.Places.{line}
use Rattle.text.specs.declared.line.Row.{Row}

-- the most numbers that a line can have and be accepted: four of a flow, and its nodes
abbrev pub most_numbers : ℕ
most_numbers = 4 + most_nodes

-- the row of a line of this word, t the text from this place on: how many numbers it has, the first of them, and the place of the
-- next line
abbrev pub row_if : Bool → ℕ → List ℕ → Option Row
row_if true from t = Some record { count = length (numbers_of t); numbers = pad most_numbers (numbers_of t); next = from + length (line t) }
row_if false from t = None

unfoldable pub row_in : List ℕ → ℕ → List ℕ → Option Row
row_in word from t = row_if (well_formed word t) from t
