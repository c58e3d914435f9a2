-- What stands at a place of a text, for code that goes through it with a cursor: t is the text from that place on.
use Rattle.std.specs.Prelude.{ℕ, ◌-◌, cond, List, [], ◌∷◌, ◌==◌, nat_lt}
use Rattle.document.specs.Text.{lf, fields, first_of, others_of}

-- the field that stands there
abbrev pub first : List ℕ → List ℕ
first t = first_of (fields t)

-- the line's fields after it
abbrev pub more : List ℕ → List (List ℕ)
more t = others_of (fields t)

-- the line that stands there, with its LF
unfoldable pub line : List ℕ → List ℕ
line [] = []
line (b ∷ t) = b ∷ cond (b == lf) [] (line t)

-- what stands after that line
unfoldable pub after : List ℕ → List ℕ
after [] = []
after (b ∷ t) = cond (b == lf) t (after t)

-- how a byte goes on with a number: a digit by its value; a tab or an LF, which end it, by 10; any other by 11
unfoldable pub look_byte : ℕ → ℕ
look_byte b = cond (nat_lt b 48) (cond (b == 9) 10 (cond (b == 10) 10 11)) (cond (nat_lt 57 b) 11 (b - 48))

-- the same of the byte that stands there; the text's end ends a number too
unfoldable pub look_at : List ℕ → ℕ
look_at [] = 10
look_at (b ∷ t) = look_byte b
