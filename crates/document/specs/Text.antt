-- Document 01, "The flow set", from "Text:" on: lines ended by LF, fields parted by one tab, decimal numbers.
-- A text is the list of its bytes. Lines and fields are split off as the document speaks of them: no place in the text is counted.
use mathlib.Core.{Bool.{Bool, true, false, not, ◌&&◌, ◌||◌, cond}, List.{List, [], ◌∷◌, ◌++◌}}
use Rattle.std.specs.Prelude.{ℕ, zero, suc, ◌+◌, ◌-◌, ◌*◌, ◌/◌, ◌%◌, leb, ltb, eqb}

abbrev pub tab : ℕ
tab = 9

abbrev pub lf : ℕ
lf = 10

abbrev pub zero_digit : ℕ
zero_digit = 48

-- `set`
abbrev pub set_word : List ℕ
set_word = 115 ∷ 101 ∷ 116 ∷ []

-- `flow`
abbrev pub flow_word : List ℕ
flow_word = 102 ∷ 108 ∷ 111 ∷ 119 ∷ []

-- the same list of numbers
unfoldable pub same : List ℕ → List ℕ → Bool
same [] [] = true
same [] (y ∷ ys) = false
same (x ∷ xs) [] = false
same (x ∷ xs) (y ∷ ys) = eqb x y && same xs ys

-- one byte more at the front of the first part
abbrev pub onto : ℕ → List (List ℕ) → List (List ℕ)
onto b [] = (b ∷ []) ∷ []
onto b (l ∷ ls) = (b ∷ l) ∷ ls

-- the lines of a text, each with its LF; only the last can lack it
unfoldable pub lines : List ℕ → List (List ℕ)
lines [] = []
lines (b ∷ s) = cond (eqb b lf) ((b ∷ []) ∷ lines s) (onto b (lines s))

-- the line is ended by LF
unfoldable pub ended : List ℕ → Bool
ended [] = false
ended (b ∷ s) = eqb b lf || ended s

-- the fields of a line, parted by one tab, up to its LF
unfoldable pub fields : List ℕ → List (List ℕ)
fields [] = [] ∷ []
fields (b ∷ s) = cond (eqb b lf) ([] ∷ []) (cond (eqb b tab) ([] ∷ fields s) (onto b (fields s)))

-- the first field
abbrev pub first_of : List (List ℕ) → List ℕ
first_of [] = []
first_of (f ∷ fs) = f

-- the fields after the first
abbrev pub others_of : List (List ℕ) → List (List ℕ)
others_of [] = []
others_of (f ∷ fs) = fs

abbrev pub is_digit : ℕ → Bool
is_digit b = leb zero_digit b && ltb b (zero_digit + 10)

unfoldable pub all_digits : List ℕ → Bool
all_digits [] = true
all_digits (b ∷ f) = is_digit b && all_digits f

-- not empty, and without leading zero; 0 itself is `0`
abbrev pub plain : List ℕ → Bool
plain [] = false
plain (b ∷ []) = true
plain (b ∷ c ∷ f) = not (eqb b zero_digit)

-- the value of digits that follow those of v
unfoldable pub value_from : ℕ → List ℕ → ℕ
value_from v [] = v
value_from v (b ∷ f) = value_from (v * 10 + (b - zero_digit)) f

abbrev pub value_of : List ℕ → ℕ
value_of f = value_from 0 f

-- a number is decimal, without sign or leading zero, at most 65,535
unfoldable pub is_number : List ℕ → Bool
is_number f = plain f && all_digits f && leb (value_of f) 65535

unfoldable pub all_numbers : List (List ℕ) → Bool
all_numbers [] = true
all_numbers (f ∷ fs) = is_number f && all_numbers fs

unfoldable pub values_of : List (List ℕ) → List ℕ
values_of [] = []
values_of (f ∷ fs) = value_of f ∷ values_of fs

-- the line is this word and numbers, ended by LF
unfoldable pub well_formed : List ℕ → List ℕ → Bool
well_formed word l = same (first_of (fields l)) word && all_numbers (others_of (fields l)) && ended l

-- the numbers of a well formed line
unfoldable pub numbers_of : List ℕ → List ℕ
numbers_of l = values_of (others_of (fields l))

-- the digits of n, of which there are at most this many
unfoldable pub decimal_in : ℕ → ℕ → List ℕ
decimal_in zero n = []
decimal_in (suc k) n = cond (ltb n 10) ((zero_digit + n) ∷ []) (decimal_in k (n / 10) ++ ((zero_digit + n % 10) ∷ []))

-- n as a number is written; ten digits are enough for every number that is written
unfoldable pub decimal : ℕ → List ℕ
decimal n = decimal_in 10 n

-- a tab before each field, LF after the last
unfoldable pub tabbed : List (List ℕ) → List ℕ
tabbed [] = lf ∷ []
tabbed (f ∷ fs) = (tab ∷ f) ++ tabbed fs

unfoldable pub decimals : List ℕ → List (List ℕ)
decimals [] = []
decimals (v ∷ vs) = decimal v ∷ decimals vs

-- a line of this word and these numbers
unfoldable pub line_of : List ℕ → List ℕ → List ℕ
line_of word vs = word ++ tabbed (decimals vs)
