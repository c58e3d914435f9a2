-- The `send` lines of a slot: each has at most 36 bytes, since its numbers are short, and read line by line the bytes give the numbers back.
use Rattle.std.specs.Prelude.{◌≡◌, refl, List, [], ◌∷◌, ◌++◌, map, ℕ, zero, suc, ◌*◌, ◌≤◌, ◌<◌, length, get_or}
use Rattle.std.proofs.Common.{sym, ap, ◌∙◌, arith, length-append}
use Rattle.model.specs.declared.answers.Send.{Send}
use Rattle.document.specs.Text.{fields, lines, numbers_of, decimals, tabbed, line_of}
use Rattle.document.specs.Program.{send_word, send_numbers, send_lines}
use Rattle.laws.specs.WrittenNumbers.{tens, decimal_length, fields_tabbed, lines_tabbed, values_back}
use Rattle.promise.specs.Promise.{line_length, numbers_in}
use Rattle.promise.specs.SentLines.{Short, AllShort}

-- a line has its word, a tab and digits for each number, and LF
line_length_law : (x : Send) → Short x → length (line_of send_word (send_numbers x)) ≤ line_length
unfolding line_of tabbed decimals
line_length_law x h =
    let a = decimal_length 9 x.slot.0 h.slot in
    let b = decimal_length 1 x.flow h.flow in
    let c = decimal_length 4 x.from h.from in
    let d = decimal_length 4 x.to h.to in
    let e = decimal_length 0 x.attempt h.attempt in
    let f = decimal_length 1 x.channel h.channel in
    simp length-append (omega arith)

pub lines_length_law : (xs : List Send) → AllShort xs → length (send_lines xs) ≤ line_length * length xs
unfolding send_lines
lines_length_law [] h = omega arith
lines_length_law (x ∷ xs) h =
    let a = line_length_law x (h 0 (omega arith)) in
    let b = lines_length_law xs (λ p l. h (suc p) (omega arith)) in
    simp length-append (omega arith)

-- the line's numbers, and the line before those that follow
numbers_small : (x : Send) → Short x → (i : ℕ) → get_or (send_numbers x) i 0 < tens 10
unfolding tens
numbers_small x h zero = h.slot
numbers_small x h (suc zero) = omega (arith, h.flow)
numbers_small x h (suc (suc zero)) = omega (arith, h.from)
numbers_small x h (suc (suc (suc zero))) = omega (arith, h.to)
numbers_small x h (suc (suc (suc (suc zero)))) = omega (arith, h.attempt)
numbers_small x h (suc (suc (suc (suc (suc zero))))) = omega (arith, h.channel)
numbers_small x h (suc (suc (suc (suc (suc (suc i)))))) = omega arith

line_numbers : (x : Send) → Short x → numbers_of (line_of send_word (send_numbers x)) ≡ send_numbers x
unfolding numbers_of line_of fields
line_numbers x h = rw (fields_tabbed (send_numbers x)) (values_back (send_numbers x) (numbers_small x h))

line_first : (x : Send) (t : List ℕ) → lines (line_of send_word (send_numbers x) ++ t) ≡ line_of send_word (send_numbers x) ∷ lines t
unfolding line_of lines
line_first x t = rw (lines_tabbed (send_numbers x) t)

pub numbers_back : (xs : List Send) → AllShort xs → numbers_in (send_lines xs) ≡ map send_numbers xs
unfolding send_lines lines
numbers_back [] h = refl
numbers_back (x ∷ xs) h =
    rw (line_first x (send_lines xs), line_numbers x (h 0 (omega arith)), numbers_back xs (λ p l. h (suc p) (omega arith)))

-- so equal bytes are of equal sends
pub lines_tell : (xs ys : List Send) → AllShort xs → AllShort ys → send_lines xs ≡ send_lines ys → map send_numbers xs ≡ map send_numbers ys
lines_tell xs ys h k e = sym (numbers_back xs h) ∙ ap numbers_in e ∙ numbers_back ys k
