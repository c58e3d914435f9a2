-- The `send` lines of a list of sends, one line more at a time.
use Rattle.std.specs.Prelude.{◌≡◌, ℕ, ◌+◌, ◌<◌, List, [], ◌∷◌, ◌++◌, length, take, slice_index_or, refl}
use Rattle.std.proofs.Common.{sym, ap, ◌∙◌, append_assoc, append-nil, add-one, take-suc}
use Rattle.model.specs.declared.answers.Send.{Send}
use Rattle.document.specs.Text.{line_of}
use Rattle.document.specs.Program.{send_lines, send_numbers, send_word}

send_append : (xs ys : List Send) → send_lines (xs ++ ys) ≡ send_lines xs ++ send_lines ys
unfolding send_lines
send_append [] ys = refl
send_append (x ∷ xs) ys =
    ap (λ (l : List ℕ). line_of send_word (send_numbers x) ++ l) (send_append xs ys)
    ∙ sym (append_assoc (line_of send_word (send_numbers x)) (send_lines xs) (send_lines ys))

send_one : (x : Send) → send_lines (x ∷ []) ≡ line_of send_word (send_numbers x)
unfolding send_lines
send_one x = append-nil (line_of send_word (send_numbers x))

-- one line more
pub send_more : (xs : List Send) (i : ℕ) (d : Send) → i < length xs
    → send_lines (take i xs) ++ line_of send_word (send_numbers (slice_index_or xs i d)) ≡ send_lines (take (i + 1) xs)
send_more xs i d h =
    ap (λ (l : List ℕ). send_lines (take i xs) ++ l) (sym (send_one (slice_index_or xs i d)))
    ∙ sym (send_append (take i xs) (slice_index_or xs i d ∷ []))
    ∙ ap send_lines (sym (take-suc xs i d h) ∙ ap (λ (n : ℕ). take n xs) (sym (add-one i)))
