-- No accepted text is longer than the longest.
use Rattle.std.specs.Prelude.{◌≡◌, ℕ, ◌≤◌, true, List, [], ◌∷◌, length}
use Rattle.std.proofs.Common.{sym, ap, subst, ◌∙◌, zero-le, arith, length-append}
use Rattle.std.proofs.lemmas.Bool.{false≢true}
use Rattle.model.specs.declared.answers.Reading.{Reading}
use Rattle.model.specs.Refusals.{good}
use Rattle.document.specs.Reader.{set_of, read_lines, read_text}
use Rattle.document.specs.Text.{set_word, lines, numbers_of}
use Rattle.laws.specs.LinesRead.{first_good}
use Rattle.text.specs.FirstRow.{first_formed}
use Rattle.text.specs.WrittenLines.{line_back, line_small}
use Rattle.text.specs.ReadThenWritten.{joined, each_line, lines_joined, lines_each, first_passed, one_number, fields_size, line_length_law, flows_length, longest_text}

lines_length_law : (ls : List (List ℕ)) → each_line ls → good (read_lines ls).fault.refusal ≡ true → length (joined ls) ≤ longest_text
unfolding joined each_line read_lines set_of
lines_length_law [] e h = absurd (false≢true h)
lines_length_law (l ∷ ls) e h =
    let p = first_passed l ls h in
    let q = first_good l ls p in
    let f = first_formed l p in
    omega (
      arith,
      length-append l (joined ls),
      ap length (sym e.0 ∙ line_back set_word l f),
      line_length_law set_word (numbers_of l),
      ap length (one_number l p),
      fields_size (numbers_of l) (line_small set_word l f),
      flows_length ls (set_of l) e.1 zero-le (subst (λ (x : Reading). good x.fault.refusal ≡ true) q h),
    )

pub read_length : (s : List ℕ) → good (read_text s).fault.refusal ≡ true → length s ≤ longest_text
unfolding read_text
read_length s h = omega (arith, lines_length_law (lines s) (lines_each s) h, ap length (lines_joined s))
