-- The line that both programs print of a refusal, from the number that the refusal's `code` answers.
use Rattle.std.specs.Prelude.{◌≡◌, ℕ, [], ◌∷◌}
use Rattle.std.proofs.Common.{ap}
use Rattle.model.specs.declared.answers.Fault.{Fault}
use Rattle.model.specs.Refusals.{refusal_number}
use Rattle.document.specs.Text.{line_of}
use Rattle.document.specs.Program.{refused_word, refused_line}

pub refused_line_law : (f : Fault) (n : ℕ) → n ≡ refusal_number f.refusal → line_of refused_word (n ∷ f.line ∷ f.field ∷ []) ≡ refused_line f
refused_line_law f n e = ap (λ (x : ℕ). line_of refused_word (x ∷ f.line ∷ f.field ∷ [])) e
