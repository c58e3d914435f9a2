-- The `bound` line with its margin written from the deadline and the bound, unsigned, as the code has them.
use Rattle.std.specs.Prelude.{◌≡◌, refl, List, [], ◌∷◌, ◌++◌, ℕ, pos, ◌-ℤ◌}
use Rattle.std.proofs.Common.{sym, ap, ◌∙◌, append_assoc}
use Rattle.model.specs.declared.answers.Bounds.{Bounds}
use Rattle.document.specs.Text.{decimal, decimals, tabbed}
use Rattle.document.specs.Program.{bound_word, bound_line, signed}
use Rattle.text.specs.Put.{fields_of}
use Rattle.plan_text.specs.Margins.{margin_text, signed_margin}

abbrev pub bound_numbers : ℕ → Bounds → List ℕ
bound_numbers k b = k ∷ b.work ∷ b.basic ∷ b.tightened ∷ b.deadline.0 ∷ []

unfoldable pub bound_text : ℕ → Bounds → List ℕ
bound_text k b = bound_word ++ fields_of (bound_numbers k b) ++ (9 ∷ margin_text b.deadline.0 b.tightened) ++ (10 ∷ [])

-- numbers, a last field and LF
last_field : (vs f : List ℕ) → tabbed (decimals vs ++ (f ∷ [])) ≡ fields_of vs ++ ((9 ∷ f) ++ (10 ∷ []))
unfolding tabbed decimals fields_of
last_field [] f = refl
last_field (v ∷ vs) f =
    ap (λ (l : List ℕ). (9 ∷ decimal v) ++ l) (last_field vs f)
    ∙ sym (append_assoc (9 ∷ decimal v) (fields_of vs) ((9 ∷ f) ++ (10 ∷ [])))

pub bound_text_law : (k : ℕ) (b : Bounds) → b.margin ≡ pos b.deadline.0 -ℤ pos b.tightened → bound_text k b ≡ bound_line k b
unfolding bound_text
bound_text_law k b e =
    append_assoc (bound_word ++ fields_of (bound_numbers k b)) (9 ∷ margin_text b.deadline.0 b.tightened) (10 ∷ [])
    ∙ append_assoc bound_word (fields_of (bound_numbers k b)) ((9 ∷ margin_text b.deadline.0 b.tightened) ++ (10 ∷ []))
    ∙ ap (λ (l : List ℕ). bound_word ++ l) (sym (last_field (bound_numbers k b) (margin_text b.deadline.0 b.tightened)))
    ∙ ap (λ (f : List ℕ). bound_word ++ tabbed (decimals (bound_numbers k b) ++ (f ∷ [])))
    (sym (signed_margin b.deadline.0 b.tightened) ∙ ap signed (sym e))
