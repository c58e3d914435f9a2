-- What a number's reading answers: its value with the place after it, or nothing.
use Rattle.std.specs.Prelude.{◌≡◌, ℕ, ◌+◌, ◌-◌, Bool, true, false, cond, Option, Some, None, List, [], ◌∷◌, length, ◌==◌, nat_le, refl}
use Rattle.std.proofs.Common.{ap, ◌∙◌}
use Rattle.model.specs.Refusals.{number_says}
use Rattle.document.specs.Text.{value_of, is_number}

-- the answer to the field f that stands at this place
abbrev pub number_if : Bool → ℕ → List ℕ → Option (ℕ × ℕ)
number_if true from f = Some (value_of f, from + length f)
number_if false from f = None

unfoldable pub number_in : ℕ → List ℕ → Option (ℕ × ℕ)
number_in from f = number_if (is_number f) from f

-- the answer to digits that begin with this byte, from this place to that, and have the value v: none is no number, and a leading
-- zero stands alone
abbrev pub number_of : ℕ → ℕ → ℕ → ℕ → Option (ℕ × ℕ)
number_of lead from end v = cond (nat_le end from) None (cond (end - from == 1) (Some (v, end)) (cond (lead == 48) None (Some (v, end))))

-- what document 01's number and values are for the field f: the value and the place after it, or refusal 1 and none
abbrev pub said_of : ℕ → List ℕ → ℕ × List ℕ
said_of from f = cond (is_number f) (0, value_of f ∷ (from + length f) ∷ []) (1, [])

-- the answer says so
pub number_said : {x : Option (ℕ × ℕ)} (from : ℕ) (f : List ℕ) → x ≡ number_in from f → number_says x ≡ said_of from f
unfolding number_in
number_said from f e = ap number_says e ∙ go (is_number f)
  where
    go : (b : Bool) → number_says (number_if b from f) ≡ cond b (0, value_of f ∷ (from + length f) ∷ []) (1, [])
    go true = refl
    go false = refl

-- equal answers have equal parts
pub same_parts : {a b c d : ℕ} → ◌≡◌ {A = Option (ℕ × ℕ)} (Some (a, b)) (Some (c, d)) → (a ≡ c) × (b ≡ d)
same_parts {a} {b} {c} {d} h =
    let p : ◌≡◌ {A = ℕ × ℕ} (a, b) (c, d) = (cc) in (ap (λ (x : ℕ × ℕ). x.0) p, ap (λ (x : ℕ × ℕ). x.1) p)
