-- The margin written from the deadline and the bound, unsigned, as the code has them.
use Rattle.std.specs.Prelude.{◌≡◌, refl, Bool, true, false, cond, List, ◌∷◌, ℕ, suc, ◌+◌, ◌-◌, ◌≤◌, ◌<◌, ltb, ℤ, pos, negsuc, ◌+ℤ◌, ◌-ℤ◌, neg_ℤ}
use Rattle.std.proofs.Common.{sym, ap, ◌∙◌, arith, ltb-true, ltb-false}
use Rattle.std.proofs.Math.IntN.{pos-+ℤ-pos, +ℤ-neg_ℤ_cancel, neg_ℤ-+ℤ, +ℤ_assoc, +ℤ_invr, +ℤ_idl}
use Rattle.document.specs.Text.{decimal}
use Rattle.document.specs.Program.{signed}

abbrev pub margin_text : ℕ → ℕ → List ℕ
margin_text d t = cond (ltb d t) (45 ∷ decimal (t - d)) (decimal (d - t))

not_below : (d t : ℕ) → t ≤ d → pos d -ℤ pos t ≡ pos (d - t)
not_below d t h =
    let e : d - t + t ≡ d = omega arith in
    ap (λ (x : ℕ). pos x -ℤ pos t) (sym e) ∙ ap (λ (z : ℤ). z -ℤ pos t) (sym (pos-+ℤ-pos (d - t) t)) ∙ +ℤ-neg_ℤ_cancel (pos (d - t)) (pos t)

below : (d n : ℕ) → pos d -ℤ pos (d + suc n) ≡ negsuc n
below d n =
    ap (λ (z : ℤ). pos d +ℤ neg_ℤ z) (sym (pos-+ℤ-pos d (suc n)))
    ∙ ap (λ (z : ℤ). pos d +ℤ z) (neg_ℤ-+ℤ (pos d) (pos (suc n)))
    ∙ sym (+ℤ_assoc (pos d) (neg_ℤ (pos d)) (negsuc n))
    ∙ ap (λ (z : ℤ). z +ℤ negsuc n) (+ℤ_invr (pos d))
    ∙ +ℤ_idl (negsuc n)

pub signed_margin : (d t : ℕ) → signed (pos d -ℤ pos t) ≡ margin_text d t
signed_margin d t = go (ltb d t) refl
  where
    go : (b : Bool) → ltb d t ≡ b → signed (pos d -ℤ pos t) ≡ cond b (45 ∷ decimal (t - d)) (decimal (d - t))
    go true e =
        let h : d < t = ltb-true d t e in
        let x : t ≡ d + suc (t - d - 1) = omega arith in
        let y : suc (t - d - 1) ≡ t - d = omega arith in
        ap (λ (k : ℕ). signed (pos d -ℤ pos k)) x ∙ ap signed (below d (t - d - 1)) ∙ ap (λ (k : ℕ). 45 ∷ decimal k) y
    go false e = ap signed (not_below d t (ltb-false d t e))
