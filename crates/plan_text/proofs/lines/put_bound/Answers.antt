-- The word, the five numbers, the margin and the LF are put one after the other.
use mathlib.Core.Path.{ap₂}
use mathlib.Core.List.{[], ◌∷◌, ◌++◌}
use Prim.Native.Nat.{ℕ, ◌≤◌}
use native.Mathlib.Omega.{arith}
use lib.ListN.{length}
use Rattle.document.specs.Program.{bound_word}
use Rattle.plan_text.specs.{BoundText.{bound_text}, Margins.{margin_text}}
use Rattle.text.specs.Put.{fields_of, put_put, put_same, last_place}
use Rattle.plan_text.proofs.lines.put_bound.Goals as goal

pub returns : goal.returns
unfolding bound_text
returns c =
    let a = c.args in
    let b = a.b in
    let h : length a.out.now ≤ last_place = omega arith in
    let to_Fields = put_put _ _ _ _ _ _ _ _ h c.put_word-first.ensures c.put_fields-second.ensures in
    let to-margin = put_put _ _ _ _ _ _ _ _ h to_Fields c.put_margin-third.ensures in
    let e = ap₂ (λ (k d : ℕ). bound_word ++ fields_of (k ∷ b.work ∷ b.basic ∷ b.tightened ∷ d ∷ []) ++ (9 ∷ margin_text d b.tightened) ++ (10 ∷ [])) c.from.ensures c.from-deadline.ensures in
    put_same _ _ _ _ _ _ e (put_put _ _ _ _ _ _ _ _ h to-margin c.put_byte.ensures)
