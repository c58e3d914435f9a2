-- The end of document 01's chain of rules, from rule 7 on, and the tests of a rule with a least and a most.
use Rattle.std.specs.Prelude.{◌≡◌, Bool, false, ◌||◌, cond, List, ℕ, zero, suc, ◌-◌, ◌*◌, ◌≤◌, eqb, ltb, length}
use Rattle.std.proofs.Common.{sym, ◌∙◌, arith, ne_eqb, le-ltb, ltb-false}
use Rattle.model.specs.declared.answers.Refusal.{Refusal}
use Rattle.model.specs.declared.answers.Refusal.TheVariants.{Nothing, BadRoute, EqualNeighbours, TooMuchWork}
use Rattle.model.specs.Limits.{most_nodes}
use Rattle.document.specs.Reader.{repeat_at}
use Rattle.laws.specs.SumLaws.{neither}

-- rules 7 to 9
unfoldable pub route_fault : ℕ → ℕ → ℕ → List ℕ → Refusal
route_fault d c n r =
    cond (ltb n 2 || ltb most_nodes n) BadRoute
    (cond (ltb (repeat_at r) (length r)) EqualNeighbours
    (cond (ltb d ((n - 1) * c)) TooMuchWork Nothing))

-- a number that must be 1 to m: to be 0 is to be below 1
pub from_one : (x m : ℕ) (r b : Bool) → r ≡ (ltb x 1 || ltb m x) → r ≡ b → (eqb x 0 || ltb m x) ≡ b
from_one zero m r b e q = sym e ∙ q
from_one (suc x) m r b e q = rw (ne_eqb (suc x) 0 (λ z. omega arith)) (rw (le-ltb (suc x) 1 (omega arith)) at (sym e ∙ q))

-- a number that a rule does not refuse
pub inside : (x l m : ℕ) → (ltb x l || ltb m x) ≡ false → (l ≤ x) × (x ≤ m)
inside x l m e = let w = neither _ _ e in (ltb-false x l w.0, ltb-false m x w.1)
