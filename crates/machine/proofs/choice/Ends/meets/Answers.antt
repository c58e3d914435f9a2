-- `meets` asks the other link for one end and then for the other. Assumes nothing.
use Rattle.model.specs.Sets.{any_of, meet, memb}
use mathlib.Core.Bool.{Bool, true, false, or-false}
use mathlib.Core.List.{[], ◌∷◌}
use mathlib.Core.Path.{◌≡◌, sym, ◌∙◌}
use Prim.Native.Nat.{ℕ}
use Rattle.machine.proofs.choice.Ends.meets.Goals as goal

first : (p : ℕ → Bool) (x y : ℕ) → p x ≡ true → true ≡ any_of p (x ∷ y ∷ [])
unfolding any_of
first p x y e = rw e

second : (p : ℕ → Bool) (x y : ℕ) → p x ≡ false → p y ≡ any_of p (x ∷ y ∷ [])
unfolding any_of
second p x y e = rw (e, or-false)

pub returns-then-has : goal.returns-then-has
unfolding meet
returns-then-has c =
    let b = c.args.other in
    c.if-has.true ∙ first (λ x. memb x (b.from ∷ b.to ∷ [])) _ _ (sym c.has.ensures ∙ c.if-has.true)

pub returns-else-has : goal.returns-else-has
unfolding meet
returns-else-has c =
    let b = c.args.other in
    c.has-else-has.ensures ∙ second (λ x. memb x (b.from ∷ b.to ∷ [])) _ _ (sym c.has.ensures ∙ c.if-has.false)
