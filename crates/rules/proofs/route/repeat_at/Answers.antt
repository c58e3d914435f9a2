use mathlib.Core.Path.{◌≡◌, sym, ap, ◌∙◌}
use mathlib.Core.Logic.{◌≢◌}
use mathlib.Core.List.{List}
use Prim.Native.Nat.{ℕ, ◌+◌, ◌-◌, ◌≤◌, ◌<◌}
use native.Mathlib.Decide.{dec_le}
use native.Mathlib.Omega.{arith}
use borrow.Author.Rules.{rules}
use lib.ListN.{length, get_or, take}
use Rattle.model.specs.Limits.{most_nodes}
use Rattle.document.specs.Reader.{repeat_at}
use Rattle.laws.specs.Neighbours.{repeat_found, repeat_passed}
use Rattle.laws.specs.Taken.{take_min}
use Rattle.rules.proofs.route.repeat_at.Invariants.{Passed}
use Rattle.rules.proofs.route.repeat_at.Goals as goal

-- before the second node there is none to compare
pub loop-i-init : goal.loop-i-init
loop-i-init c =
    record {
      long = search rules;
      ends = search rules;
      few = search rules;
      from = omega arith;
      differ = λ j a b. absurd (omega arith);
    }

-- the node at the place equals the one just before it,
found : (n : ℕ) (r : List ℕ) (end i : ℕ) → Passed n r end i → i < end → get_or r i 0 ≡ get_or r (i - 1) 0 → i ≡ repeat_at (take n r)
found n r end i p h e =
    let f : end ≤ length r = omega (arith, p.long, p.few) in
    sym (repeat_found r end f i h (record { later = p.from; equal = e; first = p.differ }))
    ∙ ap repeat_at (take_min r most_nodes n end p.long p.ends)

-- or it differs and the pass goes on,
on : (n : ℕ) (r : List ℕ) (end i : ℕ) → Passed n r end i → get_or r i 0 ≢ get_or r (i - 1) 0 → Passed n r end (i + 1)
on n r end i p d = record { long = p.long; ends = p.ends; few = p.few; from = omega arith; differ = λ j a b. next j a b (dec_le i j) }
  where
    next : (j : ℕ) → 1 ≤ j → j < i + 1 → Dec (i ≤ j) → get_or r j 0 ≢ get_or r (j - 1) 0
    next j a b (yes l) = let e : j ≡ i = omega arith in rw e d
    next j a b (no l) = p.differ j a (omega arith)

-- as far as the last node
passed : (n : ℕ) (r : List ℕ) (end i : ℕ) → Passed n r end i → end ≤ i → end ≡ repeat_at (take n r)
passed n r end i p h =
    let f : end ≤ length r = omega (arith, p.long, p.few) in
    sym (repeat_passed r end f (λ j a b. p.differ j a (omega arith))) ∙ ap repeat_at (take_min r most_nodes n end p.long p.ends)

pub returns-then-route-i : goal.returns-then-route-i
returns-then-route-i c = found _ _ _ _ c.loop-i.invariant (omega arith) c.if-route-i.true

pub loop-i-preserved : goal.loop-i-preserved
loop-i-preserved c = on _ _ _ _ c.loop-i.invariant c.if-route-i.false

pub returns : goal.returns
returns c = passed _ _ _ _ c.loop-i.invariant (omega arith)
