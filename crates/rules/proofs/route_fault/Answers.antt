-- `route_fault` is rules 7 to 9 in their order: each return is the first test of the chain that passes. The work fits, since a route that rule 7
-- lets pass has at most 16 links. Assumes nothing.
use mathlib.Core.Path.{◌≡◌, sym, ◌∙◌}
use mathlib.Core.Bool.{true, false, ◌||◌}
use Prim.Native.Nat.{◌-◌, ◌*◌, ◌≤◌, ◌<◌}
use native.Mathlib.Nat.{mul-le-mul, lt_of_le_of_lt}
use native.Mathlib.Omega.{arith}
use borrow.Author.Rules.{rules}
use borrow.Author.Tests.{lt-ltb, le-ltb}
use lib.Dec.{lit<, ltb}
use lib.ListN.{length, take}
use lib.Seq.{length-take-le}
use Rattle.model.specs.Limits.{most_nodes, most_links}
use Rattle.document.specs.Reader.{repeat_at}
use Rattle.rules.specs.Rules.{route_fault, inside}
use Rattle.rules.proofs.route_fault.Goals as goal
use Rattle.rules.proofs.route_fault.Goals.{Else-outside, Else-repeat_at-nodes, Then-deadline-work, Then-outside, Then-repeat_at-nodes}

-- rule 7 refuses, or not
bad-route : (c : Then-outside) → (ltb c.args.nodes 2 || ltb most_nodes c.args.nodes) ≡ true
bad-route c = sym c.outside.ensures ∙ c.if-outside.true

some-route : (c : Else-outside) → (ltb c.args.nodes 2 || ltb most_nodes c.args.nodes) ≡ false
some-route c = sym c.outside.ensures ∙ c.if-outside.false

pub returns-then-outside : goal.returns-then-outside
unfolding route_fault
returns-then-outside c = simp (bad-route c)

-- the nodes of a route that rule 7 lets pass are all in the array
all-nodes : (c : Else-outside) → let a = c.args in length (take a.nodes a.route) ≡ a.nodes
all-nodes c =
    let a = c.args in
    let w = inside a.nodes 2 most_nodes (some-route c) in
    let l : length a.route ≡ most_nodes = search rules in
    length-take-le a.nodes a.route (omega arith)

-- rule 8 refuses, or not
equal-nodes : (c : Then-repeat_at-nodes)
    → let a = c.args in ltb (repeat_at (take a.nodes a.route)) (length (take a.nodes a.route)) ≡ true
equal-nodes c =
    let a = c.args in
    let r = take a.nodes a.route in
    lt-ltb (repeat_at r) (length r) (omega (arith, c.repeat_at.ensures, all-nodes c.before.before))

no-equal-nodes : (c : Else-repeat_at-nodes)
    → let a = c.args in ltb (repeat_at (take a.nodes a.route)) (length (take a.nodes a.route)) ≡ false
no-equal-nodes c =
    let a = c.args in
    let r = take a.nodes a.route in
    le-ltb (repeat_at r) (length r) (omega (arith, c.repeat_at.ensures, all-nodes c.before.before))

pub returns-then-repeat_at-nodes : goal.returns-then-repeat_at-nodes
unfolding route_fault
returns-then-repeat_at-nodes c = simp (some-route c.before.before, equal-nodes c)

pub overflow_sub-work : goal.overflow_sub-work
overflow_sub-work c =
    let w = inside c.args.nodes 2 most_nodes (some-route c.before.before) in omega arith

pub overflow_mul-work : goal.overflow_mul-work
overflow_mul-work c =
    let a = c.args in
    let w = inside a.nodes 2 most_nodes (some-route c.before.before) in
    let n : a.nodes - 1 ≤ most_links = omega arith in
    let t : a.tries ≤ 65535 = search rules in
    record { fits = lt_of_le_of_lt (mul-le-mul n t) (lit< tt) }

-- rule 9 refuses
too_much : (c : Then-deadline-work) → let a = c.args in a.deadline < (a.nodes - 1) * a.tries
too_much c = c.if-deadline-work.true

pub returns-then-deadline-work : goal.returns-then-deadline-work
unfolding route_fault
returns-then-deadline-work c =
    simp (some-route c.before.before.before, no-equal-nodes c.before, lt-ltb _ _ (too_much c))

pub returns : goal.returns
unfolding route_fault
returns c =
    simp (some-route c.before.before.before, no-equal-nodes c.before, le-ltb _ _ c.if-deadline-work.false)
