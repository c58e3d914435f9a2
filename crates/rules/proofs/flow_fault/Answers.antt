-- `flow_fault` is rules 3 to 9 in their order: each return is the first test of the chain that passes, the last the rules from 7 on. Assumes nothing.
use mathlib.Core.Path.{◌≡◌}
use mathlib.Core.Bool.{true, false, ◌||◌}
use borrow.Author.Tests.{eq-eqb, ne_eqb, le-leb, lt-leb}
use lib.Dec.{eqb, ltb}
use Rattle.document.specs.Reader.{flow_fault}
use Rattle.rules.specs.Rules.{route_fault, from_one}
use Rattle.rules.proofs.flow_fault.Goals as goal
use Rattle.rules.proofs.flow_fault.Goals.{Else-outside, Then-outside, Then-outside-2, Then-period-eq0}

pub returns-then-k-ge-MOST : goal.returns-then-k-ge-MOST
unfolding flow_fault
returns-then-k-ge-MOST c = simp (le-leb _ _ c.if-k-ge-MOST.true)

-- rule 4 refuses
bad-period : (c : Then-period-eq0) → c.args.period ≡ 0
bad-period c = c.if-period-eq0.true

pub returns-then-period-eq0 : goal.returns-then-period-eq0
unfolding flow_fault
returns-then-period-eq0 c = simp (lt-leb _ _ c.if-k-ge-MOST.false, eq-eqb _ _ (bad-period c))

-- rule 5 refuses, or not
bad-deadline : (c : Then-outside)
    → let a = c.args in (eqb a.deadline 0 || ltb a.period a.deadline) ≡ true
bad-deadline c =
    let a = c.args in from_one a.deadline a.period _ _ c.outside.ensures c.if-outside.true

some-deadline : (c : Else-outside)
    → let a = c.args in (eqb a.deadline 0 || ltb a.period a.deadline) ≡ false
some-deadline c =
    let a = c.args in from_one a.deadline a.period _ _ c.outside.ensures c.if-outside.false

pub returns-then-outside : goal.returns-then-outside
unfolding flow_fault
returns-then-outside c =
    simp (lt-leb _ _ c.if-k-ge-MOST.false, ne_eqb _ _ c.if-period-eq0.false, bad-deadline c)

-- rule 6 refuses
bad-tries : (c : Then-outside-2) → let a = c.args in (eqb a.tries 0 || ltb 4 a.tries) ≡ true
bad-tries c =
    let a = c.args in
    from_one a.tries 4 _ _ c.outside-2.ensures c.if-outside-2.true

pub returns-then-outside-2 : goal.returns-then-outside-2
unfolding flow_fault
returns-then-outside-2 c =
    simp (lt-leb _ _ c.if-k-ge-MOST.false, ne_eqb _ _ c.if-period-eq0.false, some-deadline c.before.before, bad-tries c)

pub returns : goal.returns
unfolding flow_fault route_fault
returns c =
    let h = from_one c.args.tries 4 _ _ c.outside-2.ensures c.if-outside-2.false in
    simp (lt-leb _ _ c.if-k-ge-MOST.false, ne_eqb _ _ c.if-period-eq0.false, some-deadline c.before.before.before, h) c.route_fault.ensures
