-- What a set has in which the record check finds no fault: each rule refuses by a test, so each test failed.
use Rattle.std.specs.Prelude.{◌≡◌, refl, ◌≢◌, Bool, true, false, ◌||◌, cond, ℕ, zero, suc, ◌+◌, ◌-◌, ◌*◌, ◌/◌, ◌≤◌, ◌<◌, leb, ltb, eqb, length, get_or}
use Rattle.std.proofs.Common.{sym, ◌∙◌, zero-le, mul-le-mul, arith, ltb-false, leb-false, get_or-take, length-take-le}
use Rattle.std.proofs.lemmas.Bool.{false≢true, eqb-false}
use Rattle.std.proofs.Math.Decide.{dec_le}
use Rattle.std.proofs.Math.Arith.{bin_ind}
use Rattle.std.specs.Int.Count.{ones, ones_step}
use Rattle.model.specs.declared.kinds.Flow.{Flow}
use Rattle.model.specs.declared.kinds.FlowSet.{FlowSet}
use Rattle.model.specs.declared.answers.Fault.{Fault}
use Rattle.model.specs.declared.answers.Refusal.{Refusal}
use Rattle.model.specs.declared.answers.Refusal.TheVariants.{Nothing, TooManyFlows, BadPeriod, BadDeadline, BadTries, BadRoute, EqualNeighbours, TooMuchWork}
use Rattle.model.specs.Limits.{most_flows, most_nodes, most_links}
use Rattle.model.specs.Refusals.{good, fault_at, no_fault, or_else}
use Rattle.model.specs.Sets.{flow_at, exact, used, links, work}
use Rattle.document.specs.Reader.{repeat_at, flow_fault, flows_fault, record_fault, record_flow_fault, map_fault}
use Rattle.laws.specs.SumLaws.{neither}
use Rattle.laws.specs.Used.{used_count, used_flow}
use Rattle.laws.specs.Neighbours.{repeat_le, repeat_none}

-- rules 4 to 9 of one flow
pub record GoodFlow (f : Flow) : Type 0 where
  pub period_pos : 0 < f.period.0
  pub deadline_pos : 0 < f.deadline.0
  pub deadline_le : f.deadline.0 ≤ f.period.0
  pub tries_pos : 0 < f.tries
  pub tries_le : f.tries ≤ 4
  pub nodes_ge : 2 ≤ f.nodes
  pub nodes_le : f.nodes ≤ most_nodes
  pub apart : (i : ℕ) → i + 1 < length f.route → get_or f.route i 0 ≢ get_or f.route (i + 1) 0
  pub work_le : work f ≤ f.deadline.0

-- at most 16 links of at most 4 tries
pub work_small : (f : Flow) → GoodFlow f → work f ≤ 64
work_small f g =
    let n = g.nodes_le in
    let l : links f ≤ most_links = omega arith in
    mul-le-mul l g.tries_le

-- rules 2 to 9 of a set
pub record Accepted (s : FlowSet) : Type 0 where
  pub some_channel : 0 < s.map.0
  pub count_le : s.count ≤ most_flows
  pub flow : (k : ℕ) → k < s.count → GoodFlow (flow_at s k)

-- neither of two faults
pub or_else_good : (f g : Fault) → good (or_else f g).refusal ≡ true → (good f.refusal ≡ true) × (good g.refusal ≡ true)
or_else_good f g h = go (good f.refusal) refl h
  where
    go : (b : Bool) → good f.refusal ≡ b → good (cond b g f).refusal ≡ true → (good f.refusal ≡ true) × (good g.refusal ≡ true)
    go true e k = (e, k)
    go false e k = absurd (false≢true (sym e ∙ k))

-- a rule that refuses did not apply, nor did a later one
pass : (b : Bool) (x y : Refusal) → good x ≡ false → good (cond b x y) ≡ true → (b ≡ false) × (good y ≡ true)
pass true x y n h = absurd (false≢true (sym n ∙ h))
pass false x y n h = (refl, h)

pos_of : (n : ℕ) → eqb n 0 ≡ false → 0 < n
pos_of zero h = absurd (eqb-false 0 0 h refl)
pos_of (suc n) h = omega arith

pub good_flow : (k : ℕ) (f : Flow) → good (record_flow_fault k f) ≡ true → (k < most_flows) × GoodFlow f
unfolding flow_fault
good_flow k f h =
    let a = pass (leb most_flows k) TooManyFlows _ refl h in
    let b = pass (eqb f.period.0 0) BadPeriod _ refl a.1 in
    let c = pass (eqb f.deadline.0 0 || ltb f.period.0 f.deadline.0) BadDeadline _ refl b.1 in
    let d = pass (eqb f.tries 0 || ltb 4 f.tries) BadTries _ refl c.1 in
    let e = pass (ltb f.nodes 2 || ltb most_nodes f.nodes) BadRoute _ refl d.1 in
    let g = pass (ltb (repeat_at f.route) (length f.route)) EqualNeighbours _ refl e.1 in
    let w = pass (ltb f.deadline.0 ((f.nodes - 1) * f.tries)) TooMuchWork Nothing refl g.1 in
    let c' = neither _ _ c.0 in
    let d' = neither _ _ d.0 in
    let e' = neither _ _ e.0 in
    let g' : repeat_at f.route ≡ length f.route = omega (arith, repeat_le f.route, ltb-false (repeat_at f.route) (length f.route) g.0) in (
      leb-false most_flows k a.0,
      record {
        period_pos = pos_of _ b.0;
        deadline_pos = pos_of _ c'.0;
        deadline_le = ltb-false _ _ c'.1;
        tries_pos = pos_of _ d'.0;
        tries_le = ltb-false _ _ d'.1;
        nodes_ge = ltb-false _ _ e'.0;
        nodes_le = ltb-false _ _ e'.1;
        apart = repeat_none f.route g';
        work_le = ltb-false _ _ w.0;
      },
    )

-- every flow from k on passes
pub good_flows : (s : FlowSet) (n k : ℕ) → good (flows_fault s k n).refusal ≡ true → (i : ℕ) → k ≤ i → i < k + n → good (record_flow_fault i (flow_at s i)) ≡ true
unfolding flows_fault
good_flows s zero k h i l u = absurd (omega arith)
good_flows s (suc n) k h i l u =
    let w = or_else_good (fault_at (record_flow_fault k (flow_at s k)) (k + 2)) (flows_fault s (k + 1) n) h in
    elim (dec_le i k) [
      | yes d ↦ let e : i ≡ k = omega arith in rw e w.0
      | no d ↦ good_flows s n (k + 1) w.1 i (omega arith) (omega arith)
    ]

pub accepted : (s : FlowSet) → good (record_fault s).refusal ≡ true → Accepted s
unfolding record_fault
accepted s h =
    let w = or_else_good (fault_at (map_fault s.map.0) 1) (flows_fault s 0 s.count) h in
    let flows : (k : ℕ) → k < s.count → (k < most_flows) × GoodFlow (flow_at s k) =
    λ k l. good_flow k (flow_at s k) (good_flows s s.count 0 w.1 k zero-le (omega arith)) in
    record {
      some_channel = map_pos s.map.0 w.0;
      count_le = most s.count (λ k l. (flows k l).0);
      flow = λ k l. (flows k l).1;
    }
  where
    map_pos : (m : ℕ) → good (map_fault m) ≡ true → 0 < m
    map_pos m g = pos_of m (pass (eqb m 0) _ _ refl g).0

    most : (n : ℕ) → ((k : ℕ) → k < n → k < most_flows) → n ≤ most_flows
    most zero f = zero-le
    most (suc n) f = f n (omega arith)

-- In an accepted set each node of a route differs from the next; so do those of a record's array as far as the route goes.
pub neighbours_differ : (s : FlowSet) → good (record_fault s).refusal ≡ true → (k i : ℕ) → k < s.count → i + 1 < length (flow_at s k).route
    → get_or (flow_at s k).route i 0 ≢ get_or (flow_at s k).route (i + 1) 0
neighbours_differ s g k i l = ((accepted s g).flow k l).apart i

pub nodes_differ : (s : FlowSet) → good (record_fault (used s)).refusal ≡ true → (k i : ℕ) → k < s.count → length (flow_at s k).route ≡ most_nodes
    → i + 1 < (flow_at s k).nodes → get_or (flow_at s k).route i 0 ≢ get_or (flow_at s k).route (i + 1) 0
nodes_differ s g k i l w h e =
    let f = flow_at s k in
    let a : GoodFlow (exact f) = rw (used_flow s k l) at ((accepted (used s) g).flow k (rw (used_count s) l)) in
    let n = length-take-le f.nodes f.route (omega (arith, a.nodes_le)) in
    a.apart i (omega arith)
    (get_or-take f.nodes f.route i 0 (omega arith) ∙ e ∙ sym (get_or-take f.nodes f.route (i + 1) 0 h))

-- a number other than 0 has a bit that is one
pub ones_pos : (n : ℕ) → 0 < n → 0 < ones n
ones_pos n = bin_ind (λ (n : ℕ). 0 < n → 0 < ones n) (λ h. absurd (omega arith)) (λ n ih h. go n ih h (dec_le 1 (n / 2))) n
  where
    go : (n : ℕ) → (0 < n / 2 → 0 < ones (n / 2)) → 0 < n → Dec (1 ≤ n / 2) → 0 < ones n
    go n ih h (yes l) = omega (arith, ones_step n, ih l)
    go n ih h (no l) = omega (arith, ones_step n)

-- a set that is accepted has no fault, so neither a line nor a field is named
flows_none : (s : FlowSet) (k n : ℕ) → good (flows_fault s k n).refusal ≡ true → flows_fault s k n ≡ no_fault
unfolding flows_fault
flows_none s k zero h = refl
flows_none s k (suc n) h =
    let w = or_else_good (fault_at (record_flow_fault k (flow_at s k)) (k + 2)) (flows_fault s (k + 1) n) h in
    rw w.0 (flows_none s (k + 1) n w.1)

pub accepted_none : (s : FlowSet) → good (record_fault s).refusal ≡ true → record_fault s ≡ no_fault
unfolding record_fault
accepted_none s h =
    let w = or_else_good (fault_at (map_fault s.map.0) 1) (flows_fault s 0 s.count) h in
    rw w.0 (flows_none s 0 s.count w.1)
