-- A record as the code holds it: its arrays have their lengths, and its numbers have 16 bits.
use Rattle.std.specs.Prelude.{◌≡◌, ℕ, zero, suc, ◌<◌, ◌≤◌, true, List, [], ◌∷◌, length, slice_index, slice_index_or, refl}
use Rattle.std.proofs.Common.{arith, le-leb, rules}
use Rattle.std.specs.Int.{w16}
use mir.Val.{Val, Fits}
use denote.Array.{each}
use denote.Shadow.{shadow}
use Rattle.model.specs.contracts.kinds.Flow as flow
use Rattle.model.specs.contracts.kinds.FlowSet as set
use Rattle.model.specs.declared.kinds.Flow.{Flow}
use Rattle.model.specs.declared.kinds.FlowSet.{FlowSet}
use Rattle.model.specs.Limits.{most_flows, most_nodes}
use Rattle.model.specs.Sets.{no_flow, flow_at}
use Rattle.document.specs.Reader.{flow_numbers}
use Rattle.text.specs.WrittenLines.{small}

-- numbers that are all of 16 bits
pub small_of : (vs : List ℕ) → ((j : ℕ) → slice_index vs j ≤ 65535) → small vs ≡ true
unfolding small
small_of [] h = refl
small_of (v ∷ vs) h = rw (le-leb v 65535 (h 0)) (small_of vs (λ j. h (suc j)))

pub numbers_small : (f : Flow) → f.period.0 ≤ 65535 → f.deadline.0 ≤ 65535 → f.start ≤ 65535 → f.tries ≤ 65535
    → ((j : ℕ) → slice_index f.route j ≤ 65535) → small (flow_numbers f) ≡ true
unfolding small
numbers_small f t d a k r =
    rw (le-leb f.period.0 65535 t, le-leb f.deadline.0 65535 d, le-leb f.start 65535 a, le-leb f.tries 65535 k) (small_of f.route r)

-- a flow and a record as the code holds them: the arrays have their lengths, and the numbers 16 bits
pub record HeldFlow (f : Flow) : Type 0 where
  pub route_is : length f.route ≡ most_nodes
  pub numbers_fit : small (flow_numbers f) ≡ true

pub record HeldRecord (s : FlowSet) : Type 0 where
  pub flows_are : length s.flows ≡ most_flows
  pub map_fits : s.map.0 ≤ 65535
  pub flow_is : (k : ℕ) → k < most_flows → HeldFlow (flow_at s k)

-- a flow that the code holds, and each node of it
pub node_held : (f : Flow) (u : List Val) → shadow ((flow.the_row).own_val f u) → (j : ℕ) → Fits w16 (slice_index f.route j)
node_held f u g j = search rules

flow_held : (f : Flow) (u : List Val) → shadow ((flow.the_row).own_val f u) → HeldFlow f
flow_held f u g =
    record {
      route_is = search rules;
      numbers_fit = numbers_small f (omega arith) (omega arith) (omega arith) (omega arith) (λ j. omega (arith, (node_held f u g j).fits));
    }

-- each flow of an array
flows_held : (fs : List Flow) (us : List Val)
    → shadow (each (flow.the_row).Denot (flow.the_row).own_val fs us)
    → (k : ℕ) → k < length fs → HeldFlow (slice_index_or fs k no_flow)
flows_held [] us g k h = absurd (omega arith)
flows_held (f ∷ fs) [] g k h = absurd g
flows_held (f ∷ fs) (u ∷ us) g zero h = flow_held f (u ∷ []) g.0
flows_held (f ∷ fs) (u ∷ us) g (suc k) h = flows_held fs us g.1 k (omega arith)

pub set_held : (s : FlowSet) (u : List Val) → shadow ((set.the_row).own_val s u) → HeldRecord s
set_held s u g =
    let n : length s.flows ≡ most_flows = search rules in
    record { flows_are = n; map_fits = omega arith; flow_is = λ k h. flows_held s.flows _ g.1.1.1.1.0.1.1 k (omega (arith, n)) }
