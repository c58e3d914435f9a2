-- Document 01, "The flow set": records, the blank ones, and when two records are the same set.
use mathlib.Core.{Path.{◌≡◌}, Bool.{Bool, false, ◌||◌, cond}, List.{List, [], ◌∷◌, ◌++◌, map}}
use Rattle.std.specs.Prelude.{ℕ, zero, suc, ◌-◌, ◌*◌}
use lib.{Dec.{eqb}, ListN.{get_or, take, replicate}}
use Rattle.model.specs.declared.kinds.{Flow.{Flow}, FlowSet.{FlowSet}, State.{State}}
use Rattle.model.specs.Limits.{most_flows, most_nodes}

-- a flow of zeros with this route
abbrev pub zero_flow : List ℕ → Flow
zero_flow r = record { period = record { 0 = 0 }; deadline = record { 0 = 0 }; start = 0; tries = 0; nodes = 0; route = r }

-- what stands where there is no flow
abbrev pub no_flow : Flow
no_flow = zero_flow []

abbrev pub blank_flow : Flow
blank_flow = zero_flow (replicate most_nodes 0)

-- the blank set: map 0, no flows, all numbers 0
abbrev pub blank_set : FlowSet
blank_set = record { map = record { 0 = 0 }; count = 0; flows = replicate most_flows blank_flow }

-- the fresh state: slot 0, no transmission had
abbrev pub fresh_state : State
fresh_state = record { slot = record { 0 = 0 }; sent = replicate most_flows 0 }

-- a flow's links: one less than the nodes of its route
abbrev pub links : Flow → ℕ
links f = f.nodes - 1

-- C = links × κ
abbrev pub work : Flow → ℕ
work f = links f * f.tries

-- flow number k
abbrev pub flow_at : FlowSet → ℕ → Flow
flow_at s k = get_or s.flows k no_flow

-- a flow without the entries beyond its route's end
abbrev pub exact : Flow → Flow
exact f = record { period = f.period; deadline = f.deadline; start = f.start; tries = f.tries; nodes = f.nodes; route = take f.nodes f.route }

-- a set without the entries beyond the last flow and beyond a route's end: they don't count, so all that follows is said of this
unfoldable pub used : FlowSet → FlowSet
used s = record { map = s.map; count = s.count; flows = map exact (take s.count s.flows) }

-- two records are the same set when all else is equal
abbrev pub SameSet : FlowSet → FlowSet → Type 0
SameSet s t = used s ≡ used t

-- some node of a list passes
unfoldable pub any_of : (ℕ → Bool) → List ℕ → Bool
any_of p [] = false
any_of p (x ∷ l) = p x || any_of p l

-- a node is one of a list
abbrev pub memb : ℕ → List ℕ → Bool
memb x l = any_of (eqb x) l

-- two lists of nodes have a common one
unfoldable pub meet : List ℕ → List ℕ → Bool
meet a b = any_of (λ x. memb x b) a

-- f 0, f 1, .. f (n − 1)
unfoldable pub list_to : (ℕ → ℕ) → ℕ → List ℕ
list_to f zero = []
list_to f (suc n) = list_to f n ++ (f n ∷ [])

-- the numbers below n that pass, rising
unfoldable pub filter_to : (ℕ → Bool) → ℕ → List ℕ
filter_to p zero = []
filter_to p (suc n) = filter_to p n ++ cond (p n) (n ∷ []) []
