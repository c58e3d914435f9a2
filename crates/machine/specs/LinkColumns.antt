-- The links of a set's flows from arrays, and the classes of nodes by which most links need not be compared with the placed ones.
use Rattle.std.specs.Prelude.{◌≡◌, Bool, true, false, List, [], ◌∷◌, ℕ, ◌+◌, ◌-◌, ◌/◌, ◌%◌, ◌<◌, eqb, length, get_or, set}
use Rattle.std.proofs.Common.{sym, ap, ◌∙◌, div-lt_iff_lt-mul, arith, ne_eqb, get_or-set_same, get_or-set_other}
use Rattle.std.proofs.Math.Decide.{dec_le}
use Rattle.std.proofs.lemmas.Bool.{false≢true}
use Rattle.model.specs.declared.kinds.FlowSet.{FlowSet}
use Rattle.model.specs.Refusals.{good}
use Rattle.document.specs.Reader.{record_fault}
use Rattle.model.specs.Sets.{flow_at, used, any_of, meet, work}
use Rattle.document.specs.Delay.{work_at}
use Rattle.laws.specs.Used.{used_flow}
use Rattle.machine.specs.LentArrays.{Links}
use Rattle.machine.specs.PacketNumbers.{used_none, accepted_flow}
use Rattle.machine.specs.PlacedChoice.{link_by, clash_ends, link_ends}
use Rattle.machine.specs.States.{any_all}
use Rattle.model.specs.Limits.{most_flows, most_links, most_nodes}

-- the first n flows' tries and routes, each in an array of its own
pub record RoutesTo (s : FlowSet) (n : ℕ) (tries : List ℕ) (routes : List (List ℕ)) : Type 0 where
  pub tries_are : (k : ℕ) → k < n → get_or tries k 0 ≡ (flow_at s k).tries
  pub routes_are : (k : ℕ) → k < n → get_or routes k [] ≡ (flow_at s k).route
  pub long : (k : ℕ) → k < n → length (flow_at s k).route ≡ most_nodes

abbrev pub Routes : FlowSet → Links → Type 0
Routes s links = RoutesTo s s.count links.tries links.routes

pub routes_none : (s : FlowSet) (tries : List ℕ) (routes : List (List ℕ)) → RoutesTo s 0 tries routes
routes_none s tries routes =
    record { tries_are = λ k h. absurd (omega arith); routes_are = λ k h. absurd (omega arith); long = λ k h. absurd (omega arith) }

pub routes_next : (s : FlowSet) (n : ℕ) (tries : List ℕ) (routes : List (List ℕ)) → n < length tries → n < length routes
    → length (flow_at s n).route ≡ most_nodes → RoutesTo s n tries routes
    → RoutesTo s (n + 1) (set tries n (flow_at s n).tries) (set routes n (flow_at s n).route)
routes_next s n tries routes h i l r =
    record {
      tries_are = λ k b. elim (dec_le n k) [
        | yes d ↦ let q : k ≡ n = omega arith in rw q (get_or-set_same tries n (flow_at s n).tries 0 h)
        | no d ↦ get_or-set_other tries n k (flow_at s n).tries 0 (λ q. omega arith) ∙ r.tries_are k (omega arith)
      ];
      routes_are = λ k b. elim (dec_le n k) [
        | yes d ↦ let q : k ≡ n = omega arith in rw q (get_or-set_same routes n (flow_at s n).route [] i)
        | no d ↦ get_or-set_other routes n k (flow_at s n).route [] (λ q. omega arith) ∙ r.routes_are k (omega arith)
      ];
      long = λ k b. elim (dec_le n k) [
        | yes d ↦ let q : k ≡ n = omega arith in rw q l
        | no d ↦ r.long k (omega arith)
      ];
    }

-- rule 3: the first end of flow k's next link where its packet has had n, and the one e places on
abbrev pub from_at : Links → ℕ → ℕ → ℕ
from_at links k n = get_or (get_or links.routes k []) (n / get_or links.tries k 0) 0

abbrev pub end_at : Links → ℕ → ℕ → ℕ → ℕ
end_at links k n e = get_or (get_or links.routes k []) (n / get_or links.tries k 0 + e) 0

-- the same by the counts of an array
abbrev pub from_in : List ℕ → Links → ℕ → ℕ
from_in sent links k = from_at links k (get_or sent k 0)

abbrev pub end_in : List ℕ → Links → ℕ → ℕ → ℕ
end_in sent links k e = end_at links k (get_or sent k 0) e

abbrev pub link_in : List ℕ → Links → ℕ → List ℕ
link_in sent links k = from_in sent links k ∷ end_in sent links k 1 ∷ []

-- transmission n of flow k goes over one of the links that a route can have
abbrev pub LinkThere : Links → ℕ → ℕ → Type 0
LinkThere links k n = (0 < get_or links.tries k 0) × (n / get_or links.tries k 0 < most_links)

-- and so does the next one of each flow that is short of its C
abbrev pub LinksThere : List ℕ → List ℕ → Links → Type 0
LinksThere sent work links = (k : ℕ) → get_or sent k 0 < get_or work k 0 → LinkThere links k (get_or sent k 0)

-- the first n flows of an array, each with a link for its next transmission
abbrev pub PlacedLinks : List ℕ → Links → List ℕ → ℕ → Type 0
PlacedLinks sent links chosen n = (i : ℕ) → i < n → (get_or chosen i 0 < most_flows) × LinkThere links (get_or chosen i 0) (get_or sent (get_or chosen i 0) 0)

module _ (s : FlowSet) (links : Links) (h : good (record_fault (used s)).refusal ≡ true) (r : Routes s links) (sent : List ℕ) (k : ℕ)
    (w : get_or sent k 0 < work_at (used s) k) where
  -- only the flows of the set have transmissions to make
  pub counted : k < s.count
  counted = elim (dec_le s.count k) [
    | yes d ↦ (let z : work_at (used s) k ≡ 0 = ap work (used_none s k d) in absurd (omega (arith, w, z)))
    | no d ↦ omega arith
  ]

  short : get_or sent k 0 < work (flow_at s k)
  short = rw (used_flow s k counted) at w

  -- whose next link is one of the route's
  pub link_in_route : LinkThere links k (get_or sent k 0)
  link_in_route =
      let g = accepted_flow s h k counted in
      let d : get_or sent k 0 / (flow_at s k).tries < (flow_at s k).nodes - 1 = (div-lt_iff_lt-mul g.tries_pos).1 short in
      rw (r.tries_are k counted) (g.tries_pos, omega (arith, d, g.nodes_le))

  pub link_is : link_in sent links k ≡ link_by (used s) sent k
  link_is =
      let g = accepted_flow s h k counted in
      rw (r.tries_are k counted, r.routes_are k counted, used_flow s k counted)
      (sym (link_ends (flow_at s k) (get_or sent k 0) g.tries_pos (omega (arith, r.long k counted, g.nodes_le)) short))

-- the classes of the placed links' ends are marked
pub record Busy (busy : List Bool) (from to : List ℕ) (p : ℕ) : Type 0 where
  pub froms : (j : ℕ) → j < p → get_or busy (get_or from j 0 % 256) false ≡ true
  pub tos : (j : ℕ) → j < p → get_or busy (get_or to j 0 % 256) false ≡ true
  pub long : length busy ≡ 256

-- so a link whose classes are not marked shares no node with them
pub busy_free : (busy : List Bool) (from to : List ℕ) (p a b : ℕ) → Busy busy from to p → get_or busy (a % 256) false ≡ false → get_or busy (b % 256) false ≡ false
    → clash_ends a b from to p ≡ false
unfolding meet any_of
busy_free busy from to p a b w e f =
    any_all (λ j. meet (a ∷ b ∷ []) (get_or from j 0 ∷ get_or to j 0 ∷ [])) p
    (λ j h. rw (
      apart a (get_or from j 0) e (w.froms j h),
      apart a (get_or to j 0) e (w.tos j h),
      apart b (get_or from j 0) f (w.froms j h),
      apart b (get_or to j 0) f (w.tos j h),
    ))
  where
    apart : (x y : ℕ) → get_or busy (x % 256) false ≡ false → get_or busy (y % 256) false ≡ true → eqb x y ≡ false
    apart x y g i = ne_eqb x y (λ q. false≢true (sym g ∙ ap (λ (z : ℕ). get_or busy (z % 256) false) q ∙ i))
