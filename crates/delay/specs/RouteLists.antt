-- Routes, links and tries of the flows in arrays of their own, and S of two flows by these arrays: laws of lists alone, which docs/requests/04.md names. The
-- code lends the flows themselves today.
use Rattle.std.specs.Prelude.{◌≡◌, refl, List, [], ℕ, ◌+◌, ◌*◌, ◌≤◌, ◌<◌, length, get_or, take, set, replicate}
use Rattle.std.proofs.Common.{sym, ap, ap₂, ◌∙◌, lt_of_lt_of_le, arith, length-set, get_or-set_same, get_or-set_other}
use Rattle.std.proofs.Math.Decide.{dec_le}
use Rattle.std.proofs.lemmas.List.{length-replicate}
use Rattle.model.specs.declared.kinds.FlowSet.{FlowSet}
use Rattle.model.specs.Limits.{most_flows, most_nodes, most_links}
use Rattle.model.specs.Sets.{flow_at, used, links}
use Rattle.document.specs.Delay.{conflict_work}
use Rattle.laws.specs.Accepted.{Accepted}
use Rattle.laws.specs.Used.{used_flow}
use Rattle.delay.specs.AcceptedFlows.{count_at_law, good_at}
use Rattle.delay.specs.PairGrids.{FilledTo, RowsBy, conflict_of, filled_start, filled_next, rows_ext}
use Rattle.delay.specs.RoutePlaces.{ends_on, work_ends}

-- the routes of the first k flows
pub record RoutesTo (s : FlowSet) (k : ℕ) (routes : List (List ℕ)) : Type 0 where
  pub whole : length routes ≡ most_flows
  pub route : (i : ℕ) → i < k → get_or routes i [] ≡ (flow_at s i).route
  pub long : (i : ℕ) → i < k → length (flow_at s i).route ≡ most_nodes

-- the routes, links and tries of the first k flows
pub record ListedTo (s : FlowSet) (k : ℕ) (routes : List (List ℕ)) (l t : List ℕ) : Type 0 where
  pub routes_to : RoutesTo s k routes
  pub links_to : FilledTo (λ i. links (flow_at s i)) k l
  pub tries_to : FilledTo (λ i. (flow_at s i).tries) k t

-- n routes, with links and tries of an accepted set
pub record Listed (n : ℕ) (routes : List (List ℕ)) (l t : List ℕ) : Type 0 where
  pub few : n ≤ most_flows
  pub long : (i : ℕ) → i < n → length (get_or routes i []) ≡ most_nodes
  pub links_le : (i : ℕ) → i < n → get_or l i 0 ≤ most_links
  pub tries_le : (i : ℕ) → i < n → get_or t i 0 ≤ 4

-- S of two flows
abbrev pub listed_work : List (List ℕ) → List ℕ → List ℕ → ℕ → ℕ → ℕ
listed_work routes l t k i = get_or t i 0 * ends_on (get_or routes i []) (take (get_or l k 0 + 1) (get_or routes k [])) (get_or l i 0)

-- fewer of them
pub listed_fewer : (m n : ℕ) (routes : List (List ℕ)) (l t : List ℕ) → m ≤ n → Listed n routes l t → Listed m routes l t
listed_fewer m n routes l t h o =
    record {
      few = omega (arith, o.few);
      long = λ i j. o.long i (omega arith);
      links_le = λ i j. o.links_le i (omega arith);
      tries_le = λ i j. o.tries_le i (omega arith);
    }

pub listed_start : (s : FlowSet) → ListedTo s 0 (replicate most_flows (replicate most_nodes 0)) (replicate most_flows 0) (replicate most_flows 0)
listed_start s =
    record {
      routes_to = record {
        whole = length-replicate {A = List ℕ} most_flows (replicate most_nodes 0);
        route = λ i h. absurd (omega arith);
        long = λ i h. absurd (omega arith);
      };
      links_to = filled_start _;
      tries_to = filled_start _;
    }

routes_next : (s : FlowSet) (k : ℕ) (routes : List (List ℕ)) (r : List ℕ) → k < most_flows → RoutesTo s k routes → r ≡ (flow_at s k).route → length r ≡ most_nodes
    → RoutesTo s (k + 1) (set routes k r)
routes_next s k routes r h o e m =
    let w = o.whole in
    record {
      whole = length-set routes k r ∙ w;
      route = λ i l. elim (dec_le k i) [
        | yes q ↦ let z : i ≡ k = omega arith in rw z (get_or-set_same routes k r [] (omega arith) ∙ e)
        | no q ↦ get_or-set_other routes k i r [] (λ z. omega arith) ∙ o.route i (omega arith)
      ];
      long = λ i l. elim (dec_le k i) [
        | yes q ↦ let z : i ≡ k = omega arith in rw (z, ← e) m
        | no q ↦ o.long i (omega arith)
      ];
    }

pub listed_next : (s : FlowSet) (k : ℕ) (routes : List (List ℕ)) (l t r : List ℕ) (x y : ℕ) → k < most_flows → ListedTo s k routes l t
    → (r ≡ (flow_at s k).route) × (length r ≡ most_nodes) → x ≡ links (flow_at s k) → y ≡ (flow_at s k).tries
    → ListedTo s (k + 1) (set routes k r) (set l k x) (set t k y)
listed_next s k routes l t r x y h o e f g =
    record {
      routes_to = routes_next s k routes r h o.routes_to e.0 e.1;
      links_to = filled_next _ k l x h o.links_to f;
      tries_to = filled_next _ k t y h o.tries_to g;
    }

module _ (s : FlowSet) (a : Accepted (used s)) (routes : List (List ℕ)) (l t : List ℕ) (o : ListedTo s s.count routes l t) where
  -- the arrays of an accepted set
  pub listed_small : s.count ≤ most_flows → Listed s.count routes l t
  listed_small f =
      record {
        few = f;
        long = λ i h. ap length (o.routes_to.route i h) ∙ o.routes_to.long i h;
        links_le = λ i h. let n = (good_at s a i h).nodes_le in omega (arith, o.links_to.entry i h);
        tries_le = λ i h. rw (o.tries_to.entry i h) (good_at s a i h).tries_le;
      }

  -- S by the arrays is the definition's
  pub listed_work_law : (k i : ℕ) → k < s.count → i < s.count → listed_work routes l t k i ≡ conflict_of (used s) k i
  listed_work_law k i h j =
      let me = flow_at s k in
      let it = flow_at s i in
      let m = (good_at s a k h).nodes_ge in
      let n = (good_at s a i j).nodes_le in
      let w = o.routes_to.long i j in
      let b : it.nodes ≤ length it.route = omega arith in
      let c : links me + 1 ≡ me.nodes = omega arith in
      rw (o.routes_to.route i j, o.routes_to.route k h, o.links_to.entry k h, o.links_to.entry i j, o.tries_to.entry i j, c)
      (work_ends me it b _ refl ∙ sym (ap₂ conflict_work (used_flow s k h) (used_flow s i j)))

  -- before a row is made, whatever the columns
  pub listed_blank : (c : ℕ → ℕ) (x : List ℕ) → RowsBy (conflict_of (used s)) c 0 x → Listed s.count routes l t × RowsBy (listed_work routes l t) c 0 x
  listed_blank c x r = (listed_small (count_at_law s a), rows_ext _ _ c 0 x (λ i j h. absurd (omega arith)) r)

  -- and so are the rows of S, whatever their columns
  pub listed_rows : (c : ℕ → ℕ) (x : List ℕ) → ((i : ℕ) → i < s.count → c i ≤ s.count) → RowsBy (listed_work routes l t) c s.count x
      → RowsBy (conflict_of (used s)) c s.count x
  listed_rows c x e = rows_ext _ _ c _ x (λ k i h j. listed_work_law k i h (lt_of_lt_of_le j (e k h)))
