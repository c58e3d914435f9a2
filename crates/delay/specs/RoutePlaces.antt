-- From which place on a node can stand on a route: a table has the first place for each kind of node, and a search from there finds what a search of the
-- whole route finds. The search of two routes, link by link, is the definitions' search of lists.
use Rattle.std.specs.Prelude.{◌≡◌, refl, Bool, true, false, ◌||◌, List, [], ◌∷◌, ℕ, ◌+◌, ◌%◌, ◌/◌, ◌<◌, zero, suc, ◌*◌, ◌≤◌, length, get_or, take, drop, set}
use Rattle.std.proofs.Common.{sym, ap, ap₂, ◌∙◌, length-set, add-zero, add-one, arith, ne_eqb, drop-cons, get_or-take, length-take-le, get_or-set_same, get_or-set_other}
use Rattle.model.specs.Sums.{bit, sum_to, any_to}
use Rattle.model.specs.Limits.{most_nodes}
use Rattle.model.specs.Sets.{memb, any_of, meet, exact, links, flow_at, used}
use Rattle.std.proofs.Math.Decide.{ℕ_discrete}
use Rattle.model.specs.declared.kinds.Flow.{Flow}
use Rattle.model.specs.declared.kinds.FlowSet.{FlowSet}
use Rattle.document.specs.Delay.{touches, conflict_work}
use Rattle.laws.specs.Accepted.{Accepted}
use Rattle.laws.specs.SumLaws.{sum_ext}
use Rattle.laws.specs.Used.{used_flow}
use Rattle.delay.specs.AcceptedFlows.{good_at}
use Rattle.delay.specs.PairGrids.{conflict_of}

-- the kinds of nodes: numbers below 512 are each of their own kind, and so are numbers alike modulo 256
abbrev pub kind_of : ℕ → ℕ
kind_of x = (x + x / 512) % 512

-- at places from a to n of the route r stands no node for which the table m has a later place
pub record Places (m r : List ℕ) (a n : ℕ) : Type 0 where
  pub whole : length m ≡ 512
  pub early : (j : ℕ) → a ≤ j → j < n → get_or m (kind_of (get_or r j 0)) 0 ≤ j

-- link i of the route r has an end among the nodes b
abbrev pub end_on : List ℕ → List ℕ → ℕ → Bool
end_on r b i = any_to (λ e. memb (get_or r (i + e) 0) b) 2

-- how many of the first n links have
unfoldable pub ends_on : List ℕ → List ℕ → ℕ → ℕ
ends_on r b n = sum_to (λ i. bit (end_on r b i)) n

-- a node that stands at no place before a is found from a on
memb_from : (a x n : ℕ) (r : List ℕ) → ((j : ℕ) → j < n → x ≡ get_or r j 0 → a ≤ j) → memb x (drop a (take n r)) ≡ memb x (take n r)
unfolding any_of
memb_from zero x n r h = refl
memb_from (suc a) x zero r h = refl
memb_from (suc a) x (suc n) [] h = refl
memb_from (suc a) x (suc n) (y ∷ r) h =
    let off : x ≡ y → ⊥ = λ e. let l = h 0 (omega arith) e in omega arith in
    let rest = memb_from a x n r (λ j l e. let m = h (suc j) (omega arith) e in omega arith) in
    rw (ne_eqb x y off) rest

-- the search from the table's place on
pub places_search : (m r : List ℕ) (n x : ℕ) → Places m r 0 n → memb x (drop (get_or m (kind_of x) 0) (take n r)) ≡ memb x (take n r)
places_search m r n x p = memb_from (get_or m (kind_of x) 0) x n r (λ j l e. rw e (p.early j (omega arith) l))

-- a node that is none of the first n is not found among them
memb_none : (x n : ℕ) (r : List ℕ) → ((j : ℕ) → j < n → x ≡ get_or r j 0 → ⊥) → memb x (take n r) ≡ false
unfolding any_of
memb_none x zero r h = refl
memb_none x (suc n) [] h = refl
memb_none x (suc n) (y ∷ r) h = rw (ne_eqb x y (h 0 (omega arith)), memb_none x n r (λ j l. h (suc j) (omega arith)))

-- a node whose place is beyond the route is not on it
pub places_none : (m r : List ℕ) (n x : ℕ) → Places m r 0 n → n ≤ get_or m (kind_of x) 0 → memb x (take n r) ≡ false
places_none m r n x p h = memb_none x n r (λ j l e. let a : get_or m (kind_of x) 0 ≤ j = rw e (p.early j (omega arith) l) in omega arith)

-- a link none of whose ends is on a route
pub ends_off : (r b : List ℕ) (i : ℕ) → memb (get_or r i 0) b ≡ false → memb (get_or r (i + 1) 0) b ≡ false → end_on r b i ≡ false
unfolding any_to
ends_off r b i h k = rw (add-zero, h, k)

or_false : (p : Bool) → (p || false) ≡ p
or_false true = refl
or_false false = refl

-- a link that is within the route meets another route where one of its two ends is on it
pub meet_ends : (r : List ℕ) (n : ℕ) → n ≤ length r → (i : ℕ) → i + 1 < n → (b : List ℕ)
    → meet (take 2 (drop i (take n r))) b ≡ any_to (λ e. memb (get_or r (i + e) 0) b) 2
unfolding meet any_of any_to
meet_ends r n f i h b =
    let l = length-take-le n r f in
    let p = drop-cons (take n r) i 0 (omega arith) in
    let q = drop-cons (take n r) (suc i) 0 (omega arith) in
    let x = get_or-take n r i 0 (omega arith) in
    let y = get_or-take n r (suc i) 0 (omega arith) in
    rw (p, q, x, y, or_false, add-zero, add-one)

-- the table is made from the route's last node to its first
pub places_start : (m r : List ℕ) (n : ℕ) → length m ≡ 512 → Places m r n n
places_start m r n h = record { whole = h; early = λ j a b. absurd (omega arith) }

pub places_next : (m r : List ℕ) (j n : ℕ) → Places m r (j + 1) n → Places (set m (kind_of (get_or r j 0)) j) r j n
places_next m r j n p =
    let w = p.whole in
    let at = kind_of (get_or r j 0) in
    let b : at < length m = omega arith in
    record {
      whole = length-set m at j ∙ w;
      early = λ i a l. elim (ℕ_discrete (kind_of (get_or r i 0)) at) [
        | yes e ↦ rw (e, get_or-set_same m at j 0 b) a
        | no q ↦ rw (get_or-set_other m at (kind_of (get_or r i 0)) j 0 q) (p.early i (later i a q) l)
      ];
    }
  where
    later : (i : ℕ) → j ≤ i → (kind_of (get_or r i 0) ≡ kind_of (get_or r j 0) → ⊥) → j + 1 ≤ i
    later i a q = elim (ℕ_discrete i j) [
      | yes e ↦ absurd (q (ap (λ (x : ℕ). kind_of (get_or r x 0)) e))
      | no d ↦ omega arith
    ]

-- the ends that are on a route are the definition's links that touch it
pub work_ends : (k l : Flow) → l.nodes ≤ length l.route → (x : ℕ) → x ≡ ends_on l.route (take k.nodes k.route) (links l)
    → l.tries * x ≡ conflict_work (exact k) (exact l)
unfolding conflict_work ends_on
work_ends k l h x e =
    ap (λ (y : ℕ). l.tries * y)
    (e ∙ sum_ext (λ i. bit (end_on l.route (exact k).route i)) (λ i. bit (touches (exact k) (exact l) i)) (links l)
    (λ i b. ap bit (sym (meet_ends l.route l.nodes h i (omega arith) (exact k).route))))

-- so they give S of two flows of an accepted set
pub conflict_law : (s : FlowSet) → Accepted (used s) → (k l : ℕ) → k < s.count → l < s.count → length (flow_at s l).route ≡ most_nodes
    → (flow_at s l).tries * ends_on (flow_at s l).route (take (flow_at s k).nodes (flow_at s k).route) (links (flow_at s l)) ≡ conflict_of (used s) k l
conflict_law s a k l h j w =
    let n = (good_at s a l j).nodes_le in
    work_ends (flow_at s k) (flow_at s l) (omega arith) _ refl ∙ sym (ap₂ conflict_work (used_flow s k h) (used_flow s l j))
