-- Which flow is placed in which slot of the run, and how many transmissions its packet had before: with any order of priority the run is a
-- schedule of the kind that the argument speaks of, and with document 01's order it is urgent too.
use Rattle.std.specs.Prelude.{◌≡◌, Bool, true, false, List, [], ◌∷◌, eqb, get_or, take, drop}
use Rattle.std.proofs.Math.Path.{refl}
use Rattle.std.proofs.Common.{sym, ap, ◌∙◌, inl, inr, add-zero, zero-mul, suc-mul, add-one, arith}
use Rattle.std.proofs.lemmas.Bool.{false≢true}
use Prim.Native.Nat.{ℕ, zero, suc, ◌+◌, ◌-◌, ◌*◌, ◌/◌, ◌≤◌, ◌<◌}
use Rattle.std.proofs.Math.Arith.{digits_div}
use borrow.Author.Tests.{le-leb, eq-eqb, ne_eqb}
use Rattle.model.specs.declared.kinds.Flow.{Flow}
use Rattle.model.specs.declared.kinds.FlowSet.{FlowSet}
use Rattle.model.specs.Limits.{last_slot}
use Rattle.model.specs.Refusals.{good}
use Rattle.model.specs.Sums.{bit, sum_to}
use Rattle.model.specs.Sets.{flow_at, memb, meet, links, work}
use Rattle.document.specs.Reader.{record_fault}
use Rattle.document.specs.Delay.{ways, period, deadline, work_at, touches, conflict_work, share, over_others, bound_with, value_at}
use Rattle.document.specs.Machine.{Priority, had, release_at, next_count, count_at, had_at, ready_at, link_at, ahead, clash_at, placed_with, count_with}
use Rattle.laws.specs.SumLaws.{count, sum_ext, sum_const, sum_split}
use Rattle.laws.specs.Accepted.{Accepted, accepted, ones_pos}
use Rattle.laws.specs.Members.{memb_empty, memb_tail, memb_case, memb_head, one_of, some_of}
use Rattle.promise.specs.Load as load
use Rattle.promise.specs.{Schedule.{HasReady, Schedule, others}, Within.{Urgent, equation_value}}
use Rattle.promise.specs.SlotChoice.{Ordering}
use Rattle.promise.specs.DeadlineOrder.{deadline_order, due_le}
use Rattle.promise.specs.RunStates.{state_at, choice, ready_case, ready_when, state_slot, count_next}

-- flow k is placed in slot t of the run
abbrev pub placed_in : Priority → FlowSet → ℕ → ℕ → Bool
placed_in first s k t = memb k (placed_with first s (state_at first s t))

-- how many transmissions its packet had before: the number of the transmission that is placed
abbrev pub number_in : Priority → FlowSet → ℕ → ℕ → ℕ
number_in first s k t = had (flow_at s k) t (count_at (state_at first s t) k)

-- transmission i of flow l touches k's route
abbrev pub touching : FlowSet → ℕ → ℕ → ℕ → Bool
touching s k l i = touches (flow_at s k) (flow_at s l) (i / (flow_at s l).tries)

-- each link has κ tries
sum_tries : (h : ℕ → ℕ) (c n : ℕ) → 0 < c → sum_to (λ i. h (i / c)) (n * c) ≡ c * sum_to h n
unfolding sum_to
sum_tries h c zero p = rw (zero-mul c) (omega arith)
sum_tries h c (suc n) p =
    let a = sum_split (λ i. h (i / c)) (n * c) c in
    let b = sum_ext (λ i. h ((n * c + i) / c)) (λ i. h n) c (λ i l. ap h (digits_div n l)) in
    let e : suc n * c ≡ n * c + c = suc-mul n c in
    rw e (omega (arith, sum_tries h c n p, sum_const (h n) c))

touching_sum : (k l : Flow) → 0 < l.tries → conflict_work k l ≡ sum_to (λ i. bit (touches k l (i / l.tries))) (work l)
unfolding conflict_work
touching_sum k l p = sym (sum_tries (λ i. bit (touches k l i)) l.tries (links l) p)

-- lists that meet have a common number, and lists with a common number meet
pub meet_case : (a b : List ℕ) → meet a b ≡ true → (x : ℕ) × (memb x a ≡ true) × (memb x b ≡ true)
unfolding meet
meet_case a b h = some_of (λ x. memb x b) a h

pub meet_by : (a b : List ℕ) (x : ℕ) → memb x a ≡ true → memb x b ≡ true → meet a b ≡ true
unfolding meet
meet_by a b x p q = one_of (λ y. memb y b) a x p q

-- a part of a list has numbers of the list alone
memb_take : (x n : ℕ) (l : List ℕ) → memb x (take n l) ≡ true → memb x l ≡ true
memb_take x zero l h = absurd (memb_empty x h)
memb_take x (suc n) [] h = h
memb_take x (suc n) (y ∷ l) h =
    elim (memb_case x y (take n l) h) [ inl e ↦ rw e (memb_head y l) | inr i ↦ memb_tail x y l (memb_take x n l i) ]

memb_drop : (x n : ℕ) (l : List ℕ) → memb x (drop n l) ≡ true → memb x l ≡ true
memb_drop x zero l h = h
memb_drop x (suc n) [] h = h
memb_drop x (suc n) (y ∷ l) h = memb_tail x y l (memb_drop x n l h)

-- a link that meets one of k's links touches k's route
meeting_touches : (a r : List ℕ) (i : ℕ) → meet (take 2 (drop i r)) a ≡ true → meet a r ≡ true
meeting_touches a r i h =
    let w = meet_case (take 2 (drop i r)) a h in
    meet_by a r w.0 w.2 (memb_drop w.0 i r (memb_take w.0 2 (drop i r) w.1))

-- From here on: the machine with any order of priority.
module _ {first : Priority} (o : Ordering first) where
  module _ (s : FlowSet) (g : good (record_fault s).refusal ≡ true) where
    rules : Accepted s
    rules = accepted s g

    pub number_eq : (k t : ℕ) → t ≤ last_slot → had_at s (state_at first s t) k ≡ number_in first s k t
    number_eq k t h = ap (λ (u : ℕ). had (flow_at s k) u (count_at (state_at first s t) k)) (state_slot o s g t h)

    -- a ready packet, as the argument has it
    is_ready_law : (k t : ℕ) → t ≤ last_slot → ready_at s (state_at first s t) k ≡ true
        → HasReady (period s) (deadline s) (λ l. (flow_at s l).start) (work_at s) (number_in first s) k t
    is_ready_law k t h e = rw (state_slot o s g t h) at (ready_case s (state_at first s t) k e)

    ready_is : (k t : ℕ) → t ≤ last_slot → HasReady (period s) (deadline s) (λ l. (flow_at s l).start) (work_at s) (number_in first s) k t
        → ready_at s (state_at first s t) k ≡ true
    ready_is k t h r = ready_when s (state_at first s t) k (rw (state_slot o s g t h) r)

    pub placed_ready : (k t : ℕ) → t ≤ last_slot → placed_in first s k t ≡ true
        → HasReady (period s) (deadline s) (λ l. (flow_at s l).start) (work_at s) (number_in first s) k t
    placed_ready k t h e = is_ready_law k t h ((choice o s (state_at first s t)).only k e).1

    -- the next count, as a sum
    pub after_eq : (k t : ℕ) → t ≤ last_slot → (flow_at s k).start ≤ t
        → count_with first s (state_at first s t) k ≡ number_in first s k t + bit (placed_in first s k t)
    unfolding count_with next_count
    after_eq k t h a = rw (state_slot o s g t h, le-leb (flow_at s k).start t a)

    -- the number is 0 in a packet's release slot, and one more in the slot after each transmission
    number_zero : (k j : ℕ) → k < s.count → number_in first s k ((flow_at s k).start + j * period s k) ≡ 0
    number_zero k j l =
        let p = (rules.flow k l).period_pos in
        let e = load.latest_eq (flow_at s k).start (period s k) j ((flow_at s k).start + j * period s k) (omega arith) (omega arith) in
        rw (eq-eqb ((flow_at s k).start + j * period s k) _ (sym e))

    number_next : (k j i : ℕ) → k < s.count → (flow_at s k).start + j * period s k + i < last_slot → i + 1 < period s k
        → number_in first s k ((flow_at s k).start + j * period s k + (i + 1))
        ≡ number_in first s k ((flow_at s k).start + j * period s k + i) + bit (placed_in first s k ((flow_at s k).start + j * period s k + i))
    number_next k j i l h b =
        let t : ℕ = (flow_at s k).start + j * period s k + i in
        let u : t + 1 ≡ (flow_at s k).start + j * period s k + (i + 1) = omega arith in
        let e = load.latest_eq (flow_at s k).start (period s k) j (t + 1) (omega arith) (omega arith) in
        let n : eqb (t + 1) (release_at (flow_at s k) (t + 1)) ≡ false = ne_eqb (t + 1) (release_at (flow_at s k) (t + 1)) (λ q. omega arith) in
        rw (← u, n) (count_next o s g k t l h ∙ after_eq k t (omega arith) (omega arith))

    -- so it counts the transmissions since the release
    pub number_counts : (k j i : ℕ) → k < s.count → (flow_at s k).start + j * period s k + i ≤ last_slot → i < period s k
        → number_in first s k ((flow_at s k).start + j * period s k + i) ≡ count (placed_in first s k) ((flow_at s k).start + j * period s k) i
    unfolding sum_to
    number_counts k j zero l h b = rw (add-zero) (number_zero k j l)
    number_counts k j (suc i) l h b =
        let e = number_counts k j i l (omega arith) (omega arith) in
        let n = number_next k j i l (omega arith) (omega arith) in
        rw (← add-one) (omega arith)

    pub number_count : (k t : ℕ) → k < s.count → t < last_slot → (flow_at s k).start ≤ t
        → number_in first s k t ≡ count (placed_in first s k) (release_at (flow_at s k) t) (t - release_at (flow_at s k) t)
    number_count k t l h a =
        let f = load.latest_le (flow_at s k).start (period s k) t a in
        let b = load.latest_lt (flow_at s k).start (period s k) t (rules.flow k l).period_pos in
        let e : release_at (flow_at s k) t + (t - release_at (flow_at s k) t) ≡ t = omega arith in
        ap (number_in first s k) (sym e)
        ∙ number_counts k ((t - (flow_at s k).start) / period s k) (t - release_at (flow_at s k) t) l (omega arith) (omega arith)

    -- the map has a channel
    pub some_way : 0 < ways s
    some_way = ones_pos s.map.0 rules.some_channel

    -- The run is a schedule of the kind that the argument speaks of.
    pub timetable :
        Schedule s.count (ways s) last_slot (period s) (deadline s) (λ l. (flow_at s l).start) (work_at s)
        (λ k l. conflict_work (flow_at s k) (flow_at s l)) (placed_in first s) (number_in first s) (touching s)
        (λ t k l. first s (state_at first s t) l k) (λ t. clash_at s (state_at first s t))
    timetable =
        record {
          channels = some_way;
          period = λ l i. (rules.flow l i).period_pos;
          deadline = λ l i. (rules.flow l i).deadline_le;
          touching = λ k l i j. touching_sum (flow_at s k) (flow_at s l) (rules.flow l j).tries_pos;
          counted = number_count;
          placed = λ l t i h. placed_ready l t (omega arith);
          other = λ k l t i j h b e. false≢true (sym ((o s (state_at first s t)).irreflexive k i) ∙ rw e at b);
          meeting = λ k l t i j h r e c. meeting k l t h c;
          slot = λ k t i h r. (choice o s (state_at first s t)).slot k i (ready_is k t (omega arith) r);
        }
      where
        meeting : (k l t : ℕ) → t < last_slot → clash_at s (state_at first s t) k l ≡ true → touching s k l (number_in first s l t) ≡ true
        meeting k l t h c =
            let i = had_at s (state_at first s t) k / (flow_at s k).tries in
            rw (← number_eq l t (omega arith)) (meeting_touches (link_at s (state_at first s t) l) (flow_at s k).route i c)

module _ (s : FlowSet) (g : good (record_fault s).refusal ≡ true) where
  -- with document 01's order, a packet that goes before another one is due no later
  pub urgent :
      Urgent s.count last_slot (period s) (deadline s) (λ l. (flow_at s l).start) (work_at s) (placed_in ahead s) (number_in ahead s)
      (λ t k l. ahead s (state_at ahead s t) l k)
  urgent k l t i j h r e b = rw (state_slot deadline_order s g t (omega arith)) at (due_le s (state_at ahead s t) l k b)

  -- and the equation's value is the argument's
  pub value_is : (v : List ℕ) (k : ℕ)
      → equation_value s.count (ways s) (period s) (deadline s) (work_at s) (λ k l. conflict_work (flow_at s k) (flow_at s l)) (λ l. get_or v l 0) k
      ≡ value_at s v k
  unfolding equation_value others load.load_share value_at bound_with over_others share
  value_is v k = refl
