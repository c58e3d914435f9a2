-- One flow in one slot by its absolute deadline: a packet's release is a whole number of periods after the start, and so the slot less
-- the place in the period. Entries beyond the last flow are those of no flow, all 0.
use Rattle.std.specs.Prelude.{◌≡◌, refl, Bool, true, false, ◌&&◌, ◌||◌, cond, List, map, ℕ, ◌+◌, ◌-◌, ◌*◌, ◌/◌, ◌≤◌, ◌<◌, min, leb, ltb, eqb, get_or, take, replicate}
use Rattle.std.proofs.Common.{sym, ap, ◌∙◌, div-add-mod', add-zero, arith, eqb-true, eq-eqb, ne_eqb, le-leb, leb-true, ltb-true, length-take}
use Rattle.std.proofs.Math.Path.{fun_ext}
use Rattle.std.proofs.lemmas.Bool.{false≢true, eqb-false}
use Rattle.std.proofs.Math.Nat.{min-eq_left}
use Rattle.std.proofs.Math.Decide.{dec_le}
use Rattle.std.proofs.lemmas.List.{length-map}
use Rattle.std.proofs.Math.ListN.{get_or-eq_default}
use Rattle.model.specs.declared.kinds.Flow.{Flow}
use Rattle.model.specs.declared.kinds.FlowSet.{FlowSet}
use Rattle.model.specs.declared.kinds.State.{State}
use Rattle.model.specs.declared.kinds.{Order.{Order}, Order.TheVariants.{Deadline, Number}}
use Rattle.model.specs.Limits.{last_slot, most_flows}
use Rattle.model.specs.Releases.{release_first}
use Rattle.model.specs.Refusals.{good}
use Rattle.document.specs.Reader.{record_fault}
use Rattle.model.specs.Sums.{bit}
use Rattle.model.specs.Sets.{no_flow, flow_at, exact, used, work}
use Rattle.document.specs.Delay.{work_at}
use Rattle.document.specs.Machine.{released, release_at, deadline_at, had, ready, next_count, count_at, had_at, ready_at, due_at, order_of}
use Rattle.laws.specs.SumLaws.{and_l, and_r}
use Rattle.laws.specs.Accepted.{GoodFlow, accepted}
use Rattle.laws.specs.Used.{used_flow, used_count}
use Rattle.machine.specs.ArrayLists.{get_or_zeros}
use Rattle.machine.specs.LentArrays.{Packets}

-- the absolute deadline of the latest packet, from the start, the period, the deadline and the slot
abbrev pub due_in : ℕ → ℕ → ℕ → ℕ → ℕ
due_in a p d t = a + (t - a) / p * p + d

-- before the start the first packet's is what is next
pub due_first : (a p d t : ℕ) → t ≤ a → due_in a p d t ≡ a + d
due_first a p d t h = ap (λ (x : ℕ). x + d) (release_first a p t h)

-- a slot of the machine and a count of slots: their sum is far from the last number
pub sum_fits : (t n : ℕ) → t ≤ last_slot → n ≤ 65535 → min (t + n) 4294967295 ≡ t + n
sum_fits t n h k = min-eq_left (omega (arith, h, k))

-- and so is an absolute deadline
pub due_fits : (a p d t : ℕ) → a ≤ 65535 → d ≤ 65535 → t ≤ last_slot → min (due_in a p d t) 4294967295 ≡ due_in a p d t
due_fits a p d t f g h = min-eq_left (omega (arith, div-add-mod' (t - a) p, f, g, h))

-- what comes after a number is no smaller one
pub next_above : (a b : ℕ) → b ≤ a → eqb (a + 1) b ≡ false
next_above a b h = ne_eqb (a + 1) b (λ e. omega (arith, e, h))

-- a release slot is one whose deadline is D away
abbrev pub had_in : ℕ → ℕ → ℕ → ℕ → ℕ
had_in due d t n = cond (eqb (t + d) due) 0 n

eqb_add : (a b d : ℕ) → eqb (a + d) (b + d) ≡ eqb a b
eqb_add a b d = go (eqb a b) refl
  where
    go : (c : Bool) → eqb a b ≡ c → eqb (a + d) (b + d) ≡ c
    go true e = eq-eqb (a + d) (b + d) (ap (λ (x : ℕ). x + d) (eqb-true a b e))
    go false e = ne_eqb (a + d) (b + d) (λ q. eqb-false a b e (omega arith))

pub had_is : (f : Flow) (t n : ℕ) → had_in (deadline_at f t) f.deadline.0 t n ≡ had f t n
had_is f t n = ap (λ (b : Bool). cond b 0 n) (eqb_add t (release_at f t) f.deadline.0)

-- ready: released, before its absolute deadline, and short of C
abbrev pub ready_in : ℕ → ℕ → ℕ → ℕ → ℕ → Bool
ready_in a due n c t = leb a t && ltb t due && ltb n c

pub ready_is : (f : Flow) (t n : ℕ) → ready_in f.start (deadline_at f t) (had f t n) (work f) t ≡ ready f t n
unfolding ready
ready_is f t n = refl

-- a placed packet was released, so the next count is one rule
pub next_is : (f : Flow) (t n : ℕ) (placed : Bool) → (placed ≡ true → ready f t n ≡ true) → next_count f t n placed ≡ had f t n + bit placed
unfolding next_count ready
next_is f t n placed r = go (released f t) refl placed refl
  where
    go : (b : Bool) → released f t ≡ b → (q : Bool) → placed ≡ q → cond b (had f t n + bit q) n ≡ had f t n + bit q
    go true e q i = refl
    go false e true i = absurd (false≢true (sym e ∙ and_l _ _ (and_l _ _ (r i))))
    go false e false i =
        let l : t < f.start = rev e in
        let z : eqb t (release_at f t) ≡ false =
        ne_eqb t (release_at f t) (λ (q : t ≡ release_at f t). let y = release_first f.start f.period.0 t (omega arith) in omega arith) in
        rw (z, add-zero)
      where
        rev : leb f.start t ≡ false → t < f.start
        rev h = elim (dec_le f.start t) [ yes d ↦ absurd (false≢true (sym h ∙ le-leb _ _ d)) | no d ↦ omega arith ]

-- what readiness says
pub ready_if : (f : Flow) (t n : ℕ) → ready f t n ≡ true → (f.start ≤ t) × (t < deadline_at f t) × (had f t n < work f)
unfolding ready
ready_if f t n h =
    let a : Bool = released f t in
    let b : Bool = ltb t (deadline_at f t) in
    let c : Bool = ltb (had f t n) (work f) in
    let i = and_l (a && b) c h in
    (leb-true _ _ (and_l a b i), ltb-true _ _ (and_r a b i), ltb-true _ _ (and_r (a && b) c h))

-- the release is the deadline less D
pub release_of_due : (f : Flow) (t : ℕ) → deadline_at f t - f.deadline.0 ≡ release_at f t
release_of_due f t = omega arith

-- beyond the last flow there is none
pub used_none : (s : FlowSet) (k : ℕ) → s.count ≤ k → flow_at (used s) k ≡ no_flow
unfolding used
used_none s k h =
    get_or-eq_default (map exact (take s.count s.flows)) no_flow
    (rw (length-map, length-take) (omega arith))

-- the arrays hold what rule 2 asks of each flow's packet in a state, and each flow's deadline
pub record PacketsHold (s : FlowSet) (st : State) (p : Packets) (deadline : List ℕ) : Type 0 where
  pub starts : (k : ℕ) → get_or p.start k 0 ≡ (flow_at s k).start
  pub dues : (k : ℕ) → get_or p.due k 0 ≡ due_at s st k
  pub hads : (k : ℕ) → get_or p.sent k 0 ≡ had_at s st k
  pub works : (k : ℕ) → get_or p.work k 0 ≡ work_at s k
  pub deadlines : (k : ℕ) → get_or deadline k 0 ≡ (flow_at s k).deadline.0

-- the order by an array of keys: smaller key, then lower flow number
abbrev pub ahead_by : List ℕ → ℕ → ℕ → Bool
ahead_by key k l = ltb (get_or key k 0) (get_or key l 0) || (eqb (get_or key k 0) (get_or key l 0) && ltb k l)

-- the keys of each order of priority: the absolute deadlines, or the same key for all, where the flow number alone decides
abbrev pub keys_by : Order → List ℕ → List ℕ
keys_by Deadline due = due
keys_by Number due = replicate most_flows 0

-- rule 2 by arrays
abbrev pub ready_by : Packets → ℕ → ℕ → Bool
ready_by p t k = ready_in (get_or p.start k 0) (get_or p.due k 0) (get_or p.sent k 0) (get_or p.work k 0) t

-- each flow's absolute deadline in slot t, and what its packet has had there
abbrev pub due_by : List ℕ → List ℕ → List ℕ → ℕ → ℕ → ℕ
due_by start period deadline t k = due_in (get_or start k 0) (get_or period k 0) (get_or deadline k 0) t

abbrev pub had_by : List ℕ → List ℕ → ℕ → List ℕ → ℕ → ℕ
had_by due deadline t sent k = had_in (get_or due k 0) (get_or deadline k 0) t (get_or sent k 0)

-- a ready packet is short of C
pub ready_work : (p : Packets) (t k : ℕ) → ready_by p t k ≡ true → get_or p.sent k 0 < get_or p.work k 0
ready_work p t k e =
    let short : Bool = ltb (get_or p.sent k 0) (get_or p.work k 0) in
    ltb-true _ _ (and_r (leb (get_or p.start k 0) t && ltb t (get_or p.due k 0)) short e)

-- by its keys an order is the machine's
pub order_by : (by : Order) (s : FlowSet) (st : State) (due : List ℕ) → ((k : ℕ) → get_or due k 0 ≡ due_at s st k)
    → ahead_by (keys_by by due) ≡ order_of by s st
order_by Deadline s st due h = ap keyed (fun_ext h)
  where
    keyed : (ℕ → ℕ) → ℕ → ℕ → Bool
    keyed f k l = ltb (f k) (f l) || (eqb (f k) (f l) && ltb k l)
order_by Number s st due h = fun_ext (λ k. fun_ext (λ l. rw (get_or_zeros most_flows k, get_or_zeros most_flows l)))

pub ready_by_law : (s : FlowSet) (st : State) (p : Packets) (deadline : List ℕ) → PacketsHold s st p deadline → ready_by p st.slot.0 ≡ ready_at s st
ready_by_law s st p deadline h =
    fun_ext (λ k. rw (h.starts k, h.dues k, h.hads k, h.works k) (ready_is (flow_at s k) st.slot.0 (count_at st k)))

-- what the record check's acceptance says of the record itself
pub accepted_count : (s : FlowSet) → good (record_fault (used s)).refusal ≡ true → s.count ≤ most_flows
accepted_count s h = rw (← used_count s) (accepted (used s) h).count_le

pub accepted_flow : (s : FlowSet) → good (record_fault (used s)).refusal ≡ true → (k : ℕ) → k < s.count → GoodFlow (exact (flow_at s k))
accepted_flow s h k l = rw (used_flow s k l) at ((accepted (used s) h).flow k (rw (used_count s) l))
