-- What the promise excludes: each of these machines breaks it on a named set that a test admits. The checker computes the slots in question.
use Rattle.std.specs.Prelude.{◌≡◌, refl, Bool, true, false, get_or}
use Rattle.std.proofs.Common.{sym, ◌∙◌, arith, lt-ltb, le-ltb}
use Rattle.std.proofs.lemmas.Bool.{false≢true}
use Prim.Native.Nat.{ℕ, zero, suc, ◌+◌, ◌*◌, ◌/◌, ◌%◌, ◌≤◌, ◌<◌}
use Prim.Native.String as string
use Rattle.std.proofs.Math.Decide.{dec_le}
use Rattle.std.specs.Int.Count.{ones, ones_in}
use Rattle.model.specs.declared.kinds.FlowSet.{FlowSet}
use Rattle.model.specs.declared.kinds.State.{State}
use Rattle.model.specs.Limits.{last_slot}
use Rattle.model.specs.Refusals.{good}
use Rattle.model.specs.Sums.{sum_to, any_to, all_to}
use Rattle.model.specs.Sets.{fresh_state, flow_at, memb, used, any_of, meet, list_to, filter_to}
use Rattle.document.specs.Text.{same, lines, ended, fields, all_digits, value_from, is_number, all_numbers, values_of, well_formed, numbers_of}
use Rattle.document.specs.Reader.{repeat_at, flow_fault, flows_fault, record_fault, flow_of, with_flow, first_line_fault, flow_line_fault, read_flows, set_of, read_lines, read_text}
use Rattle.document.specs.Delay.{ways, period, work_at, conflict_work, share, over_others, bound_with, basic_bound, value_at, deadlines, lowered, round_to, rounds_in, reached, tight_bound, admits, verdict_of, bounds_fault, bounds_of}
use Rattle.document.specs.Machine.{release, channels, ready, next_count, insert, ordered, place, channels_to, radio_channel, send_of, sends_from, deliveries_of, bad_state, step_fault, step_of, count_with, delivered_with, dropped_with, next_with, placed_with, step_with}
use Rattle.document.specs.Table.{bytes}
use Rattle.promise.specs.Promise.{SlotMachine, report, send, Is, Made, Kept, Test, PromiseOf, basic, tightened, Promise}
use Rattle.promise.specs.DeadlineOrder.{deadline_order}
use Rattle.promise.specs.RunStates.{report_slot}
use Rattle.promise.specs.TextHeld.{text_passes}
use Rattle.promise.proofs.Demand.{text_promise}
use Rattle.promise.specs.Named.{set_from, Verdicts, p5, p7, p8, l2, tight}
use Rattle.promise.proofs.Named.{premises}
use Rattle.promise.specs.Machines.{idle, tiring, choosing, reckless, crowded, backward, altering, crossed, strayed, looped, fanned, gathered, answered, turned, misled, mistried, hurried, misdated}
use Rattle.promise.specs.Refuted.{different_links, different_bound, one_less}

-- what is computed of P5, of P8, of L2 and of slots of these machines
record OfP5 (s : FlowSet) : Type 0 where
  flows : s.count ≡ 2
  one_way : ways s ≡ 1
  works : (work_at s 0 ≡ 1) × (work_at s 1 ≡ 1)
  bounds : ((bounds_of s 0).basic ≡ 2) × ((bounds_of s 1).basic ≡ 2)
  tight : (bounds_of s 1).tightened ≡ 2
  releases : ((flow_at s 0).start ≡ 0) × (period s 0 ≡ 10) × (release (flow_at s 1) 0 ≡ 0)
  own : ((report step_of s 0).sends ≡ 1) × ((send (report step_of s 0) 0).flow ≡ 0)
  crowd : (report crowded s 0).sends ≡ 2
  stray : ((report strayed s 0).sends ≡ 1) × (memb (send (report strayed s 0) 0).channel (channels s.map.0) ≡ false)
  loop : ((report looped s 0).sends ≡ 1) × ((send (report looped s 0) 0).from ≡ (send (report looped s 0) 0).to)

record OfP8 (s : FlowSet) : Type 0 where
  flows : s.count ≡ 1
  four : (work_at s 0 ≡ 4) × ((bounds_of s 0).basic ≡ 4) × (release (flow_at s 0) 0 ≡ 0)
  starts : (get_or (flow_at s 0).route (0 / (flow_at s 0).tries) 0 ≡ 1) × (0 % (flow_at s 0).tries ≡ 0)
  leads : get_or (flow_at s 0).route (0 / (flow_at s 0).tries + 1) 0 ≡ 2
  turn : ((report turned s 0).sends ≡ 1) × ((send (report turned s 0) 0).from ≡ 2)
  again : ((report mistried s 0).sends ≡ 1) × ((send (report mistried s 0) 0).attempt ≡ 1)
  hurry : ((report hurried s 0).sends ≡ 1) × ((send (report hurried s 0) 0).from ≡ 2)
  lead : ((report misled s 0).sends ≡ 1) × ((send (report misled s 0) 0).to ≡ 3)
  date : ((report misdated s 0).sends ≡ 1) × ((send (report misdated s 0) 0).slot.0 ≡ 1)

pub record OfL2 (s : FlowSet) : Type 0 where
  flows : s.count ≡ 2
  one : (work_at s 1 ≡ 1) × (release (flow_at s 1) 0 ≡ 0)
  slot_0 : ((report step_of s 0).sends ≡ 1) × ((send (report step_of s 0) 0).flow ≡ 0)
  slot_1 : ((report step_of s 1).sends ≡ 1) × ((send (report step_of s 1) 0).flow ≡ 0)
  slot_2 : ((report step_of s 2).sends ≡ 1) × ((send (report step_of s 2) 0).flow ≡ 0)
  pub three : different_bound s 1 ≡ 3

pub record Computed : Type 0 where
  of_p5 : OfP5 (set_from p5)
  of_p8 : OfP8 (set_from p8)
  pub of_l2 : OfL2 (set_from l2)
  met : ((report reckless (set_from p7) 0).sends ≡ 2) × ((send (report reckless (set_from p7) 0) 0).to ≡ (send (report reckless (set_from p7) 0) 1).from)
  fan : ((report fanned (set_from p7) 0).sends ≡ 2) × ((send (report fanned (set_from p7) 0) 0).from ≡ (send (report fanned (set_from p7) 0) 1).from)
  answer : ((report answered (set_from p7) 0).sends ≡ 2) × ((send (report answered (set_from p7) 0) 0).from ≡ (send (report answered (set_from p7) 0) 1).to)
  gather : ((report gathered (set_from p7) 0).sends ≡ 2) × ((send (report gathered (set_from p7) 0) 0).to ≡ (send (report gathered (set_from p7) 0) 1).to)
  cross : ((report crossed (set_from p7) 0).sends ≡ 2) × ((send (report crossed (set_from p7) 0) 0).channel ≡ (send (report crossed (set_from p7) 0) 1).channel)
  lost : (report backward (set_from tight) 1).drops ≡ 1

pub computed : Computed
unfolding different_links different_bound report choosing altering bytes same lines ended fields all_digits value_from is_number all_numbers values_of well_formed numbers_of repeat_at flow_fault flows_fault record_fault flow_of with_flow first_line_fault flow_line_fault read_flows set_of read_lines read_text conflict_work share over_others bound_with basic_bound value_at deadlines lowered round_to rounds_in reached tight_bound admits verdict_of bounds_fault bounds_of ready next_count insert ordered place placed_with channels_to radio_channel send_of sends_from count_with delivered_with deliveries_of dropped_with next_with bad_state step_fault step_with sum_to any_to all_to used any_of meet list_to filter_to ones ones_in
computed =
    record {
      of_p5 =
          record {
            flows = refl;
            one_way = refl;
            works = (refl, refl);
            bounds = (refl, refl);
            tight = refl;
            releases = (refl, refl, refl);
            own = (refl, refl);
            crowd = refl;
            stray = (refl, refl);
            loop = (refl, refl);
          };
      of_p8 =
          record {
            flows = refl;
            four = (refl, refl, refl);
            starts = (refl, refl);
            leads = refl;
            turn = (refl, refl);
            again = (refl, refl);
            hurry = (refl, refl);
            lead = (refl, refl);
            date = (refl, refl);
          };
      of_l2 =
          record {
            flows = refl;
            one = (refl, refl);
            slot_0 = (refl, refl);
            slot_1 = (refl, refl);
            slot_2 = (refl, refl);
            three = refl;
          };
      met = (refl, refl);
      fan = (refl, refl);
      answer = (refl, refl);
      gather = (refl, refl);
      cross = (refl, refl);
      lost = refl;
    }

-- a packet with a transmission is not made where no report of its slots has one of its flow
pub unmade : (M : SlotMachine) (s : FlowSet) (k j b : ℕ) → work_at s k ≡ 1
    → ((t p : ℕ) → release (flow_at s k) j ≤ t → t < release (flow_at s k) j + b → p < (report M s t).sends → (send (report M s t) p).flow ≡ k → ⊥)
    → Made M s k j b → ⊥
unmade M s k j b e f m =
    let z : 0 < work_at s k = omega arith in
    let w = m.within 0 z in
    let x = m.sent 0 z in
    f (m.at 0) x.0 w.0 w.1 x.1 x.2.which.1

-- where slot t sends flow 0 alone, it does not send flow 1
pub sole : (M : SlotMachine) (s : FlowSet) (t p : ℕ) → ((report M s t).sends ≡ 1) × ((send (report M s t) 0).flow ≡ 0)
    → p < (report M s t).sends → (send (report M s t) p).flow ≡ 1 → ⊥
sole M s t p w i e =
    let q : p ≡ 0 = omega arith in
    let y = rw q at e in
    omega arith

-- what the promise of a test would give of P5, which both tests admit, in n slots
p5_kept : (test : Test) (M : SlotMachine) → PromiseOf test M → test.admits (set_from p5) ≡ true → (n : ℕ) → n ≤ last_slot
    → Kept M (set_from p5) (test.bound (set_from p5)) n
p5_kept test M f = text_promise test M f (bytes p5) premises.of_p5.read

-- what the promise would give of a set that the basic test admits
basic_kept : (x : string.String) {b : Bool} → Verdicts x true b → (M : SlotMachine) → Promise M → (n : ℕ) → n ≤ last_slot
    → Kept M (set_from x) (basic.bound (set_from x)) n
basic_kept x j M f = text_promise basic M f.0 (bytes x) j.read j.by_basic

-- A machine that sends nothing of P5 from some slot on, whatever it did before: the next packet of flow 0 is not sent.
pub silent_refuted : (M : SlotMachine) (n : ℕ) → n + 12 ≤ last_slot → ((t : ℕ) → n ≤ t → (report M (set_from p5) t).sends ≡ 0)
    → Promise M → ⊥
silent_refuted M n h z f =
    let c = computed.of_p5 in
    let a = c.releases in
    let b = c.bounds in
    let j : ℕ = n / 10 + 1 in
    let r : release (flow_at (set_from p5) 0) j ≡ j * 10 = rw (a.0, a.1) (omega arith) in
    unmade M (set_from p5) 0 j (basic.bound (set_from p5) 0) c.works.0 (λ t p g l i e. omega (arith, z t (omega arith)))
    ((basic_kept p5 premises.of_p5 M f (n + 12) h).made 0 j (omega (arith, c.flows)) (omega arith))

-- The idle machine.
idle_sends : (s : FlowSet) (t : ℕ) → (report idle s t).sends ≡ 0
unfolding report idle
idle_sends s zero = refl
idle_sends s (suc t) = refl

pub idle_refuted : Promise idle → ⊥
idle_refuted = silent_refuted idle 0 (omega arith) (λ t h. idle_sends (set_from p5) t)

-- The machine that schedules the first packets and idles from slot n on, for any n: until then its run is document 01's.
module _ (s : FlowSet) (g : good (record_fault s).refusal ≡ true) (n : ℕ) (last : n ≤ last_slot) where
  awake : (st : State) → st.slot.0 < n → tiring n s st ≡ step_of s st
  unfolding tiring
  awake st h = rw (lt-ltb st.slot.0 n h)

  -- a state at n or later gives an idle step
  tired : (st : State) → n ≤ st.slot.0 → ((tiring n s st).sends ≡ 0) × ((tiring n s st).next.slot.0 ≡ st.slot.0 + 1)
  unfolding tiring idle
  tired st h = rw (le-ltb st.slot.0 n h) (refl, refl)

  tiring_below : (t : ℕ) → t < n → report (tiring n) s t ≡ report step_of s t
  unfolding report
  tiring_below zero h = awake fresh_state h
  tiring_below (suc t) h =
      rw (tiring_below t (omega arith)) (awake (report step_of s t).next (omega (arith, report_slot deadline_order s g t (omega arith))))

  -- so slot t ends at t + 1, and none from n on sends
  tiring_ends : (t : ℕ) → (n ≤ t → (report (tiring n) s t).sends ≡ 0) × ((report (tiring n) s t).next.slot.0 ≡ t + 1)
  unfolding report
  tiring_ends zero =
      elim (dec_le n 0) [
        | yes h ↦ let w = tired fresh_state h in ((λ l. w.0), omega arith)
        | no h ↦ ((λ l. absurd (omega arith)), rw (tiring_below 0 (omega arith)) (report_slot deadline_order s g 0 (omega arith)))
      ]
  tiring_ends (suc t) =
      elim (dec_le n (suc t)) [
        | yes h ↦ let e = (tiring_ends t).1 in let w = tired (report (tiring n) s t).next (omega arith) in ((λ l. w.0), omega arith)
        | no h ↦ ((λ l. absurd (omega arith)), rw (tiring_below (suc t) (omega arith)) (report_slot deadline_order s g (suc t) (omega arith)))
      ]

pub tiring_refuted : (n : ℕ) → n + 12 ≤ last_slot → Promise (tiring n) → ⊥
tiring_refuted n h =
    silent_refuted (tiring n) n h (λ t. (tiring_ends (set_from p5) (text_passes (bytes p5) premises.of_p5.read) n (omega arith) t).0)

-- Document 01's own machine with bounds one less, of either test: flow 1 of P5 takes two slots, and no fewer.
pub bounds_exact : (PromiseOf (one_less basic) step_of → ⊥) × (PromiseOf (one_less tightened) step_of → ⊥)
bounds_exact = (
  λ f. exact basic computed.of_p5.bounds.1 (p5_kept (one_less basic) step_of f premises.of_p5.by_basic 1 (omega arith)),
  λ f. exact tightened computed.of_p5.tight (p5_kept (one_less tightened) step_of f premises.of_p5.by_tightened 1 (omega arith)),
)
  where
    first : (t p : ℕ) → t < 1 → p < (report step_of (set_from p5) t).sends → (send (report step_of (set_from p5) t) p).flow ≡ 1 → ⊥
    first zero p h i e = sole step_of (set_from p5) 0 p computed.of_p5.own i e
    first (suc t) p h i e = omega arith

    exact : (test : Test) → test.bound (set_from p5) 1 ≡ 2 → Kept step_of (set_from p5) ((one_less test).bound (set_from p5)) 1 → ⊥
    exact test b k =
        let c = computed.of_p5 in
        let a = c.releases in
        unmade step_of (set_from p5) 1 0 ((one_less test).bound (set_from p5) 1) c.works.1 (λ t p h l i e. first t p (omega arith) i e)
        (k.made 1 0 (omega (arith, c.flows)) (omega arith))

-- Nor is 3 a bound of L2's flow 1: three links of flow 0 go before it, though two of them are the same. So S counts a link for each place that it
-- has in the route, and the promise would not hold with the links that differ.
pub three_refuted : (bound : ℕ → ℕ) → bound 1 ≡ 3 → Kept step_of (set_from l2) bound 4 → ⊥
three_refuted bound b k =
    let c = computed.of_l2 in
    unmade step_of (set_from l2) 1 0 (bound 1) c.one.0 (λ t p h l i e. only_flow_0 t p (omega (arith, c.one.1)) i e)
    (k.made 1 0 (omega (arith, c.flows)) (omega (arith, c.one.1)))
  where
    only_flow_0 : (t p : ℕ) → t < 3 → p < (report step_of (set_from l2) t).sends → (send (report step_of (set_from l2) t) p).flow ≡ 1 → ⊥
    only_flow_0 zero p h i e = sole step_of (set_from l2) 0 p computed.of_l2.slot_0 i e
    only_flow_0 (suc zero) p h i e = sole step_of (set_from l2) 1 p computed.of_l2.slot_1 i e
    only_flow_0 (suc (suc zero)) p h i e = sole step_of (set_from l2) 2 p computed.of_l2.slot_2 i e
    only_flow_0 (suc (suc (suc t))) p h i e = omega arith

-- The machine that does not count channels: it sends two flows of P5 on one.
pub crowded_refuted : Promise crowded → ⊥
crowded_refuted f =
    let c = computed.of_p5 in
    omega (arith, ((basic_kept p5 premises.of_p5 crowded f 1 (omega arith)).apart 0 (omega arith)).few, c.crowd, c.one_way)

-- The machine that does not look at conflicts: in slot 0 of P7 it sends two flows that share node 2, the first one's receiver.
pub reckless_refuted : Promise reckless → ⊥
reckless_refuted f =
    let c = computed.met in
    let k = basic_kept p7 premises.of_p7 reckless f 1 (omega arith) in
    ((k.apart 0 (omega arith)).nodes 0 1 (omega arith) (omega arith)).2 c.1

-- Nor may two share a sender, a receiver, or the first one's sender with the other's receiver.
pub fanned_refuted : Promise fanned → ⊥
fanned_refuted f =
    let c = computed.fan in
    (((basic_kept p7 premises.of_p7 fanned f 1 (omega arith)).apart 0 (omega arith)).nodes 0 1 (omega arith) (omega arith)).0 c.1

pub gathered_refuted : Promise gathered → ⊥
gathered_refuted f =
    let c = computed.gather in
    (((basic_kept p7 premises.of_p7 gathered f 1 (omega arith)).apart 0 (omega arith)).nodes 0 1 (omega arith) (omega arith)).3 c.1

pub answered_refuted : Promise answered → ⊥
answered_refuted f =
    let c = computed.answer in
    (((basic_kept p7 premises.of_p7 answered f 1 (omega arith)).apart 0 (omega arith)).nodes 0 1 (omega arith) (omega arith)).1 c.1

-- The machine that takes the latest deadline first: it drops the packet that is due after slot 1, of a set that the tightened test admits.
pub backward_refuted : Promise backward → ⊥
backward_refuted f =
    let c = computed.lost in
    let j = premises.of_tight in
    let k = text_promise tightened backward f.1 (bytes tight) j.read j.by_tightened 2 (omega arith) in
    omega (arith, k.undropped 1 (omega arith))

-- Two transmissions on one channel, one on a channel that is not the set's, one from a node to itself.
pub crossed_refuted : Promise crossed → ⊥
crossed_refuted f =
    let c = computed.cross in
    ((basic_kept p7 premises.of_p7 crossed f 1 (omega arith)).apart 0 (omega arith)).once 0 1 (omega arith) (omega arith) c.1

pub strayed_refuted : Promise strayed → ⊥
strayed_refuted f =
    let c = computed.of_p5.stray in
    false≢true (sym c.1 ∙ ((basic_kept p5 premises.of_p5 strayed f 1 (omega arith)).apart 0 (omega arith)).own 0 (omega arith))

pub looped_refuted : Promise looped → ⊥
looped_refuted f =
    let c = computed.of_p5.loop in ((basic_kept p5 premises.of_p5 looped f 1 (omega arith)).apart 0 (omega arith)).ends 0 (omega arith) c.1

-- P8's four transmissions fill its four slots, so the first comes in slot 0,
p8_first : (M : SlotMachine) → Promise M
    → (p : ℕ) × (p < (report M (set_from p8) 0).sends) × Is (set_from p8) 0 0 0 (send (report M (set_from p8) 0) p)
p8_first M f =
    let c = computed.of_p8 in
    let d = c.four in
    let m = (basic_kept p8 premises.of_p8 M f 4 (omega arith)).made 0 0 (omega (arith, c.flows)) (omega arith) in
    let e : m.at 0 ≡ 0 =
    omega (
      arith,
      m.rising 0 1 (omega arith) (omega arith),
      m.rising 1 2 (omega arith) (omega arith),
      m.rising 2 3 (omega arith) (omega arith),
      m.within 3 (omega arith),
    ) in
    rw e at (m.sent 0 (omega arith))

-- where a report has one transmission, it is that
p8_one : (M : SlotMachine) → Promise M → (report M (set_from p8) 0).sends ≡ 1
    → Is (set_from p8) 0 0 0 (send (report M (set_from p8) 0) 0)
p8_one M f e =
    let w = p8_first M f in
    let p : w.0 ≡ 0 = omega arith in
    rw p at w.2

-- and it goes from node 1 to node 2, as try 0, in slot 0: not backwards, nor as try 1, nor over the second link,
pub turned_refuted : Promise turned → ⊥
turned_refuted f =
    let c = computed.of_p8 in omega (arith, (p8_one turned f c.turn.0).from, c.turn.1, c.starts.0)

pub mistried_refuted : Promise mistried → ⊥
mistried_refuted f =
    let c = computed.of_p8 in omega (arith, (p8_one mistried f c.again.0).which.2, c.again.1, c.starts.1)

pub hurried_refuted : Promise hurried → ⊥
hurried_refuted f =
    let c = computed.of_p8 in omega (arith, (p8_one hurried f c.hurry.0).from, c.hurry.1, c.starts.0)

-- nor to node 3, nor in slot 1.
pub misled_refuted : Promise misled → ⊥
misled_refuted f =
    let c = computed.of_p8 in omega (arith, (p8_one misled f c.lead.0).to, c.lead.1, c.leads)

pub misdated_refuted : Promise misdated → ⊥
misdated_refuted f =
    let c = computed.of_p8 in omega (arith, (p8_one misdated f c.date.0).which.0, c.date.1)
