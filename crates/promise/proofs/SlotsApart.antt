-- With any order of priority no slot of the run uses a node or a channel twice: placed links share no node, a link's ends differ since they are
-- neighbours in a route, and the offsets of a slot are fewer than the channels and so stand for different ones.
use Rattle.std.specs.Prelude.{◌≡◌, ◌≢◌, true, false, List, length, take, drop}
use Rattle.std.proofs.Common.{sym, ◌∙◌, div-lt_iff_lt-mul, arith, length-take, length-drop}
use Rattle.std.proofs.lemmas.Bool.{false≢true}
use Prim.Native.Nat.{ℕ, ◌+◌, ◌/◌, ◌^◌, ◌<◌}
use Rattle.std.proofs.Math.ListN.{get_or}
use Rattle.model.specs.declared.kinds.FlowSet.{FlowSet}
use Rattle.model.specs.Limits.{most_channels, last_slot}
use Rattle.model.specs.Refusals.{good}
use Rattle.model.specs.Sets.{flow_at, memb, meet, links}
use Rattle.document.specs.Reader.{record_fault}
use Rattle.document.specs.Machine.{Priority, had_at, link_at, placed_with, send_of, step_with}
use Rattle.laws.specs.Accepted.{accepted, neighbours_differ}
use Rattle.laws.specs.RadioChannels.{radio_own, radio_apart}
use Rattle.laws.specs.Members.{memb_at}
use Rattle.promise.specs.Promise.{report, Apart}
use Rattle.promise.specs.SlotChoice.{Ordering}
use Rattle.promise.specs.RunStates.{state_at, choice, ready_case}
use Rattle.promise.specs.Timetable.{meet_by, some_way}
use Rattle.promise.specs.Reports.{link_from, link_to, sends_eq, sends_le, send_eq, sent_placed}

-- numbers of lists that do not meet differ
apart_at : (a b : List ℕ) (i j : ℕ) → meet a b ≡ false → i < length a → j < length b → get_or b j 0 ≢ get_or a i 0
apart_at a b i j n h l e = false≢true (sym n ∙ meet_by a b (get_or a i 0) (memb_at a i h) (rw (← e) (memb_at b j l)))

-- a link of the route has two ends
link_length : (r : List ℕ) (i : ℕ) → i + 1 < length r → length (take 2 (drop i r)) ≡ 2
link_length r i h = simp (length-take, length-drop) (omega arith)

-- From here on: the machine with any order of priority.
module _ {first : Priority} (o : Ordering first) where
  module _ (s : FlowSet) (g : good (record_fault s).refusal ≡ true) (bits : s.map.0 < 2 ^ most_channels)
      (whole : (k : ℕ) → k < s.count → length (flow_at s k).route ≡ (flow_at s k).nodes) where
    -- the link of a placed packet is one of its route's
    placed_link : (t k : ℕ) → memb k (placed_with first s (state_at first s t)) ≡ true
        → had_at s (state_at first s t) k / (flow_at s k).tries + 1 < length (flow_at s k).route
    placed_link t k e =
        let w = (choice o s (state_at first s t)).only k e in
        let f = (accepted s g).flow k w.0 in
        let r = ready_case s (state_at first s t) k w.1 in
        let d : had_at s (state_at first s t) k / (flow_at s k).tries < links (flow_at s k) = (div-lt_iff_lt-mul f.tries_pos).1 r.2 in
        let n = f.nodes_ge in
        omega (arith, whole k w.0)

    -- Each slot of the run.
    pub slot_apart : (t : ℕ) → t < last_slot → Apart s (report (step_with first) s t)
    unfolding send_of
    slot_apart t h =
        record {
          few = sends_le o s g t h;
          own = λ p l. rw (send_eq o s g t p h bits l) (radio_own s.map.0 (state_at first s t).slot.0 p bits (some_way o s g));
          ends = λ p l. rw (send_eq o s g t p h bits l) (ends p l);
          nodes = λ p q k l. rw (send_eq o s g t p h bits (omega arith), send_eq o s g t q h bits l) (nodes p q k l);
          once = λ p q k l. rw (send_eq o s g t p h bits (omega arith), send_eq o s g t q h bits l)
              (radio_apart s.map.0 (state_at first s t).slot.0 p q bits k (omega (arith, sends_le o s g t h)));
        }
      where
        flow : ℕ → ℕ
        flow p = get_or (placed_with first s (state_at first s t)) p 0

        two : (p : ℕ) → p < (report (step_with first) s t).sends → length (link_at s (state_at first s t) (flow p)) ≡ 2
        two p l = link_length (flow_at s (flow p)).route _ (placed_link t (flow p) (sent_placed o s g t p h l))

        ends : (p : ℕ) → p < (report (step_with first) s t).sends
            → get_or (link_at s (state_at first s t) (flow p)) 0 0 ≢ get_or (link_at s (state_at first s t) (flow p)) 1 0
        ends p l e =
            let i = had_at s (state_at first s t) (flow p) / (flow_at s (flow p)).tries in
            let r = (flow_at s (flow p)).route in
            let b = sent_placed o s g t p h l in
            neighbours_differ s g (flow p) i ((choice o s (state_at first s t)).only (flow p) b).0 (placed_link t (flow p) b)
            (sym (link_from r i) ∙ e ∙ link_to r i)

        nodes : (p q : ℕ) → p < q → q < (report (step_with first) s t).sends
            → (get_or (link_at s (state_at first s t) (flow p)) 0 0 ≢ get_or (link_at s (state_at first s t) (flow q)) 0 0)
            × (get_or (link_at s (state_at first s t) (flow p)) 0 0 ≢ get_or (link_at s (state_at first s t) (flow q)) 1 0)
            × (get_or (link_at s (state_at first s t) (flow p)) 1 0 ≢ get_or (link_at s (state_at first s t) (flow q)) 0 0)
            × (get_or (link_at s (state_at first s t) (flow p)) 1 0 ≢ get_or (link_at s (state_at first s t) (flow q)) 1 0)
        nodes p q k l =
            let a = link_at s (state_at first s t) (flow q) in
            let b = link_at s (state_at first s t) (flow p) in
            let x = two q l in
            let y = two p (omega arith) in
            let n = (choice o s (state_at first s t)).free p q k (omega (arith, sends_eq o s g t h)) in (
              apart_at a b 0 0 n (omega arith) (omega arith),
              apart_at a b 1 0 n (omega arith) (omega arith),
              apart_at a b 0 1 n (omega arith) (omega arith),
              apart_at a b 1 1 n (omega arith) (omega arith),
            )
