-- What is written of a set that passes the record check is read as the same set, and the entries that don't count come back 0.
use Rattle.std.specs.Prelude.{◌≡◌, ℕ, zero, suc, ◌+◌, ◌-◌, ◌<◌, ◌≤◌, true, leb, List, [], ◌∷◌, ◌++◌, length, take, nat_le, slice_index, slice_index_or, refl}
use Rattle.std.proofs.Common.{sym, subst, ◌∙◌, append-nil, append_assoc, add-zero, length-take-le}
use Rattle.std.proofs.Math.Path.{ap}
use Prim.Native.Nat.{zero-le}
use native.Mathlib.Omega.{arith}
use borrow.Author.Tests.{le-leb}
use Rattle.model.specs.declared.kinds.ChannelMap.{ChannelMap}
use Rattle.model.specs.declared.kinds.Flow.{Flow}
use Rattle.model.specs.declared.kinds.FlowSet.{FlowSet}
use Rattle.model.specs.declared.answers.Reading.{Reading}
use Rattle.model.specs.Limits.{most_nodes}
use Rattle.model.specs.Refusals.{good, fault_at}
use Rattle.model.specs.Sets.{no_flow, flow_at, exact, used, SameSet}
use Rattle.document.specs.Reader.{map_fault, record_flow_fault, flows_fault, record_fault, pad, flow_of, with_flow, first_line_fault, flow_line_fault, accepted, read_flows, set_of, read_lines, read_text, flow_numbers, flow_lines, text_of}
use Rattle.document.specs.Text.{set_word, flow_word, lines, line_of}
use Rattle.laws.specs.Accepted.{good_flow, good_flows, or_else_good, accepted as accepted-set}
use Rattle.laws.specs.SumLaws.{and_l, and_r}
use Rattle.laws.specs.Used.{used_flow, used_count, used_map}
use Rattle.text.specs.HeldByCode.{HeldFlow, HeldRecord}
use Rattle.laws.specs.LinesRead.{read_good, first_good}
use Rattle.text.specs.SetLines.{used_length}
use Rattle.text.specs.WrittenLines.{inside, small, LineReads, line_written}
use Rattle.text.specs.ReadThenWritten.{RoomForFlows, room_with, room_first, used_with}
use Rattle.laws.specs.Padded.{pad_take}

-- a flow that is all of its record: its route has as many nodes as it says, and its numbers are of 16 bits
pub record Whole (f : Flow) : Type 0 where
  pub nodes_are : length f.route ≡ f.nodes
  pub numbers_fit : small (flow_numbers f) ≡ true

-- the flow from its own numbers
exact_back : (f : Flow) → Whole f → f.nodes ≤ most_nodes → exact (flow_of (flow_numbers f)) ≡ f
unfolding flow_of
exact_back f w h =
    let z : length (flow_numbers f) - 4 ≡ f.nodes = omega (arith, w.nodes_are) in
    let r : take (length (flow_numbers f) - 4) (pad most_nodes f.route) ≡ f.route =
    ap (λ (n : ℕ). take n (pad most_nodes f.route)) (z ∙ sym w.nodes_are) ∙ pad_take most_nodes f.route (omega (arith, w.nodes_are)) in
    rw (r, z)

-- its line is judged as the record is
line_judged : (k : ℕ) (f : Flow) → Whole f → LineReads flow_word (flow_numbers f) → flow_line_fault k (line_of flow_word (flow_numbers f)) ≡ record_flow_fault k f
unfolding flow_line_fault
line_judged k f w l =
    let z : length (flow_numbers f) - 4 ≡ f.nodes = omega (arith, w.nodes_are) in
    let four : leb 4 (length (flow_numbers f)) ≡ true = le-leb 4 (length (flow_numbers f)) (omega arith) in
    rw (l.formed, l.numbers, four, z)

-- the flows that are read of lines in turn, from number k on
unfoldable Goods : ℕ → List Flow → Type 0
Goods k [] = Unit {0}
Goods k (f ∷ fs) = (good (record_flow_fault k f) ≡ true) × Whole f × Goods (k + 1) fs

unfoldable added : FlowSet → List Flow → FlowSet
added t [] = t
added t (f ∷ fs) = added (with_flow t (flow_of (flow_numbers f))) fs

flow_inside : inside flow_word ≡ true
unfolding inside
flow_inside = refl

set_inside : inside set_word ≡ true
unfolding inside
set_inside = refl

flows_read : (fs : List Flow) (t : FlowSet) → Goods t.count fs → read_flows t (lines (flow_lines fs)) ≡ accepted (added t fs)
unfolding read_flows lines flow_lines Goods added with_flow
flows_read [] t g = refl
flows_read (f ∷ fs) t g =
    let l = line_written flow_word (flow_numbers f) flow_inside g.1.numbers_fit in
    ap (read_flows t) (l.first_of_law (flow_lines fs))
    ∙ read_good t (line_of flow_word (flow_numbers f)) (lines (flow_lines fs)) (ap good (line_judged t.count f g.1 l) ∙ g.0)
    ∙ ap (λ (vs : List ℕ). read_flows (with_flow t (flow_of vs)) (lines (flow_lines fs))) l.numbers
    ∙ flows_read fs (with_flow t (flow_of (flow_numbers f))) g.2

-- they are the flows that were written
record FlowsAdded (t u : FlowSet) (fs : List Flow) : Type 0 where
  same_map : u.map ≡ t.map
  more : u.count ≡ t.count + length fs
  same_flows : (used u).flows ≡ (used t).flows ++ fs

flows_added : (fs : List Flow) (t : FlowSet) → RoomForFlows t → Goods t.count fs → FlowsAdded t (added t fs) fs
unfolding Goods added with_flow
flows_added [] t r g = record { same_map = refl; more = omega arith; same_flows = sym (append-nil (used t).flows) }
flows_added (f ∷ fs) t r g =
    let k = good_flow t.count f g.0 in
    let n = flow_of (flow_numbers f) in
    let i = flows_added fs (with_flow t n) (room_with t n r k.0) g.2 in
    record {
      same_map = i.same_map;
      more = omega (arith, i.more);
      same_flows =
          i.same_flows
          ∙ ap (λ (l : List Flow). l ++ fs) (used_with t n r k.0 ∙ ap (λ (h : Flow). (used t).flows ++ (h ∷ [])) (exact_back f g.1 k.1.nodes_le))
          ∙ append_assoc (used t).flows (f ∷ []) fs;
    }

goods_of : (fs : List Flow) (k : ℕ)
    → ((i : ℕ) → i < length fs → (good (record_flow_fault (k + i) (slice_index_or fs i no_flow)) ≡ true) × Whole (slice_index_or fs i no_flow)) → Goods k fs
unfolding Goods
goods_of [] k h = tt
goods_of (f ∷ fs) k h =
    let a = h 0 (omega arith) in (
      subst (λ (n : ℕ). good (record_flow_fault n f) ≡ true) (add-zero k) a.0,
      a.1,
      goods_of fs (k + 1) (λ i l. next i (h (suc i) (omega arith))),
    )
  where
    next : (i : ℕ) → (good (record_flow_fault (k + suc i) (slice_index_or fs i no_flow)) ≡ true) × Whole (slice_index_or fs i no_flow)
        → (good (record_flow_fault (k + 1 + i) (slice_index_or fs i no_flow)) ≡ true) × Whole (slice_index_or fs i no_flow)
    next i p =
        let z : k + suc i ≡ k + 1 + i = omega arith in
        (subst (λ (n : ℕ). good (record_flow_fault n (slice_index_or fs i no_flow)) ≡ true) z p.0, p.1)

small_take : (n : ℕ) (vs : List ℕ) → small vs ≡ true → small (take n vs) ≡ true
unfolding small
small_take zero vs h = refl
small_take (suc n) [] h = refl
small_take (suc n) (v ∷ vs) h = rw (and_l (nat_le v 65535) (small vs) h) (small_take n vs (and_r (nat_le v 65535) (small vs) h))

small_exact : (f : Flow) → small (flow_numbers f) ≡ true → small (flow_numbers (exact f)) ≡ true
unfolding small
small_exact f h = small_take (suc (suc (suc (suc f.nodes)))) (flow_numbers f) h

whole_flow : (f : Flow) → HeldFlow f → f.nodes ≤ most_nodes → Whole (exact f)
whole_flow f st n =
    record { nodes_are = length-take-le f.nodes f.route (omega (arith, st.route_is)); numbers_fit = small_exact f st.numbers_fit }

same_parts : (a b : FlowSet) → a.map ≡ b.map → a.count ≡ b.count → a.flows ≡ b.flows → a ≡ b
same_parts a b p q r =
    ap (λ (m : ChannelMap). record { map = m; count = a.count; flows = a.flows }) p
    ∙ ap (λ (n : ℕ). record { map = b.map; count = n; flows = a.flows }) q
    ∙ ap (λ (fs : List Flow). record { map = b.map; count = b.count; flows = fs }) r

module _ (s : FlowSet) (st : HeldRecord s) (h : good (record_fault (used s)).refusal ≡ true) where
  all_flows : length (used s).flows ≡ s.count
  all_flows = omega (arith, used_length s st.flows_are, (accepted-set (used s) h).count_le, used_count s)

  passes : (i : ℕ) → i < s.count → good (record_flow_fault (0 + i) (flow_at (used s) i)) ≡ true
  unfolding record_fault
  passes i l =
      let w = or_else_good (fault_at (map_fault (used s).map.0) 1) (flows_fault (used s) 0 (used s).count) h in
      let z : 0 + i ≡ i = omega arith in
      rw z (good_flows (used s) (used s).count 0 w.1 i zero-le (omega (arith, used_count s)))

  is_whole : (i : ℕ) → i < s.count → Whole (flow_at (used s) i)
  is_whole i l =
      let n : (exact (flow_at s i)).nodes ≤ most_nodes =
      subst (λ (f : Flow). f.nodes ≤ most_nodes) (used_flow s i l) ((accepted-set (used s) h).flow i (omega (arith, used_count s))).nodes_le in
      subst (λ (f : Flow). Whole f) (sym (used_flow s i l))
      (whole_flow (flow_at s i) (st.flow_is i (omega (arith, (accepted-set (used s) h).count_le, used_count s))) n)

  stored_goods : Goods 0 (used s).flows
  stored_goods = goods_of (used s).flows 0 (λ i l. (passes i (omega (arith, all_flows)), is_whole i (omega (arith, all_flows))))

  first_line : LineReads set_word ((used s).map.0 ∷ [])
  unfolding small
  first_line =
      let m : s.map.0 ≤ 65535 = st.map_fits in
      line_written set_word ((used s).map.0 ∷ []) set_inside (rw (used_map s, le-leb s.map.0 65535 m))

  -- the first line, judged as the record is
  first_judged : first_line_fault (line_of set_word ((used s).map.0 ∷ [])) ≡ map_fault (used s).map.0
  unfolding first_line_fault
  first_judged = let l = first_line in rw (l.formed, l.numbers)

  first_set : FlowSet
  first_set = set_of (line_of set_word ((used s).map.0 ∷ []))

  set_read : read_text (text_of (used s)) ≡ accepted (added first_set (used s).flows)
  unfolding read_text text_of record_fault set_of first_set
  set_read =
      let w = or_else_good (fault_at (map_fault (used s).map.0) 1) (flows_fault (used s) 0 (used s).count) h in
      ap read_lines (first_line.first_of_law (flow_lines (used s).flows))
      ∙ first_good (line_of set_word ((used s).map.0 ∷ [])) (lines (flow_lines (used s).flows)) (ap good first_judged ∙ w.0)
      ∙ flows_read (used s).flows first_set stored_goods

  set_same : SameSet (added first_set (used s).flows) s
  unfolding set_of first_set used
  set_same =
      let a = flows_added (used s).flows first_set (room_first (line_of set_word ((used s).map.0 ∷ []))) stored_goods in
      same_parts (used (added first_set (used s).flows)) (used s)
      (a.same_map ∙ ap (λ (vs : List ℕ). record { 0 = slice_index vs 0 }) first_line.numbers)
      (a.more ∙ omega (arith, all_flows))
      a.same_flows

  -- what is written of a set that passes the record check is read as the same set
  pub written_read : (good (read_text (text_of (used s))).fault.refusal ≡ true) × SameSet (read_text (text_of (used s))).set s
  written_read = (ap (λ (r : Reading). good r.fault.refusal) set_read, ap (λ (r : Reading). used r.set) set_read ∙ set_same)
