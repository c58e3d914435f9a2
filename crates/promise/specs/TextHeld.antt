-- A set that the reader accepts passes the record check, line by line for the same reasons, and is held as the code holds every record. So the
-- promise reaches every accepted text.
use Rattle.std.specs.Prelude.{◌≡◌, refl, Bool, true, false, ◌&&◌, cond, List, [], ◌∷◌, ℕ, zero, suc, ◌+◌, ◌-◌, ◌≤◌, ◌<◌, leb, eqb, length, get_or, drop, set}
use Rattle.std.proofs.Common.{sym, ◌∙◌, zero-le, le_refl, arith, length-drop, length-set, get_or-drop, get_or-set_same, get_or-set_other, leb-true}
use Rattle.std.proofs.lemmas.Bool.{false≢true}
use Rattle.std.proofs.Math.Decide.{dec_le}
use Rattle.std.proofs.lemmas.List.{length-replicate}
use Rattle.model.specs.declared.kinds.Flow.{Flow}
use Rattle.model.specs.declared.kinds.FlowSet.{FlowSet}
use Rattle.model.specs.declared.answers.Fault.{Fault}
use Rattle.model.specs.declared.answers.Refusal.{Refusal}
use Rattle.model.specs.declared.answers.Refusal.TheVariants.{BadForm}
use Rattle.model.specs.Limits.{most_flows, most_nodes}
use Rattle.model.specs.Refusals.{good, fault_at, or_else}
use Rattle.model.specs.Sets.{no_flow, blank_flow, flow_at, exact, used}
use Rattle.document.specs.Text.{set_word, flow_word, lines, fields, others_of, value_of, is_number, all_numbers, values_of, well_formed, numbers_of}
use Rattle.document.specs.Reader.{map_fault, record_flow_fault, flows_fault, record_fault, flow_of, with_flow, first_line_fault, flow_line_fault, read_flows, set_of, read_lines, read_text}
use Rattle.laws.specs.SumLaws.{and_l, and_r}
use Rattle.laws.specs.Used.{used_map, used_count, used_flow}
use Rattle.laws.specs.Accepted.{good_flow}
use Rattle.laws.specs.Padded.{pad_length, pad_take}
use Rattle.laws.specs.LinesRead.{read_good, read_bad, first_good, first_bad_law}
use Rattle.promise.specs.Promise.{Held}

-- a refusal that is none of a chain
cond_good : (b : Bool) (x y : Refusal) → good y ≡ false → good (cond b x y) ≡ true → (b ≡ true) × (good x ≡ true)
cond_good true x y n h = (refl, h)
cond_good false x y n h = absurd (false≢true (sym n ∙ h))

-- neither of two faults
or_else_by : (f g : Fault) → good f.refusal ≡ true → good g.refusal ≡ true → good (or_else f g).refusal ≡ true
or_else_by f g h k = rw h k

-- if every flow from k on passes, there is no fault
flows_good : (s : FlowSet) (n k : ℕ) → ((i : ℕ) → k ≤ i → i < k + n → good (record_flow_fault i (flow_at s i)) ≡ true)
    → good (flows_fault s k n).refusal ≡ true
unfolding flows_fault
flows_good s zero k h = refl
flows_good s (suc n) k h =
    or_else_by (fault_at (record_flow_fault k (flow_at s k)) (k + 2)) (flows_fault s (k + 1) n) (h k (le_refl k) (omega arith))
    (flows_good s n (k + 1) (λ i l u. h i (omega arith) (omega arith)))

-- the numbers of a line have 16 bits
values_small : (fs : List (List ℕ)) → all_numbers fs ≡ true → (i : ℕ) → get_or (values_of fs) i 0 ≤ 65535
unfolding all_numbers values_of is_number
values_small [] h i = zero-le
values_small (f ∷ fs) h zero =
    let e : leb (value_of f) 65535 ≡ true = search (and_l, and_r) in
    leb-true (value_of f) 65535 e
values_small (f ∷ fs) h (suc i) = values_small fs (and_r (is_number f) (all_numbers fs) h) i

numbers_small : (word l : List ℕ) → well_formed word l ≡ true → (i : ℕ) → get_or (numbers_of l) i 0 ≤ 65535
unfolding well_formed numbers_of
numbers_small word l h i =
    let e : all_numbers (others_of (fields l)) ≡ true = search (and_l, and_r) in
    values_small (others_of (fields l)) e i

-- a flow that passes as number k, whose nodes have 16 bits
abbrev Passes : ℕ → Flow → Type 0
Passes k f = (good (record_flow_fault k (exact f)) ≡ true) × ((i : ℕ) → get_or (exact f).route i 0 ≤ 65535)

-- What the reader's set has after each line.
record HeldSoFar (s : FlowSet) : Type 0 where
  map_good : good (map_fault s.map.0) ≡ true
  bits : s.map.0 ≤ 65535
  size : length s.flows ≡ most_flows
  flow : (k : ℕ) → k < s.count → Passes k (flow_at s k) × (length (flow_at s k).route ≡ most_nodes)

-- a set with these passes the record check, and is held as the code holds it
read_passes : (s : FlowSet) → HeldSoFar s → good (record_fault (used s)).refusal ≡ true
unfolding record_fault
read_passes s r =
    or_else_by (fault_at (map_fault (used s).map.0) 1) (flows_fault (used s) 0 (used s).count) (rw (used_map s) r.map_good)
    (flows_good (used s) (used s).count 0 each)
  where
    each : (i : ℕ) → 0 ≤ i → i < 0 + (used s).count → good (record_flow_fault i (flow_at (used s) i)) ≡ true
    each i l u =
        let c : i < s.count = omega (arith, used_count s) in
        rw (used_flow s i c) (r.flow i c).0.0

read_held : (s : FlowSet) → HeldSoFar s → Held s
read_held s r = (omega (arith, r.bits), λ k l. (r.flow k l).1)

-- the flow of a good line passes as a record
line_flow : (k : ℕ) (l : List ℕ) → good (flow_line_fault k l) ≡ true
    → (k < most_flows) × Passes k (flow_of (numbers_of l))
unfolding flow_line_fault flow_of
line_flow k l h =
    let vs = numbers_of l in
    let d = cond_good (well_formed flow_word l && leb 4 (length vs)) _ BadForm refl h in
    let g = d.1 in
    let small = numbers_small flow_word l (and_l (well_formed flow_word l) _ d.0) in
    let f : Flow =
    record {
      period = record { 0 = get_or vs 0 0 };
      deadline = record { 0 = get_or vs 1 0 };
      start = 0;
      tries = get_or vs 3 0;
      nodes = length vs - 4;
      route = drop 4 vs;
    } in
    let w = good_flow k f g in
    let n : length (drop 4 vs) ≡ length vs - 4 = length-drop 4 vs in
    let e = pad_take most_nodes (drop 4 vs) (rw n w.1.nodes_le) in
    (w.0, (rw (← n, e) (rw n g), λ i. rw (← n, e, get_or-drop 4 vs i 0) (small (4 + i))))

flow_route : (vs : List ℕ) → length (flow_of vs).route ≡ most_nodes
unfolding flow_of
flow_route vs = pad_length most_nodes (drop 4 vs)

-- and the set with it is good
read_more : (s : FlowSet) (l : List ℕ) → HeldSoFar s → good (flow_line_fault s.count l) ≡ true → HeldSoFar (with_flow s (flow_of (numbers_of l)))
unfolding with_flow
read_more s l r h =
    record {
      map_good = r.map_good;
      bits = r.bits;
      size = length-set s.flows s.count (flow_of (numbers_of l)) ∙ r.size;
      flow = each;
    }
  where
    w : (s.count < most_flows) × Passes s.count (flow_of (numbers_of l))
    w = line_flow s.count l h

    each : (k : ℕ) → k < s.count + 1
        → Passes k (get_or (set s.flows s.count (flow_of (numbers_of l))) k no_flow)
        × (length (get_or (set s.flows s.count (flow_of (numbers_of l))) k no_flow).route ≡ most_nodes)
    each k i =
        elim (dec_le s.count k) [
          | yes d ↦
              let q : k ≡ s.count = omega arith in
              rw (q, get_or-set_same s.flows s.count (flow_of (numbers_of l)) no_flow (omega (arith, r.size, w.0)))
              (w.1, flow_route (numbers_of l))
          | no d ↦ rw (get_or-set_other s.flows s.count k (flow_of (numbers_of l)) no_flow (λ q. omega arith)) (r.flow k (omega arith))
        ]

-- so it is to the last line, unless a line is refused
read_flows_law : (s : FlowSet) (ls : List (List ℕ)) → HeldSoFar s → good (read_flows s ls).fault.refusal ≡ true → HeldSoFar (read_flows s ls).set
unfolding read_flows
read_flows_law s [] r h = r
read_flows_law s (l ∷ ls) r h = go (good (flow_line_fault s.count l)) refl (λ q. read_flows_law (with_flow s (flow_of (numbers_of l))) ls q)
  where
    go : (b : Bool) → good (flow_line_fault s.count l) ≡ b
        → (HeldSoFar (with_flow s (flow_of (numbers_of l))) → good (read_flows (with_flow s (flow_of (numbers_of l))) ls).fault.refusal ≡ true
        → HeldSoFar (read_flows (with_flow s (flow_of (numbers_of l))) ls).set)
        → HeldSoFar (read_flows s (l ∷ ls)).set
    go true e ih = rw (read_good s l ls e) (ih (read_more s l r e) (rw (read_good s l ls e) at h))
    go false e ih = absurd (false≢true (sym e ∙ rw (read_bad s l ls e) at h))

read_first : (l : List ℕ) → good (first_line_fault l) ≡ true → HeldSoFar (set_of l)
unfolding first_line_fault set_of
read_first l h =
    let w = cond_good (well_formed set_word l && eqb (length (numbers_of l)) 1) (map_fault (get_or (numbers_of l) 0 0)) BadForm refl h in
    record {
      map_good = w.1;
      bits = numbers_small set_word l (and_l (well_formed set_word l) _ w.0) 0;
      size = length-replicate most_flows blank_flow;
      flow = λ k i. absurd (omega arith);
    }

read_lines_law : (ls : List (List ℕ)) → good (read_lines ls).fault.refusal ≡ true → HeldSoFar (read_lines ls).set
unfolding read_lines
read_lines_law [] h = absurd (false≢true h)
read_lines_law (l ∷ ls) h = go (good (first_line_fault l)) refl
  where
    go : (b : Bool) → good (first_line_fault l) ≡ b → HeldSoFar (read_lines (l ∷ ls)).set
    go true e = rw (first_good l ls e) (read_flows_law (set_of l) ls (read_first l e) (rw (first_good l ls e) at h))
    go false e = absurd (false≢true (sym e ∙ rw (first_bad_law l ls e) at h))

read_text_law : (text : List ℕ) → good (read_text text).fault.refusal ≡ true → HeldSoFar (read_text text).set
unfolding read_text
read_text_law text h = read_lines_law (lines text) h

-- Every set that the reader accepts is one of which the promise speaks.
pub text_held : (text : List ℕ) → good (read_text text).fault.refusal ≡ true → Held (read_text text).set
text_held text h = read_held _ (read_text_law text h)

pub text_passes : (text : List ℕ) → good (read_text text).fault.refusal ≡ true → good (record_fault (used (read_text text).set)).refusal ≡ true
text_passes text h = read_passes _ (read_text_law text h)

-- its nodes have 16 bits
pub text_nodes : (text : List ℕ) → good (read_text text).fault.refusal ≡ true
    → (k i : ℕ) → k < (used (read_text text).set).count → get_or (flow_at (used (read_text text).set) k).route i 0 ≤ 65535
text_nodes text h k i l =
    let s = (read_text text).set in
    let c : k < s.count = rw (used_count s) at l in
    rw (used_flow s k c) (((read_text_law text h).flow k c).0.1 i)
