-- The reader leaves the entries beyond the last flow and beyond a route's end 0: it starts from the blank set, and fills each route up.
use Rattle.std.specs.Prelude.{◌≡◌, ℕ, ◌+◌, ◌<◌, ◌≤◌, Bool, true, false, List, [], ◌∷◌, length, get_or, drop, ◌≢◌, slice_index, slice_index_or, slice_set, refl}
use Rattle.std.proofs.Common.{sym, ap, subst, ◌∙◌, arith, length-drop, length-set, get_or-set_same, get_or-set_other}
use Rattle.std.proofs.Math.Decide.{dec_le}
use Rattle.std.proofs.Math.ListN.{get_or-eq_default}
use Rattle.std.proofs.lemmas.List.{get_or-replicate}
use Rattle.model.specs.declared.kinds.Flow.{Flow}
use Rattle.model.specs.declared.kinds.FlowSet.{FlowSet}
use Rattle.model.specs.declared.answers.Reading.{Reading}
use Rattle.model.specs.Limits.{most_flows, most_nodes}
use Rattle.model.specs.Refusals.{good}
use Rattle.model.specs.Sets.{no_flow, blank_flow, blank_set, flow_at}
use Rattle.document.specs.Reader.{Zeroed, pad, flow_of, with_flow, first_line_fault, flow_line_fault, read_flows, set_of, read_lines, read_text}
use Rattle.document.specs.Text.{lines, numbers_of}
use Rattle.text.specs.PaddedEntries.{pad_at}
use Rattle.text.specs.FlowRows.{good_line}
use Rattle.laws.specs.LinesRead.{read_good, read_bad, first_good, first_bad_law}
use Rattle.laws.specs.Padded.{pad_length}

zeroed_none : (t : FlowSet) → t.count ≡ 0 → t.flows ≡ blank_set.flows → Zeroed t
zeroed_none t c f =
    record {
      long = ap length f;
      beyond = λ k l h. ap (λ (fs : List Flow). get_or fs k no_flow) f ∙ get_or-replicate most_flows k blank_flow no_flow h;
      routes = λ k j l h. absurd (omega arith);
    }

route_zeros : (vs : List ℕ) (j : ℕ) → (flow_of vs).nodes ≤ j → slice_index (flow_of vs).route j ≡ 0
unfolding flow_of
route_zeros vs j h =
    elim (dec_le most_nodes j) [
      | yes d ↦ get_or-eq_default (pad most_nodes (drop 4 vs)) 0 (omega (arith, pad_length most_nodes (drop 4 vs)))
      | no d ↦ pad_at most_nodes (drop 4 vs) j (omega arith) ∙ get_or-eq_default (drop 4 vs) 0 (omega (arith, length-drop 4 vs))
    ]

zeroed_with : (t : FlowSet) (vs : List ℕ) → Zeroed t → t.count < most_flows → Zeroed (with_flow t (flow_of vs))
unfolding with_flow
zeroed_with t vs z h =
    record {
      long = length-set t.flows t.count (flow_of vs) ∙ z.long;
      beyond = λ k l m. other k (λ e. omega arith) ∙ z.beyond k (omega arith) m;
      routes = λ k j l m. go k j l m;
    }
  where
    other : (k : ℕ) → (k ≢ t.count) → slice_index_or (slice_set t.flows t.count (flow_of vs)) k no_flow ≡ flow_at t k
    other k n = get_or-set_other t.flows t.count k (flow_of vs) no_flow n

    here : get_or (slice_set t.flows t.count (flow_of vs)) t.count no_flow ≡ flow_of vs
    here = get_or-set_same t.flows t.count (flow_of vs) no_flow (omega (arith, z.long))

    ZeroFrom : Flow → ℕ → Type 0
    ZeroFrom f j = f.nodes ≤ j → slice_index f.route j ≡ 0

    go : (k j : ℕ) → k < t.count + 1 → ZeroFrom (slice_index_or (slice_set t.flows t.count (flow_of vs)) k no_flow) j
    go k j l =
        elim (dec_le t.count k) [
          | yes d ↦
              let e : k ≡ t.count = omega arith in
              rw e (subst (λ (f : Flow). ZeroFrom f j) (sym here) (route_zeros vs j))
          | no d ↦ subst (λ (f : Flow). ZeroFrom f j) (sym (other k (λ e. omega arith))) (z.routes k j (omega arith))
        ]

flows_zeroed : (ls : List (List ℕ)) (t : FlowSet) → Zeroed t → Zeroed (read_flows t ls).set
unfolding read_flows
flows_zeroed [] t z = z
flows_zeroed (l ∷ ls) t z = go (good (flow_line_fault t.count l)) refl (flows_zeroed ls (with_flow t (flow_of (numbers_of l))))
  where
    go : (b : Bool) → good (flow_line_fault t.count l) ≡ b
        → (Zeroed (with_flow t (flow_of (numbers_of l))) → Zeroed (read_flows (with_flow t (flow_of (numbers_of l))) ls).set)
        → Zeroed (read_flows t (l ∷ ls)).set
    go true e ih =
        subst (λ (r : Reading). Zeroed r.set) (sym (read_good t l ls e))
        (ih (zeroed_with t (numbers_of l) z (good_line t.count l e).fits))
    go false e ih = subst (λ (r : Reading). Zeroed r.set) (sym (read_bad t l ls e)) (zeroed_none blank_set refl refl)

lines_zeroed : (ls : List (List ℕ)) → Zeroed (read_lines ls).set
unfolding read_lines set_of
lines_zeroed [] = zeroed_none blank_set refl refl
lines_zeroed (l ∷ ls) = go (good (first_line_fault l)) refl
  where
    go : (b : Bool) → good (first_line_fault l) ≡ b → Zeroed (read_lines (l ∷ ls)).set
    go true e = subst (λ (r : Reading). Zeroed r.set) (sym (first_good l ls e)) (flows_zeroed ls (set_of l) (zeroed_none (set_of l) refl refl))
    go false e = subst (λ (r : Reading). Zeroed r.set) (sym (first_bad_law l ls e)) (zeroed_none blank_set refl refl)

-- whatever the text
pub read_zeroed : (s : List ℕ) → Zeroed (read_text s).set
unfolding read_text
read_zeroed s = lines_zeroed (lines s)
