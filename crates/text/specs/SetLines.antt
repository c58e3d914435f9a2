-- Laws of a set's lines as they are put into a buffer: the numbers of a flow's line, and the lines of the flows in turn.
use Rattle.std.specs.Prelude.{◌≡◌, ℕ, suc, ◌+◌, ◌<◌, min, List, [], ◌∷◌, ◌++◌, length, map, take, slice_index_or, refl}
use Rattle.std.proofs.Common.{sym, ◌∙◌, append-nil, append_assoc, add-one, arith, take-suc, take_all}
use Rattle.std.proofs.Math.Path.{ap}
use Rattle.std.proofs.Math.ListN.{length-take, length-map}
use Rattle.std.proofs.lemmas.List.{map-append}
use Rattle.model.specs.declared.kinds.Flow.{Flow}
use Rattle.model.specs.declared.kinds.FlowSet.{FlowSet}
use Rattle.model.specs.Limits.{most_flows, most_nodes}
use Rattle.model.specs.Sets.{no_flow, flow_at, exact, used}
use Rattle.document.specs.Reader.{flow_numbers, flow_lines, text_of}
use Rattle.document.specs.Text.{set_word, flow_word, line_of}
use Rattle.laws.specs.Taken.{take_min}
use Rattle.laws.specs.Used.{used_flow}

-- the numbers of a flow's line are those of its route's used nodes
pub line_numbers : (f : Flow) (n : ℕ) → length f.route ≡ most_nodes → n ≡ 4 + min f.nodes most_nodes
    → take n (flow_numbers f) ≡ flow_numbers (exact f)
line_numbers f n h e =
    let z : n ≡ suc (suc (suc (suc (min f.nodes most_nodes)))) = omega arith in
    rw z
    (ap (λ (r : List ℕ). f.period.0 ∷ f.deadline.0 ∷ f.start ∷ f.tries ∷ r) (take_min f.route most_nodes f.nodes _ h refl))

-- the lines of the flows, one more
lines_append : (a b : List Flow) → flow_lines (a ++ b) ≡ flow_lines a ++ flow_lines b
unfolding flow_lines
lines_append [] b = refl
lines_append (f ∷ a) b = rw (lines_append a b, append_assoc)

lines_one : (f : Flow) → flow_lines (f ∷ []) ≡ line_of flow_word (flow_numbers f)
unfolding flow_lines
lines_one f = append-nil (line_of flow_word (flow_numbers f))

module _ (s : FlowSet) (long : length s.flows ≡ most_flows) where
  pub used_length : length (used s).flows ≡ min s.count most_flows
  unfolding used
  used_length = length-map (take s.count s.flows) exact ∙ length-take s.count s.flows ∙ ap (min s.count) long

  pub flow_next : (k n : ℕ) → n ≡ min s.count most_flows → k < n
      → flow_lines (take k (used s).flows) ++ line_of flow_word (flow_numbers (exact (flow_at s k))) ≡ flow_lines (take (k + 1) (used s).flows)
  flow_next k n e h =
      ap (λ (f : Flow). flow_lines (take k (used s).flows) ++ line_of flow_word (flow_numbers f)) (sym (used_flow s k (omega arith)))
      ∙ ap (λ (l : List ℕ). flow_lines (take k (used s).flows) ++ l) (sym (lines_one (flow_at (used s) k)))
      ∙ sym (lines_append (take k (used s).flows) (flow_at (used s) k ∷ []))
      ∙ ap flow_lines (rw (add-one, take-suc (used s).flows k no_flow (omega (arith, used_length))))

  pub flow_all : (n : ℕ) → n ≡ min s.count most_flows → flow_lines (take n (used s).flows) ≡ flow_lines (used s).flows
  flow_all n e = ap flow_lines (take_all n (used s).flows (omega (arith, used_length)))

-- and of any flows, as far as their routes go
pub flows_next : (fs : List Flow) (k : ℕ) (d : Flow) → k < length fs
    → flow_lines (map exact (take k fs)) ++ line_of flow_word (flow_numbers (exact (slice_index_or fs k d))) ≡ flow_lines (map exact (take (k + 1) fs))
flows_next fs k d h =
    ap (λ (l : List ℕ). flow_lines (map exact (take k fs)) ++ l) (sym (lines_one (exact (slice_index_or fs k d))))
    ∙ sym (lines_append (map exact (take k fs)) (exact (slice_index_or fs k d) ∷ []))
    ∙ ap flow_lines (sym (map-append exact (take k fs) (slice_index_or fs k d ∷ [])))
    ∙ ap (λ (gs : List Flow). flow_lines (map exact gs)) (rw (add-one, take-suc fs k d h))

-- a set's text is the set's line and the flows' lines
pub text_parts : (s : FlowSet) (fs : List Flow) → fs ≡ take s.count s.flows
    → line_of set_word (s.map.0 ∷ []) ++ flow_lines (map exact fs) ≡ text_of (used s)
unfolding text_of used
text_parts s fs e = rw e
