-- What is read is written again as the same bytes, since each line is the line of its numbers; and so no accepted text is longer than
-- its longest lines make it.
use Rattle.std.specs.Prelude.{◌≡◌, ℕ, suc, ◌+◌, ◌-◌, ◌*◌, ◌<◌, ◌≤◌, Bool, true, false, cond, ◌&&◌, List, [], ◌∷◌, ◌++◌, map, length, take, ◌==◌, nat_le, slice_index, refl}
use Rattle.std.proofs.Common.{sym, ap, subst, ◌∙◌, append-nil, append_assoc, zero-le, add-one, arith, length-append, length-set, take-suc-set, leb-true, eqb-true}
use Rattle.std.proofs.lemmas.Bool.{false≢true}
use Rattle.model.specs.declared.kinds.Flow.{Flow}
use Rattle.model.specs.declared.kinds.FlowSet.{FlowSet}
use Rattle.model.specs.declared.answers.Reading.{Reading}
use Rattle.model.specs.Limits.{most_flows, most_nodes}
use Rattle.model.specs.Refusals.{good}
use Rattle.model.specs.Sets.{exact, used}
use Rattle.document.specs.Reader.{pad, flow_of, with_flow, first_line_fault, flow_line_fault, read_flows, set_of, read_lines, read_text, flow_numbers, flow_lines, text_of}
use Rattle.document.specs.Text.{set_word, flow_word, onto, lines, well_formed, numbers_of, decimal, line_of}
use Rattle.laws.specs.LinesRead.{read_good, read_bad, first_good, first_bad_law}
use Rattle.laws.specs.SumLaws.{and_l, and_r}
use Rattle.text.specs.Places.{line}
use Rattle.text.specs.Decimals.{decimal_one}
use Rattle.text.specs.Put.{fields_of, line_parts}
use Rattle.text.specs.FlowRows.{formed_first, good_line}
use Rattle.text.specs.FirstRow.{first_formed}
use Rattle.text.specs.Numerals.{decimal_five}
use Rattle.text.specs.WrittenLines.{small, line_back, line_small}
use Rattle.laws.specs.Padded.{pad_take}

-- the lines put together again
unfoldable pub joined : List (List ℕ) → List ℕ
joined [] = []
joined (l ∷ ls) = l ++ joined ls

-- every line of a text ends where the next begins
unfoldable pub each_line : List (List ℕ) → Type 0
each_line [] = Unit {0}
each_line (l ∷ ls) = (line l ≡ l) × each_line ls

onto_joined : (x : Bool) (b : ℕ) (ls : List (List ℕ)) → joined (cond x ((b ∷ []) ∷ ls) (onto b ls)) ≡ b ∷ joined ls
unfolding joined
onto_joined true b ls = refl
onto_joined false b [] = refl
onto_joined false b (l ∷ ls) = refl

pub lines_joined : (s : List ℕ) → joined (lines s) ≡ s
unfolding joined lines
lines_joined [] = refl
lines_joined (b ∷ s) = onto_joined (b == 10) b (lines s) ∙ ap (λ (l : List ℕ). b ∷ l) (lines_joined s)

onto_each : (b : ℕ) (ls : List (List ℕ)) (x : Bool) → (b == 10) ≡ x → each_line ls → each_line (cond x ((b ∷ []) ∷ ls) (onto b ls))
unfolding each_line line
onto_each b ls true e h = (rw e, h)
onto_each b [] false e h = (rw e, tt)
onto_each b (l ∷ ls) false e h = (rw (e, h.0), h.1)

pub lines_each : (s : List ℕ) → each_line (lines s)
unfolding each_line lines
lines_each [] = tt
lines_each (b ∷ s) = onto_each b (lines s) (b == 10) refl (lines_each s)

-- a set in which a flow more has its place
pub record RoomForFlows (t : FlowSet) : Type 0 where
  pub long : length t.flows ≡ most_flows
  pub few : t.count ≤ most_flows

pub room_with : (t : FlowSet) (f : Flow) → RoomForFlows t → t.count < most_flows → RoomForFlows (with_flow t f)
unfolding with_flow
room_with t f r h = record { long = length-set t.flows t.count f ∙ r.long; few = omega arith }

-- one flow more
pub used_with : (t : FlowSet) (f : Flow) → RoomForFlows t → t.count < most_flows → (used (with_flow t f)).flows ≡ (used t).flows ++ (exact f ∷ [])
unfolding with_flow used
used_with t f r h =
    rw (add-one, take-suc-set t.flows t.count f (omega (arith, r.long))) (map_append (take t.count t.flows))
  where
    map_append : (l : List Flow) → map exact (l ++ (f ∷ [])) ≡ map exact l ++ (exact f ∷ [])
    map_append [] = refl
    map_append (g ∷ l) = ap (λ (m : List Flow). exact g ∷ m) (map_append l)

lines_with_law : (a : List Flow) (f : Flow) → flow_lines (a ++ (f ∷ [])) ≡ flow_lines a ++ line_of flow_word (flow_numbers f)
unfolding flow_lines
lines_with_law [] f = append-nil (line_of flow_word (flow_numbers f))
lines_with_law (g ∷ a) f = rw (lines_with_law a f, append_assoc)

text_with : (t : FlowSet) (f : Flow) → RoomForFlows t → t.count < most_flows
    → text_of (used (with_flow t f)) ≡ text_of (used t) ++ line_of flow_word (flow_numbers (exact f))
unfolding text_of used with_flow
text_with t f r h =
    ap (λ (l : List Flow). line_of set_word (t.map.0 ∷ []) ++ flow_lines l) (used_with t f r h)
    ∙ ap (λ (l : List ℕ). line_of set_word (t.map.0 ∷ []) ++ l) (lines_with_law (map exact (take t.count t.flows)) (exact f))
    ∙ sym (append_assoc (line_of set_word (t.map.0 ∷ [])) (flow_lines (map exact (take t.count t.flows))) (line_of flow_word (flow_numbers (exact f))))

-- the numbers of a line that a flow was read from
flow_back : (vs : List ℕ) → 4 ≤ length vs → length vs ≤ 4 + most_nodes → flow_numbers (exact (flow_of vs)) ≡ vs
unfolding flow_of
flow_back [] h k = absurd (omega arith)
flow_back (a ∷ []) h k = absurd (omega arith)
flow_back (a ∷ b ∷ []) h k = absurd (omega arith)
flow_back (a ∷ b ∷ c ∷ []) h k = absurd (omega arith)
flow_back (a ∷ b ∷ c ∷ d ∷ r) h k =
    let z : length (a ∷ b ∷ c ∷ d ∷ r) - 4 ≡ length r = omega arith in
    ap (λ (n : ℕ). a ∷ b ∷ c ∷ d ∷ take n (pad most_nodes r)) z ∙ ap (λ (l : List ℕ). a ∷ b ∷ c ∷ d ∷ l) (pad_take most_nodes r (omega arith))

-- a reading without a fault has passed each line
flow_passed : (t : FlowSet) (l : List ℕ) (ls : List (List ℕ)) → good (read_flows t (l ∷ ls)).fault.refusal ≡ true → good (flow_line_fault t.count l) ≡ true
flow_passed t l ls h = go (good (flow_line_fault t.count l)) refl
  where
    go : (b : Bool) → good (flow_line_fault t.count l) ≡ b → b ≡ true
    go true e = refl
    go false e = sym e ∙ subst (λ (r : Reading). good r.fault.refusal ≡ true) (read_bad t l ls e) h

pub first_passed : (l : List ℕ) (ls : List (List ℕ)) → good (read_lines (l ∷ ls)).fault.refusal ≡ true → good (first_line_fault l) ≡ true
first_passed l ls h = go (good (first_line_fault l)) refl
  where
    go : (b : Bool) → good (first_line_fault l) ≡ b → b ≡ true
    go true e = refl
    go false e = sym e ∙ subst (λ (r : Reading). good r.fault.refusal ≡ true) (first_bad_law l ls e) h

pub one_number : (l : List ℕ) → good (first_line_fault l) ≡ true → numbers_of l ≡ slice_index (numbers_of l) 0 ∷ []
unfolding first_line_fault
one_number l h =
    let p = (formed_first (well_formed set_word l && length (numbers_of l) == 1) _ h).0 in
    single (numbers_of l) (eqb-true (length (numbers_of l)) 1 (and_r (well_formed set_word l) _ p))
  where
    single : (vs : List ℕ) → length vs ≡ 1 → vs ≡ slice_index vs 0 ∷ []
    single [] h = absurd (omega arith)
    single (v ∷ []) h = refl
    single (v ∷ w ∷ vs) h = absurd (omega arith)

-- flows that are read are written again as the lines that they were read from
flows_again : (ls : List (List ℕ)) (t : FlowSet) → each_line ls → RoomForFlows t → good (read_flows t ls).fault.refusal ≡ true
    → text_of (used (read_flows t ls).set) ≡ text_of (used t) ++ joined ls
unfolding read_flows joined each_line
flows_again [] t e r h = sym (append-nil (text_of (used t)))
flows_again (l ∷ ls) t e r h =
    let p = flow_passed t l ls h in
    let q = read_good t l ls p in
    let g = good_line t.count l p in
    let vs = numbers_of l in
    ap (λ (x : Reading). text_of (used x.set)) q
    ∙ flows_again ls (with_flow t (flow_of vs)) e.1 (room_with t (flow_of vs) r g.fits) (subst (λ (x : Reading). good x.fault.refusal ≡ true) q h)
    ∙ ap (λ (x : List ℕ). x ++ joined ls)
    (text_with t (flow_of vs) r g.fits
    ∙ ap (λ (n : List ℕ). text_of (used t) ++ line_of flow_word n) (flow_back vs g.four g.few)
    ∙ ap (λ (x : List ℕ). text_of (used t) ++ x) (sym (line_back flow_word l g.formed) ∙ e.0))
    ∙ append_assoc (text_of (used t)) l (joined ls)

set_again : (l : List ℕ) → line l ≡ l → good (first_line_fault l) ≡ true → text_of (used (set_of l)) ≡ l
unfolding text_of used set_of flow_lines
set_again l e h =
    append-nil (line_of set_word (slice_index (numbers_of l) 0 ∷ []))
    ∙ ap (line_of set_word) (sym (one_number l h))
    ∙ sym (line_back set_word l (first_formed l h))
    ∙ e

pub room_first : (l : List ℕ) → RoomForFlows (set_of l)
unfolding set_of
room_first l = record { long = refl; few = zero-le }

lines_again : (ls : List (List ℕ)) → each_line ls → good (read_lines ls).fault.refusal ≡ true → text_of (used (read_lines ls).set) ≡ joined ls
unfolding read_lines joined each_line
lines_again [] e h = absurd (false≢true h)
lines_again (l ∷ ls) e h =
    let p = first_passed l ls h in
    let q = first_good l ls p in
    ap (λ (x : Reading). text_of (used x.set)) q
    ∙ flows_again ls (set_of l) e.1 (room_first l) (subst (λ (x : Reading). good x.fault.refusal ≡ true) q h)
    ∙ ap (λ (x : List ℕ). x ++ joined ls) (set_again l e.0 p)

-- every accepted text, read and written again, has the same bytes
pub read_written : (s : List ℕ) → good (read_text s).fault.refusal ≡ true → text_of (used (read_text s).set) ≡ s
unfolding read_text
read_written s h = lines_again (lines s) (lines_each s) h ∙ lines_joined s

-- how long a line can be
field_size : (v : ℕ) (vs : List ℕ) → length (fields_of (v ∷ vs)) ≡ suc (length (decimal v) + length (fields_of vs))
unfolding fields_of
field_size v vs = ap suc (length-append (decimal v) (fields_of vs))

small_head : (v : ℕ) (vs : List ℕ) → small (v ∷ vs) ≡ true → (length (decimal v) ≤ 5) × (small vs ≡ true)
unfolding small
small_head v vs h = (decimal_five v (leb-true v 65535 (and_l (nat_le v 65535) (small vs) h)), and_r (nat_le v 65535) (small vs) h)

pub fields_size : (vs : List ℕ) → small vs ≡ true → length (fields_of vs) ≤ 6 * length vs
unfolding fields_of
fields_size [] h = zero-le
fields_size (v ∷ vs) h = let a = small_head v vs h in omega (arith, field_size v vs, fields_size vs a.1)

pub line_length_law : (w vs : List ℕ) → length (line_of w vs) ≡ length w + length (fields_of vs) + 1
line_length_law w vs = ap length (sym (line_parts w vs)) ∙ length-append (w ++ fields_of vs) (10 ∷ []) ∙ rw (length-append w (fields_of vs))

flow_size : (vs : List ℕ) → small vs ≡ true → 4 ≤ length vs → length vs ≤ 4 + most_nodes → slice_index vs 3 < 10 → length (fields_of vs) ≤ 122
flow_size [] s h k t = absurd (omega arith)
flow_size (a ∷ []) s h k t = absurd (omega arith)
flow_size (a ∷ b ∷ []) s h k t = absurd (omega arith)
flow_size (a ∷ b ∷ c ∷ []) s h k t = absurd (omega arith)
flow_size (a ∷ b ∷ c ∷ d ∷ r) s h k t =
    let sa = small_head a (b ∷ c ∷ d ∷ r) s in
    let sb = small_head b (c ∷ d ∷ r) sa.1 in
    let sc = small_head c (d ∷ r) sb.1 in
    let sd = small_head d r sc.1 in
    omega (
      arith,
      field_size a (b ∷ c ∷ d ∷ r),
      field_size b (c ∷ d ∷ r),
      field_size c (d ∷ r),
      field_size d r,
      ap length (decimal_one d t),
      fields_size r sd.1,
    )

-- a flow's line has at most 127 bytes, and there are at most 64
pub flows_length : (ls : List (List ℕ)) (t : FlowSet) → each_line ls → t.count ≤ most_flows → good (read_flows t ls).fault.refusal ≡ true
    → length (joined ls) + 127 * t.count ≤ 127 * most_flows
unfolding joined each_line with_flow
flows_length [] t e r h = omega arith
flows_length (l ∷ ls) t e r h =
    let p = flow_passed t l ls h in
    let q = read_good t l ls p in
    let g = good_line t.count l p in
    let vs = numbers_of l in
    let i = flows_length ls (with_flow t (flow_of vs)) e.1 (omega (arith, g.fits)) (subst (λ (x : Reading). good x.fault.refusal ≡ true) q h) in
    omega (
      arith,
      i,
      length-append l (joined ls),
      ap length (sym e.0 ∙ line_back flow_word l g.formed),
      line_length_law flow_word vs,
      flow_size vs (line_small flow_word l g.formed) g.four g.few (omega (arith, g.flow.tries_le)),
    )

-- the set's line and 64 flows' lines, each as long as it can be: 10 + 64 · 127
abbrev pub longest_text : ℕ
longest_text = 8138
