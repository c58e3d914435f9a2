-- A row says of its line what the definitions say of the line itself, so one pass over rows gives the reader's answer.
use Rattle.std.specs.Prelude.{◌≡◌, ℕ, suc, ◌+◌, ◌-◌, ◌<◌, ◌≤◌, Bool, true, false, cond, ◌&&◌, ◌||◌, List, [], ◌∷◌, length, take, drop, ◌==◌, nat_le, nat_lt, slice_index, slice_set, Option, Some, None, Result, Ok, Err, refl}
use Rattle.std.proofs.Math.Path.{sym, ap}
use Rattle.std.proofs.Common.{subst, ◌∙◌, arith, length-drop, drop_of_length-le, drop-cons, leb-true, lt-ltb}
use Rattle.std.proofs.Math.Bool.{or-true}
use Rattle.std.proofs.lemmas.Bool.{false≢true}
use Rattle.std.proofs.Math.Decide.{dec_le}
use Rattle.std.proofs.Math.ListN.{length-set}
use Rattle.model.specs.declared.kinds.ChannelMap.{ChannelMap}
use Rattle.model.specs.declared.kinds.Flow.{Flow}
use Rattle.model.specs.declared.kinds.FlowSet.{FlowSet}
use Rattle.model.specs.declared.answers.Reading.{Reading}
use Rattle.model.specs.declared.answers.Fault.{Fault}
use Rattle.model.specs.declared.answers.Refusal.{Refusal}
use Rattle.model.specs.declared.answers.Refusal.TheVariants.{BadForm, TooManyFlows, BadPeriod, BadDeadline, BadTries, BadRoute}
use Rattle.model.specs.Limits.{most_flows, most_nodes}
use Rattle.model.specs.Refusals.{good, fault_in}
use Rattle.document.specs.BadField.{breaks_flow, bad_field, field_of}
use Rattle.document.specs.Reader.{repeat_at, flow_fault, pad, flow_of, with_flow, flow_line_fault, flow_line_field, accepted, read_flows}
use Rattle.model.specs.Sets.{blank_set}
use Rattle.document.specs.Text.{flow_word, lines, well_formed, numbers_of}
use Rattle.laws.specs.LinesRead.{read_good, read_bad}
use Rattle.laws.specs.Accepted.{GoodFlow, good_flow}
use Rattle.laws.specs.SumLaws.{and_l, and_r}
use Rattle.text.specs.declared.line.Row.{Row}
use Rattle.text.specs.Row.{most_numbers, row_if, row_in}
use Rattle.text.specs.Places.{line, after}
use Rattle.text.specs.Fields.{lines_line, fields_line, formed_line, numbers_line, drop_line}
use Rattle.text.specs.RowFaults.{nodes_of, flow_row_fault, row_repeat}
use Rattle.text.specs.PaddedEntries.{pad_at, pad_drop}
use Rattle.text.specs.RowFaults.{flow_of_row, set_with, row_or, flow_row_refused, flow_read}
use Rattle.laws.specs.Padded.{pad_take}

-- rule 7 refuses a route of more than 17 nodes, whatever they are
pub route_beyond : (k t d c n : ℕ) (r q : List ℕ) → most_nodes < n → flow_fault k t d c n r ≡ flow_fault k t d c n q
unfolding flow_fault
route_beyond k t d c n r q h = rw (lt-ltb most_nodes n h, or-true (nat_lt n 2))

-- so that no node's field is named
field_beyond : (k t d c n : ℕ) (r : List ℕ) (bad e q : ℕ) → most_nodes < n → field_of (flow_fault k t d c n r) bad e ≡ field_of (flow_fault k t d c n r) bad q
unfolding flow_fault
field_beyond k t d c n r bad e q h =
    rw (lt-ltb most_nodes n h, or-true (nat_lt n 2)) (go (nat_le most_flows k) (t == 0) (d == 0 || nat_lt t d) (c == 0 || nat_lt 4 c))
  where
    go : (w x y z : Bool) → field_of (cond w TooManyFlows (cond x BadPeriod (cond y BadDeadline (cond z BadTries BadRoute)))) bad e
        ≡ field_of (cond w TooManyFlows (cond x BadPeriod (cond y BadDeadline (cond z BadTries BadRoute)))) bad q
    go true x y z = refl
    go false true y z = refl
    go false false true z = refl
    go false false false true = refl
    go false false false false = refl

-- as far as the array holds them a row's nodes are the line's
nodes_kept : (vs : List ℕ) → length vs - 4 ≤ most_nodes → take (length vs - 4) (nodes_of (pad most_numbers vs)) ≡ drop 4 vs
nodes_kept vs h = ap (take (length vs - 4)) (pad_drop 4 most_nodes vs) ∙ go (length vs - 4) (sym (length-drop 4 vs)) h
  where
    go : (n : ℕ) → n ≡ length (drop 4 vs) → n ≤ most_nodes → take n (pad most_nodes (drop 4 vs)) ≡ drop 4 vs
    go n e h = rw e (pad_take most_nodes (drop 4 vs) (omega arith))

pub nodes_fault : (k t d c : ℕ) (vs : List ℕ)
    → flow_fault k t d c (length vs - 4) (take (length vs - 4) (nodes_of (pad most_numbers vs))) ≡ flow_fault k t d c (length vs - 4) (drop 4 vs)
nodes_fault k t d c vs =
    elim (dec_le (length vs - 4) most_nodes) [
      | yes h ↦ ap (flow_fault k t d c (length vs - 4)) (nodes_kept vs h)
      | no h ↦ route_beyond k t d c (length vs - 4) _ _ (omega arith)
    ]

nodes_field_law : (k t d c : ℕ) (r : List ℕ) (bad : ℕ) (vs : List ℕ)
    → field_of (flow_fault k t d c (length vs - 4) r) bad (repeat_at (take (length vs - 4) (nodes_of (pad most_numbers vs))))
    ≡ field_of (flow_fault k t d c (length vs - 4) r) bad (repeat_at (drop 4 vs))
nodes_field_law k t d c r bad vs =
    elim (dec_le (length vs - 4) most_nodes) [
      | yes h ↦ ap (λ (q : List ℕ). field_of (flow_fault k t d c (length vs - 4) r) bad (repeat_at q)) (nodes_kept vs h)
      | no h ↦ field_beyond k t d c (length vs - 4) r bad _ _ (omega arith)
    ]

pub flow_judged : (k from : ℕ) (t : List ℕ) → flow_row_fault k (row_in flow_word from t) ≡ flow_line_fault k (line t)
unfolding row_in flow_line_fault
flow_judged k from t = rw (formed_line flow_word t, numbers_line t) (go (well_formed flow_word t) (numbers_of t) refl)
  where
    go : (b : Bool) (vs : List ℕ) → numbers_of t ≡ vs → flow_row_fault k (row_if b from t)
        ≡ cond (b && nat_le 4 (length vs)) (flow_fault k (slice_index vs 0) (slice_index vs 1) (slice_index vs 3) (length vs - 4) (drop 4 vs)) BadForm
    go true vs e =
        rw (
          e,
          pad_at most_numbers vs 0 (omega arith),
          pad_at most_numbers vs 1 (omega arith),
          pad_at most_numbers vs 3 (omega arith),
          nodes_fault k (slice_index vs 0) (slice_index vs 1) (slice_index vs 3) vs,
        )
    go false vs e = refl

-- and its field
pub flow_field : (k from : ℕ) (t : List ℕ)
    → field_of (flow_row_fault k (row_in flow_word from t)) (bad_field breaks_flow t) (row_repeat (row_in flow_word from t)) ≡ flow_line_field k (line t)
unfolding flow_line_field row_in
flow_field k from t = rw (← flow_judged k from t, fields_line t, numbers_line t) (go (well_formed flow_word t))
  where
    bad : ℕ
    bad = bad_field breaks_flow t

    part : (b : Bool) (x : Refusal) (e q : ℕ) → field_of x bad e ≡ field_of x bad q → field_of (cond b x BadForm) bad e ≡ field_of (cond b x BadForm) bad q
    part true x e q h = h
    part false x e q h = refl

    go : (b : Bool) → field_of (flow_row_fault k (row_if b from t)) bad (row_repeat (row_if b from t))
        ≡ field_of (flow_row_fault k (row_if b from t)) bad (repeat_at (drop 4 (numbers_of t)))
    go true = part (nat_le 4 (length (numbers_of t))) _ _ _ (nodes_field_law k _ _ _ _ bad (numbers_of t))
    go false = refl

-- the flow that a line's numbers are judged as
abbrev pub judged_flow : List ℕ → Flow
judged_flow vs =
    record {
      period = record { 0 = slice_index vs 0 };
      deadline = record { 0 = slice_index vs 1 };
      start = slice_index vs 2;
      tries = slice_index vs 3;
      nodes = length vs - 4;
      route = drop 4 vs;
    }

-- what a flow's line has that no rule refuses
pub record GoodLine (k : ℕ) (l : List ℕ) : Type 0 where
  pub formed : well_formed flow_word l ≡ true
  pub four : 4 ≤ length (numbers_of l)
  pub fits : k < most_flows
  pub few : length (numbers_of l) ≤ most_numbers
  pub flow : GoodFlow (judged_flow (numbers_of l))

pub formed_first : (b : Bool) (x : Refusal) → good (cond b x BadForm) ≡ true → (b ≡ true) × (good x ≡ true)
formed_first true x h = (refl, h)
formed_first false x h = absurd (false≢true h)

pub good_line : (k : ℕ) (l : List ℕ) → good (flow_line_fault k l) ≡ true → GoodLine k l
unfolding flow_line_fault
good_line k l h =
    let a = formed_first (well_formed flow_word l && nat_le 4 (length (numbers_of l))) _ h in
    let g = good_flow k (judged_flow (numbers_of l)) a.1 in
    let f = leb-true 4 (length (numbers_of l)) (and_r (well_formed flow_word l) _ a.0) in
    record {
      formed = and_l (well_formed flow_word l) _ a.0;
      four = f;
      fits = g.0;
      few = omega (arith, g.1.nodes_le);
      flow = g.1;
    }

-- and its row
pub row_formed_law : (w : List ℕ) (at : ℕ) (t : List ℕ) → well_formed w t ≡ true → row_in w at t ≡ row_if true at t
unfolding row_in
row_formed_law w at t h = rw h

pub same_row : {a b : Row} → Some a ≡ Some b → b ≡ a
same_row h = (cc)

pub record GoodRow (k : ℕ) (t : List ℕ) (r : Row) (at : ℕ) : Type 0 where
  pub fits : k < most_flows
  pub four : 4 ≤ r.count
  pub few : r.count ≤ most_numbers
  pub place : r.next ≡ at + length (line t)
  pub flow : flow_of_row r ≡ flow_of (numbers_of t)

pub good_row : (k at : ℕ) (t : List ℕ) (w : Row) → row_in flow_word at t ≡ Some w → good (flow_row_fault k (Some w)) ≡ true → GoodRow k t w at
unfolding flow_of
good_row k at t w q h =
    let g = good_line k (line t) (subst (λ (x : Refusal). good x ≡ true) (ap (flow_row_fault k) (sym q) ∙ flow_judged k at t) h) in
    let n = ap length (numbers_line t) in
    let vs = numbers_of t in
    let e : Some w ≡ row_if true at t = sym q ∙ row_formed_law flow_word at t (sym (formed_line flow_word t) ∙ g.formed) in
    subst (λ (r : Row). GoodRow k t r at) (same_row e)
    record {
      fits = g.fits;
      four = omega (arith, g.four);
      few = omega (arith, g.few);
      place = refl;
      flow =
          rw (
            pad_at most_numbers vs 0 (omega arith),
            pad_at most_numbers vs 1 (omega arith),
            pad_at most_numbers vs 2 (omega arith),
            pad_at most_numbers vs 3 (omega arith),
            pad_drop 4 most_nodes vs,
          );
    }

-- a line that is not empty
pub line_one : (t : List ℕ) → 0 < length t → 0 < length (line t)
unfolding line
line_one [] h = h
line_one (b ∷ t) h = omega arith

-- the reading that has come to this place with k flows; r is the whole answer
pub record Lines (s : List ℕ) (r : Reading) (at k : ℕ) (t : FlowSet) : Type 0 where
  pub many : t.count ≡ k
  pub few : k ≤ most_flows
  pub long : length t.flows ≡ most_flows
  pub left : r ≡ read_flows t (lines (drop at s))

pub lines_start : (s : List ℕ) (from m : ℕ) (b : FlowSet) → b ≡ blank_set → (c : ChannelMap) → c.0 ≡ m
    → Lines s (read_flows (set_with m) (lines (drop from s))) from 0 record { map = c; count = b.count; flows = b.flows }
lines_start s from m b e c h =
    subst (λ (n : ℕ). Lines s (read_flows (set_with n) (lines (drop from s))) from 0 record { map = c; count = b.count; flows = b.flows }) h
    (start s from c.0 b e)
  where
    start : (s : List ℕ) (from m : ℕ) (b : FlowSet) → b ≡ blank_set
        → Lines s (read_flows (set_with m) (lines (drop from s))) from 0 record { map = record { 0 = m }; count = b.count; flows = b.flows }
    start s from m b e =
        let r = read_flows (set_with m) (lines (drop from s)) in
        subst (λ (t : FlowSet). Lines s r from 0 record { map = record { 0 = m }; count = t.count; flows = t.flows }) (sym e)
        record { many = refl; few = omega arith; long = refl; left = refl }

module _ (s : List ℕ) (r : Reading) (at k : ℕ) (t : FlowSet) (inv : Lines s r at k t) where
  pub lines_done : length s ≤ at → accepted t ≡ r
  unfolding lines read_flows
  lines_done h = sym (inv.left ∙ ap (λ (u : List ℕ). read_flows t (lines u)) (drop_of_length-le s h))

-- the row that there is and is good, or the error
pub row_ok : {E : Type 0} (b : Bool) (e : E) (o : Option Row) (w : Row) → Ok w ≡ row_or b e o → (o ≡ Some w) × (b ≡ true)
row_ok true e (Some r) w h = ((cc), refl)
row_ok false e (Some r) w h = absurd (cc)
row_ok b e None w h = absurd (cc)

pub row_err : {E : Type 0} (b : Bool) (e : E) (o : Option Row) (y : E) → (o ≡ None → b ≡ false) → Err y ≡ row_or b e o → (y ≡ e) × (b ≡ false)
row_err true e (Some r) y n h = absurd (cc)
row_err false e (Some r) y n h = ((cc), refl)
row_err b e None y n h = ((cc), n refl)

-- a line without a row is refused
flow_row_none : (k : ℕ) (o : Option Row) → o ≡ None → good (flow_row_fault k o) ≡ false
flow_row_none k o e = rw e

-- the line of flow number k, whose row o is refused by x
pub flow_line_bad : (k at : ℕ) (t : List ℕ) (o : Option Row) (x : Refusal) → o ≡ row_in flow_word at t
    → Err x ≡ row_or (good (flow_row_fault k o)) (flow_row_fault k o) o
    → (f : ℕ) → f ≡ field_of x (bad_field breaks_flow t) (row_repeat o) → Err (fault_in x (k + 2) f) ≡ flow_read k at t
flow_line_bad k at t o x e h f q =
    let p = row_err _ _ o x (flow_row_none k o) h in rw (← e, q, p.0) (bad_row o _ _ p.1)
  where
    bad_row : (o : Option Row) (b : Bool) (g : Fault) → b ≡ false → Err g ≡ row_or b g o
    bad_row (Some r) b g h = rw h
    bad_row None b g h = refl

-- the reading at its next line, which is read as x
pub record NextLine (s : List ℕ) (r : Reading) (at k : ℕ) (t : FlowSet) (x : Result Row Fault) : Type 0 where
  pub so_far : Lines s r at k t
  pub inside : at < length s
  pub says : x ≡ flow_read k at (drop at s)

module _ {s : List ℕ} {r : Reading} {at k : ℕ} {t : FlowSet} {x : Result Row Fault} (l : NextLine s r at k t x) where
  next : lines (drop at s) ≡ line (drop at s) ∷ lines (after (drop at s))
  next = rw (drop-cons s at 0 l.inside) (lines_line (slice_index s at) (drop (suc at) s))

  judged : flow_line_fault t.count (line (drop at s)) ≡ flow_row_fault k (row_in flow_word at (drop at s))
  judged = ap (λ (n : ℕ). flow_line_fault n (line (drop at s))) l.so_far.many ∙ sym (flow_judged k at (drop at s))

  field_judged : flow_line_field t.count (line (drop at s)) ≡ (flow_row_refused k (row_in flow_word at (drop at s)) (drop at s)).field
  field_judged = ap (λ (n : ℕ). flow_line_field n (line (drop at s))) l.so_far.many ∙ sym (flow_field k at (drop at s))

  refused : (f : Fault) → x ≡ Err f
      → (f ≡ flow_row_refused k (row_in flow_word at (drop at s)) (drop at s)) × (good (flow_row_fault k (row_in flow_word at (drop at s))) ≡ false)
  refused f e = row_err _ _ (row_in flow_word at (drop at s)) f (flow_row_none k (row_in flow_word at (drop at s))) (sym e ∙ l.says)

  pub lines_refused : (f : Fault) → x ≡ Err f → (b : FlowSet) → b ≡ blank_set → record { fault = f; set = b } ≡ r
  lines_refused f e b v =
      let p = refused f e in
      ap (λ (u : FlowSet). record { fault = f; set = u }) v
      ∙ sym
      (l.so_far.left ∙ ap (read_flows t) next
      ∙ read_bad t (line (drop at s)) _ (ap good judged ∙ p.1)
      ∙ rw (p.0, field_judged, judged, l.so_far.many))

  module _ (w : Row) (e : x ≡ Ok w) where
    row_read : (row_in flow_word at (drop at s) ≡ Some w) × (good (flow_row_fault k (Some w)) ≡ true)
    row_read =
        let p = row_ok _ _ (row_in flow_word at (drop at s)) w (sym e ∙ l.says) in
        (p.0, ap (λ (o : Option Row). good (flow_row_fault k o)) (sym p.0) ∙ p.1)

    pub lines_good : GoodRow k (drop at s) w at
    lines_good = let p = row_read in good_row k at (drop at s) w p.0 p.1

    -- the next line begins further on
    pub lines_on : at < w.next
    lines_on = omega (arith, lines_good.place, line_one (drop at s) (omega (arith, length-drop at s, l.inside)))

    pub lines_more : (f : Flow) → f ≡ flow_of_row w → Lines s r w.next (k + 1) record { map = t.map; count = k + 1; flows = slice_set t.flows k f }
    unfolding with_flow
    lines_more f p =
        let g = lines_good in
        let q = row_read in
        record {
          many = refl;
          few = omega (arith, g.fits);
          long = length-set t.flows k f ∙ l.so_far.long;
          left =
              l.so_far.left ∙ ap (read_flows t) next
              ∙ read_good t (line (drop at s)) _ (ap good (judged ∙ ap (flow_row_fault k) q.0) ∙ q.1)
              ∙ rw (l.so_far.many, numbers_line (drop at s), ← g.flow, ← p, g.place, drop_line s at);
        }
