-- One round: a turn of its loop is one entry's replacement. The list v is kept as its slack, D − v entry by entry.
use Rattle.std.specs.Prelude.{◌≡◌, refl, Bool, true, false, not, length}
use Rattle.std.proofs.Common.{sym, ◌∙◌, length-set, le_trans, le_of_eq, le_refl, arith, ext_get_or, get_or-set_same, get_or-set_other}
use Rattle.std.proofs.Math.Path.{ap, ap₂}
use mathlib.Core.List.{List}
use Prim.Native.Nat.{ℕ, ◌+◌, ◌-◌, ◌≤◌, ◌<◌, min}
use Rattle.std.proofs.Math.ListN.{get_or, set}
use Rattle.model.specs.declared.kinds.FlowSet.{FlowSet}
use Rattle.model.specs.Sets.{list_to}
use Rattle.document.specs.Text.{same}
use Rattle.document.specs.Delay.{ways, round_of, value_at, lowered, round_to}
use Rattle.laws.specs.Rounds.{same_eq, same_refl}
use Rattle.delay.specs.DelayTables.{TablesHold}
use Rattle.delay.specs.declared.tables.Tables.{Tables}
use Rattle.model.specs.Limits.{most_flows}
use Rattle.std.proofs.Math.Numerals.{add-one}
use Rattle.std.proofs.Math.Decide.{ℕ_discrete}
use Rattle.laws.specs.Values.{list_length, list_entry}
use Rattle.delay.specs.EquationValues.{table_value, value_carried}

-- the list whose entries are so far below D
abbrev pub list_of_slack : List ℕ → List ℕ → ℕ → List ℕ
list_of_slack d g n = list_to (λ l. get_or d l 0 - get_or g l 0) n

-- and none of them is below D by more than D
abbrev pub SlackWithin : List ℕ → List ℕ → ℕ → Type 0
SlackWithin d g n = (l : ℕ) → l < n → get_or g l 0 ≤ get_or d l 0

-- w is v after a round, and the flag says whether that changed it
pub record RoundDone (s : FlowSet) (v w : List ℕ) (changed : Bool) : Type 0 where
  pub list : w ≡ round_of s v
  pub flag : same w v ≡ not changed

-- the set whose tables these are, with n flows and m channels
pub record SetOfTables (s : FlowSet) (t : Tables) (n m : ℕ) : Type 0 where
  pub tables : TablesHold s t
  pub count : s.count ≡ n
  pub channels : ways s ≡ m
  pub most : n ≤ most_flows

-- a round of that set
abbrev pub RoundFor : Tables → ℕ → ℕ → List ℕ → List ℕ → Bool → Type 0
RoundFor t n m g h changed = (s : FlowSet) → SetOfTables s t n m → RoundDone s (list_of_slack t.numbers.deadline g n) (list_of_slack t.numbers.deadline h n) changed

-- whether an entry before k has moved from g to h
abbrev pub EntryMoved : Bool → List ℕ → List ℕ → List ℕ → ℕ → Type 0
EntryMoved true d g h k = (i : ℕ) × (i < k) × (get_or d i 0 - get_or h i 0 < get_or d i 0 - get_or g i 0)
EntryMoved false d g h k = g ≡ h

-- lists that differ at a place are not the same
pub same_not : (u v : List ℕ) (i : ℕ) → (get_or u i 0 ≡ get_or v i 0 → ⊥) → same u v ≡ false
same_not u v i n = go (same u v) refl
  where
    go : (b : Bool) → same u v ≡ b → b ≡ false
    go false e = refl
    go true e = absurd (n (ap (λ (l : List ℕ). get_or l i 0) (same_eq u v e)))

-- an entry set anew
set_entry : (u : List ℕ) (k x i : ℕ) → k < length u → i ≡ k → get_or (set u k x) i 0 ≡ x
set_entry u k x i h e = rw e (get_or-set_same u k x 0 h)

set_own : (u : List ℕ) (k x : ℕ) → k < length u → x ≡ get_or u k 0 → set u k x ≡ u
set_own u k x h e =
    ext_get_or 0 (set u k x) u (length-set u k x)
    (λ i l. elim (ℕ_discrete i k) [
      | yes q ↦ set_entry u k x i h q ∙ e ∙ ap (λ (j : ℕ). get_or u j 0) (sym q)
      | no q ↦ get_or-set_other u k i x 0 q
    ])

-- the list whose entries are so far below D, with one of them set anew
left_set : (d g : List ℕ) (n k y : ℕ) → k < n → k < length g → list_of_slack d (set g k y) n ≡ set (list_of_slack d g n) k (get_or d k 0 - y)
left_set d g n k y h l =
    let u = list_of_slack d g n in
    let w = list_length (λ i. get_or d i 0 - get_or g i 0) n in
    let z = list_length (λ i. get_or d i 0 - get_or (set g k y) i 0) n in
    ext_get_or 0 (list_of_slack d (set g k y) n) (set u k (get_or d k 0 - y)) (z ∙ sym (length-set u k (get_or d k 0 - y) ∙ w))
    (λ i j. let a : i < n = omega arith in
    list_entry (λ i. get_or d i 0 - get_or (set g k y) i 0) n i a ∙ elim (ℕ_discrete i k) [
      | yes q ↦ ap₂ (λ (a b : ℕ). a - b) (ap (λ (e : ℕ). get_or d e 0) q) (set_entry g k y i l q) ∙ sym (set_entry u k (get_or d k 0 - y) i (omega arith) q)
      | no q ↦
          ap (λ (b : ℕ). get_or d i 0 - b) (get_or-set_other g k i y 0 q)
          ∙ sym (get_or-set_other u k i (get_or d k 0 - y) 0 q ∙ list_entry (λ i. get_or d i 0 - get_or g i 0) n i a)
    ])

-- whether an entry has moved
entry_moved_more : (b : Bool) (d g h : List ℕ) (k : ℕ) → EntryMoved b d g h k → EntryMoved b d g h (k + 1)
entry_moved_more true d g h k o = (o.0, omega arith, o.2)
entry_moved_more false d g h k o = o

entry_moved_flag : (b : Bool) (d g h : List ℕ) (n : ℕ) → EntryMoved b d g h n → same (list_of_slack d h n) (list_of_slack d g n) ≡ not b
entry_moved_flag true d g h n o =
    let i = o.0 in
    let x = list_entry (λ l. get_or d l 0 - get_or h l 0) n i o.1 in
    let y = list_entry (λ l. get_or d l 0 - get_or g l 0) n i o.1 in
    let z = o.2 in
    same_not (list_of_slack d h n) (list_of_slack d g n) i (λ e. omega arith)
entry_moved_flag false d g h n o = rw o (same_refl (list_of_slack d h n))

-- a round from g, which has come to flow k and to h
pub record RoundUnderway (t : Tables) (n m : ℕ) (g h : List ℕ) (k : ℕ) (b : Bool) : Type 0 where
  pub whole : length h ≡ most_flows
  pub below : SlackWithin t.numbers.deadline h n
  pub later : (i : ℕ) → k ≤ i → get_or h i 0 ≡ get_or g i 0
  pub moved : EntryMoved b t.numbers.deadline g h k
  pub list : (s : FlowSet) → SetOfTables s t n m → list_of_slack t.numbers.deadline h n ≡ round_to s (list_of_slack t.numbers.deadline g n) k

pub underway_start : (t : Tables) (n m : ℕ) (g : List ℕ) → length g ≡ most_flows → SlackWithin t.numbers.deadline g n → RoundUnderway t n m g g 0 false
unfolding round_to
underway_start t n m g w b = record { whole = w; below = b; later = λ i l. refl; moved = refl; list = λ s j. refl }

pub underway_done : (t : Tables) (n m : ℕ) (g h : List ℕ) (b : Bool) → RoundUnderway t n m g h n b → RoundFor t n m g h b
underway_done t n m g h b o s j =
    record {
      list = o.list s j ∙ ap (λ (x : ℕ). round_to s (list_of_slack t.numbers.deadline g n) x) (sym j.count);
      flag = entry_moved_flag b t.numbers.deadline g h n o.moved;
    }

module _ (t : Tables) (n m : ℕ) (g h : List ℕ) (k : ℕ) (b : Bool) (o : RoundUnderway t n m g h k b)
    (l : k < n) (most : n ≤ most_flows) (x : ℕ) (e : x ≡ table_value t m h k) where
  abbrev d : List ℕ
  d = t.numbers.deadline

  abbrev u : List ℕ
  u = list_of_slack d h n

  -- the definition's step, with the value read off the tables
  step : (s : FlowSet) → SetOfTables s t n m → (y : ℕ) → y ≡ min (get_or d k 0 - get_or h k 0) x → set u k y ≡ round_to s (list_of_slack d g n) (k + 1)
  unfolding round_to lowered
  step s j y q =
      let c = j.count in
      let a : table_value t m h k ≡ value_at s u k =
      ap (λ (z : ℕ). table_value t z h k) (sym j.channels)
      ∙ value_carried s (rw c most) t j.tables h k (rw c l) u
      (λ i p.
      let r : i < n = rw (← c) p in
      let f = list_entry (λ z. get_or d z 0 - get_or h z 0) n i r in
      let v = j.tables.numbers.deadlines.entry i p in
      let z = o.below i r in
      omega arith) in
      let f = list_entry (λ z. get_or d z 0 - get_or h z 0) n k l in
      ap (λ (z : ℕ). set u k z) (q ∙ ap₂ (λ (z w : ℕ). min z w) (sym f) (e ∙ a)) ∙ ap (λ (w : List ℕ). lowered s w k) (o.list s j) ∙ rw add-one

  pub underway_stays : get_or d k 0 - x ≤ get_or g k 0 → RoundUnderway t n m g h (k + 1) b
  underway_stays i =
      let z = o.later k (le_refl k) in
      let f = list_entry (λ z. get_or d z 0 - get_or h z 0) n k l in
      let w = list_length (λ z. get_or d z 0 - get_or h z 0) n in
      record {
        whole = o.whole;
        below = o.below;
        later = λ j q. o.later j (omega arith);
        moved = entry_moved_more b d g h k o.moved;
        list = λ s j. sym (set_own u k (get_or d k 0 - get_or h k 0) (omega arith) (sym f)) ∙ step s j (get_or d k 0 - get_or h k 0) (omega arith);
      }

  pub underway_falls : get_or g k 0 < get_or d k 0 - x → RoundUnderway t n m g (set h k (get_or d k 0 - x)) (k + 1) true
  underway_falls i =
      let w = o.whole in
      let y = get_or d k 0 - x in
      let a : k < length h = omega arith in
      let own = get_or-set_same h k y 0 a in
      let z = o.later k (le_refl k) in
      record {
        whole = length-set h k y ∙ w;
        below = λ j q. elim (ℕ_discrete j k) [
          | yes p ↦ let c = set_entry h k y j a p in let r = ap (λ (v : ℕ). get_or d v 0) p in omega arith
          | no p ↦ le_trans (le_of_eq (get_or-set_other h k j y 0 p)) (o.below j q)
        ];
        later = λ j q. get_or-set_other h k j y 0 (λ p. omega arith) ∙ o.later j (omega arith);
        moved = (k, omega arith, omega arith);
        list = λ s j. left_set d h n k y l a ∙ step s j (get_or d k 0 - y) (omega arith);
      }
