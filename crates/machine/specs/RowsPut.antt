-- The rows of a run's slots in a lent table: numbers stored from a place on, a slot's rows from its arrays, and the table of the slots so far.
use Rattle.std.specs.Prelude.{◌≡◌, refl, Bool, true, false, cond, List, [], ◌∷◌, ◌++◌, ℕ, zero, suc, ◌+◌, ◌-◌, ◌*◌, ◌≤◌, ◌<◌, length, get_or, take, drop, set}
use Rattle.std.proofs.Common.{sym, ap, ap₂, ◌∙◌, zero-le, add-suc, add-zero, le_refl, suc-add, zero-add, add-one, arith, length-append, length-take-le, lt-length-set, get_or-take, take-suc}
use Rattle.std.proofs.Math.Decide.{dec_le}
use Rattle.std.proofs.lemmas.List.Edits.{sets, sets-eq}
use Rattle.model.specs.declared.kinds.FlowSet.{FlowSet}
use Rattle.model.specs.declared.kinds.Order.{Order}
use Rattle.model.specs.declared.kinds.State.{State}
use Rattle.model.specs.declared.answers.Fault.{Fault}
use Rattle.model.specs.declared.answers.Ran.{Ran}
use Rattle.model.specs.Limits.{most_channels, most_flows}
use Rattle.model.specs.Refusals.{good}
use Rattle.model.specs.Sets.{memb, used}
use Rattle.document.specs.Machine.{Priority, had_at, order_of, placed_with, run_with}
use Rattle.document.specs.Reader.{record_fault}
use Rattle.document.specs.Superframe.{at_start, flat, rows_from, rows_with, rows_to_with}
use Rattle.laws.specs.FlatRows.{flat_append}
use Rattle.laws.specs.Members.{memb_at, memb_head, memb_tail}
use Rattle.laws.specs.Used.{used_count}
use Rattle.machine.specs.LentArrays.{Links, Numbers, PerPlaced, RunArrays}
use Rattle.machine.specs.PacketNumbers.{accepted_count}
use Rattle.machine.specs.PlacedChoice.{placed_ready}
use Rattle.machine.specs.RunSlots.{PlacedIn, state_at}
use Rattle.machine.specs.RunSoFar.{RunSoFar, counts_of}
use Rattle.machine.specs.SlotByColumns.{RanTo}

-- ---- numbers stored from a place on

-- those of two lists, one after the other
pub sets_append : (l : List ℕ) (i : ℕ) (a b : List ℕ) → sets l i (a ++ b) ≡ sets (sets l i a) (i + length a) b
sets_append l i [] b = ap (λ (k : ℕ). sets l k b) (sym (add-zero i))
sets_append l i (x ∷ a) b =
    sets_append (set l i x) (suc i) a b
    ∙ ap (λ (k : ℕ). sets (sets (set l i x) (suc i) a) k b) (suc-add i (length a) ∙ sym (add-suc i (length a)))

-- from the start on: the further numbers stay
pub sets_at_start : (old new : List ℕ) → length new ≤ length old → sets old 0 new ≡ at_start new old
sets_at_start old new h = sets-eq new old 0 (rw zero-add h) ∙ ap (λ (k : ℕ). new ++ drop k old) (zero-add (length new))

-- the four numbers of a row: one that fits still does with its first numbers stored
pub in_row_2 : (l : List ℕ) (i a : ℕ) → i + 4 ≤ length l → i + 1 < length (set l i a)
in_row_2 l i a h = lt-length-set l i a (omega arith)

pub in_row_3 : (l : List ℕ) (i a b : ℕ) → i + 4 ≤ length l → i + 2 < length (set (set l i a) (i + 1) b)
in_row_3 l i a b h = lt-length-set (set l i a) (i + 1) b (lt-length-set l i a (omega arith))

pub in_row_4 : (l : List ℕ) (i a b c : ℕ) → i + 4 ≤ length l → i + 3 < length (set (set (set l i a) (i + 1) b) (i + 2) c)
in_row_4 l i a b c h = lt-length-set (set (set l i a) (i + 1) b) (i + 2) c (lt-length-set (set l i a) (i + 1) b (lt-length-set l i a (omega arith)))

pub row_stored : (l : List ℕ) (i a b c d : ℕ) → set (set (set (set l i a) (i + 1) b) (i + 2) c) (i + 3) d ≡ sets l i (a ∷ b ∷ c ∷ d ∷ [])
row_stored l i a b c d =
    let one : i + 1 ≡ suc i = omega arith in
    let two : i + 2 ≡ suc (suc i) = omega arith in
    let three : i + 3 ≡ suc (suc (suc i)) = omega arith in
    rw (one, two, three)

-- ---- a slot's rows from its arrays

-- flow k's row at an offset, by its count after the slot
abbrev pub row_by : ℕ → List ℕ → ℕ → ℕ → List ℕ
row_by t counts o k = t ∷ k ∷ (get_or counts k 0 - 1) ∷ o ∷ []

unfoldable pub rows_by : ℕ → List ℕ → ℕ → List ℕ → List (List ℕ)
rows_by t counts o [] = []
rows_by t counts o (k ∷ ks) = row_by t counts o k ∷ rows_by t counts (o + 1) ks

-- one row more
rows_snoc : (t : ℕ) (counts : List ℕ) (o : ℕ) (ks : List ℕ) (k : ℕ)
    → rows_by t counts o (ks ++ (k ∷ [])) ≡ rows_by t counts o ks ++ (row_by t counts (o + length ks) k ∷ [])
unfolding rows_by
rows_snoc t counts o [] k = ap (λ (n : ℕ). row_by t counts n k ∷ []) (sym (add-zero o))
rows_snoc t counts o (x ∷ ks) k =
    let e : o + 1 + length ks ≡ o + suc (length ks) = omega arith in
    ap (λ (l : List (List ℕ)). row_by t counts o x ∷ l)
    (rows_snoc t counts (o + 1) ks k ∙ ap (λ (n : ℕ). rows_by t counts (o + 1) ks ++ (row_by t counts n k ∷ [])) e)

pub rows_length : (t : ℕ) (counts : List ℕ) (o : ℕ) (ks : List ℕ) → length (flat (rows_by t counts o ks)) ≡ 4 * length ks
unfolding rows_by flat
rows_length t counts o [] = refl
rows_length t counts o (k ∷ ks) = omega (arith, rows_length t counts (o + 1) ks)

-- a row put behind those before it
pub row_put : (t : ℕ) (counts chosen old table : List ℕ) (from at i n : ℕ) → i < length chosen → n ≡ get_or counts (get_or chosen i 0) 0 - 1
    → at ≡ from + 4 * i → table ≡ sets old from (flat (rows_by t counts 0 (take i chosen)))
    → set (set (set (set table at t) (at + 1) (get_or chosen i 0)) (at + 2) n) (at + 3) i ≡ sets old from (flat (rows_by t counts 0 (take (i + 1) chosen)))
unfolding flat
row_put t counts chosen old table from at i n h e a p =
    let k : ℕ = get_or chosen i 0 in
    let rows : List (List ℕ) = rows_by t counts 0 (take i chosen) in
    let w : length (take i chosen) ≡ i = length-take-le i chosen (omega arith) in
    let b : at ≡ from + length (flat rows) = omega (arith, rows_length t counts 0 (take i chosen)) in
    let o : 0 + length (take i chosen) ≡ i = omega arith in
    let more : rows_by t counts 0 (take (i + 1) chosen) ≡ rows ++ (row_by t counts i k ∷ []) =
    ap (λ (l : List ℕ). rows_by t counts 0 l) (rw add-one (take-suc chosen i 0 h)) ∙ rows_snoc t counts 0 (take i chosen) k
    ∙ ap (λ (j : ℕ). rows ++ (row_by t counts j k ∷ [])) o in
    row_stored table at t k n i ∙ ap₂ (λ (l : List ℕ) (j : ℕ). sets l j (t ∷ k ∷ n ∷ i ∷ [])) p b
    ∙ ap (λ (x : ℕ). sets (sets old from (flat rows)) (from + length (flat rows)) (t ∷ k ∷ x ∷ i ∷ [])) e
    ∙ sym (sets_append old from (flat rows) (row_by t counts i k)) ∙ ap (sets old from) (sym (ap flat more ∙ flat_append rows (row_by t counts i k ∷ [])))

-- the rows of the definition are those of the arrays
rows_by_law : (s : FlowSet) (st : State) (counts : List ℕ) (o : ℕ) (ks : List ℕ)
    → ((k : ℕ) → memb k ks ≡ true → get_or counts k 0 ≡ had_at s st k + 1) → rows_from s st o ks ≡ rows_by st.slot.0 counts o ks
unfolding rows_from rows_by
rows_by_law s st counts o [] h = refl
rows_by_law s st counts o (k ∷ ks) h =
    let e : had_at s st k ≡ get_or counts k 0 - 1 = omega (arith, h k (memb_head k ks)) in
    ap₂ (λ (n : ℕ) (l : List (List ℕ)). (st.slot.0 ∷ k ∷ n ∷ o ∷ []) ∷ l) e (rows_by_law s st counts (o + 1) ks (λ l m. h l (memb_tail l k ks m)))

-- the first flows of an array, each with a count that is not 0
abbrev pub Counted : List ℕ → List ℕ → ℕ → Type 0
Counted counts chosen placed = (i : ℕ) → i < placed → (get_or chosen i 0 < most_flows) × (0 < get_or counts (get_or chosen i 0) 0)

-- rows of slot t may be put from a place on
abbrev pub RowsFitAt : ℕ → List ℕ → List ℕ → ℕ → ℕ → ℕ → Type 0
RowsFitAt t counts chosen rows from room =
    (0 < rows → t ≤ 65535) × (rows ≤ most_channels) × PerPlaced chosen × (from + 4 * rows ≤ room) × Counted counts chosen rows

module _ (by : Order) (s : FlowSet) (st : State) (counts chosen : List ℕ) (placed : ℕ) (p : PlacedIn by s st counts chosen placed) where
  placed_rows : rows_with (order_of by) (used s) st ≡ rows_by st.slot.0 counts 0 (take placed chosen)
  placed_rows = rows_by_law (used s) st counts 0 (placed_with (order_of by) (used s) st) p.one_more ∙ ap (rows_by st.slot.0 counts 0) (sym p.list)

  placed_length : length (take placed chosen) ≡ placed
  placed_length = length-take-le placed chosen (omega (arith, p.few, p.long))

  placed_counted : good (record_fault (used s)).refusal ≡ true → Counted counts chosen placed
  placed_counted g i h =
      let k : ℕ = get_or chosen i 0 in
      let m : memb k (placed_with (order_of by) (used s) st) ≡ true =
      ap₂ (λ (x : ℕ) (l : List ℕ). memb x l) (sym (get_or-take placed chosen i 0 h)) (sym p.list) ∙ memb_at (take placed chosen) i (rw placed_length h) in
      let below = (placed_ready (order_of by) (used s) st k m).0 in
      (omega (arith, below, used_count s, accepted_count s g), omega (arith, p.one_more k m))

  pub rows_if_put : good (record_fault (used s)).refusal ≡ true → (put : Bool) (t rows from room : ℕ) → rows ≡ cond put placed 0 → from ≤ room
      → (put ≡ true → (t ≤ 65535) × (from + 4 * placed ≤ room)) → RowsFitAt t counts chosen rows from room
  rows_if_put g true t rows from room e b h = rw e ((λ z. (h refl).0), p.few, p.long, (h refl).1, placed_counted g)
  rows_if_put g false t rows from room e b h = rw e ((λ z. absurd (omega arith)), zero-le, p.long, omega (arith, b), λ i z. absurd (omega arith))

-- ---- all slots

rows_next : (first : Priority) (s : FlowSet) (n : ℕ)
    → flat (rows_to_with first s (n + 1)) ≡ flat (rows_to_with first s n) ++ flat (rows_with first s (run_with first s n).last)
unfolding rows_to_with
rows_next first s n = rw add-one (flat_append (rows_to_with first s n) (rows_with first s (run_with first s n).last))

-- fewer slots have no more rows
rows_le : (first : Priority) (s : FlowSet) (n m : ℕ) → n ≤ m → length (flat (rows_to_with first s n)) ≤ length (flat (rows_to_with first s m))
unfolding rows_to_with
rows_le first s n zero h = let e : n ≡ 0 = omega arith in rw e (le_refl _)
rows_le first s n (suc m) h = elim (dec_le n m) [
  | yes d ↦
      let slot : List (List ℕ) = rows_with first s (run_with first s m).last in
      rw (flat_append (rows_to_with first s m) slot, length-append (flat (rows_to_with first s m)) (flat slot)) (omega (arith, rows_le first s n m d))
  | no d ↦ let e : n ≡ suc m = omega arith in rw e (le_refl _)
]

-- the numbers of the rows of a set's first n slots
abbrev pub row_numbers : Order → FlowSet → ℕ → List ℕ
row_numbers by s n = flat (rows_to_with (order_of by) (used s) n)

-- the rows of the slots before t stand at a table's start, and this is the place behind them
pub record RowsSoFar (by : Order) (s : FlowSet) (t at : ℕ) (old table : List ℕ) : Type 0 where
  pub at_is : at ≡ length (row_numbers by s t)
  pub table_is : table ≡ sets old 0 (row_numbers by s t)

pub no_rows : (by : Order) (s : FlowSet) (table : List ℕ) → RowsSoFar by s 0 0 table table
unfolding rows_to_with flat
no_rows by s table = record { at_is = refl; table_is = refl }

-- one slot more of a run
module _ (by : Order) (s : FlowSet) (fault : Fault) (t d x : ℕ) (sent : List ℕ) (run : RanTo by s fault (state_at t sent) d x t)
    (counts chosen : List ℕ) (placed : ℕ) (p : PlacedIn by s (state_at t sent) counts chosen placed)
    (at : ℕ) (old table : List ℕ) (r : RowsSoFar by s t at old table) where
  -- the numbers of the slot's rows
  abbrev new : List ℕ
  new = flat (rows_by t counts 0 (take placed chosen))

  more_rows : row_numbers by s (t + 1) ≡ row_numbers by s t ++ new
  more_rows =
      let rows : State → List (List ℕ) = rows_with (order_of by) (used s) in
      let e : rows (run_with (order_of by) (used s) t).last ≡ rows (state_at t sent) = ap (λ (a : Ran). rows a.last) run.run_is in
      rows_next (order_of by) (used s) t
      ∙ ap (λ (l : List (List ℕ)). row_numbers by s t ++ flat l) (e ∙ placed_rows by s (state_at t sent) counts chosen placed p)

  -- the place behind the slot's rows
  rows_place : at + 4 * placed ≡ length (row_numbers by s (t + 1))
  rows_place =
      let l = placed_length by s (state_at t sent) counts chosen placed p in
      let n = rows_length t counts 0 (take placed chosen) in
      rw (more_rows, length-append (row_numbers by s t) new) (omega (arith, r.at_is))

  -- they fit where the rows of all slots do
  pub rows_fit : (slots room : ℕ) → t < slots → length (row_numbers by s slots) ≤ room → at + 4 * placed ≤ room
  rows_fit slots room h f = omega (arith, rows_place, rows_le (order_of by) (used s) (t + 1) slots (omega arith))

  -- and are put behind those before them
  pub rows_more_law : (rows at' : ℕ) (table' : List ℕ) → rows ≡ placed → at' ≡ at + 4 * rows
      → table' ≡ sets table at (flat (rows_by t counts 0 (take rows chosen))) → RowsSoFar by s (t + 1) at' old table'
  rows_more_law rows at' table' q e f =
      let l : List ℕ = row_numbers by s t in
      let k : at ≡ 0 + length l = omega (arith, r.at_is) in
      record {
        at_is = e ∙ ap (λ (n : ℕ). at + 4 * n) q ∙ rows_place;
        table_is = f ∙ ap (λ (n : ℕ). sets table at (flat (rows_by t counts 0 (take n chosen)))) q
            ∙ ap₂ (λ (o : List ℕ) (j : ℕ). sets o j new) r.table_is k ∙ sym (sets_append old 0 l new) ∙ ap (sets old 0) (sym more_rows);
      }

-- some set's run is before its first slot, and the rows of this number of slots fit into a table and its 16 bits
pub record RowsFit (by : Order) (slots count m : ℕ) (numbers : Numbers) (links : Links) (run : RunArrays) (room : ℕ) : Type 0 where
  pub set : FlowSet
  pub fault : Fault
  pub run_so_far : RunSoFar by set fault count m 0 (counts_of 0 0) numbers links run
  pub small : slots ≤ 65536
  pub fits : length (row_numbers by set slots) ≤ room

-- for any set whose numbers these are, its rows of this number of slots stand at the table's start
abbrev pub RowsOfSlots : Order → ℕ → ℕ → ℕ → Numbers → Links → RunArrays → List ℕ → List ℕ → Type 0
RowsOfSlots by slots count m numbers links run old table =
    (s : FlowSet) (fault : Fault) → RunSoFar by s fault count m 0 (counts_of 0 0) numbers links run → table ≡ sets old 0 (row_numbers by s slots)

-- as many rows as are placed, if rows are put
pub all_put : (put : Bool) (rows placed : ℕ) → rows ≡ cond put placed 0 → put ≡ true → rows ≡ placed
all_put put rows placed e h = e ∙ ap (λ (b : Bool). cond b placed 0) h
