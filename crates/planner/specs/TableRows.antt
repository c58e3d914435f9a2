-- The rows of a table: four numbers each, one row more after those that stand there, and what the three ways out leave behind.
use Rattle.std.specs.Prelude.{◌≡◌, refl, true, false, cond, List, [], ◌∷◌, ◌++◌, ℕ, zero, suc, ◌+◌, ◌*◌, ◌≤◌, ◌<◌, length, take, drop, Result, Ok, Err, MatchResult}
use Rattle.std.proofs.Common.{sym, ap, ap₂, ◌∙◌, add-one, arith, lt-ltb, le-ltb, length-append, take_at, drop-drop}
use Rattle.std.proofs.lemmas.Slice.{put_mid-paste}
use borrow.Rule.Slice.PartMut.{put_mid}
use Rattle.std.proofs.Math.Seq.{drop-append-add}
use Rattle.model.specs.declared.kinds.FlowSet.{FlowSet}
use Rattle.model.specs.declared.answers.Fault.{Fault}
use Rattle.model.specs.declared.answers.Reading.{Reading}
use Rattle.model.specs.declared.answers.Refusal.TheVariants.{NoRoom}
use Rattle.model.specs.declared.answers.Written.{Written}
use Rattle.model.specs.Refusals.{good, fault_at, no_fault}
use Rattle.model.specs.Sets.{used}
use Rattle.document.specs.Delay.{bounds_of}
use Rattle.document.specs.Reader.{refused_writing}
use Rattle.superframe_table.specs.SetFaults.{unless, err_unless}
use Rattle.planner.specs.OfReading.{told}
use Rattle.document.specs.ForC.{bounds_row, bounds_rows, rows_read, table_fault, table_answer, table_after}
use Rattle.laws.specs.Used.{used_count}
use Rattle.planner.specs.StepWritten.{written}

-- four numbers put from place i on
pub row_put : (l row : List ℕ) (i k a b c d : ℕ) → row ≡ a ∷ b ∷ c ∷ d ∷ [] → k ≡ 4
    → put_mid i k l row ≡ take i l ++ (a ∷ b ∷ c ∷ d ∷ []) ++ drop (i + 4) l
row_put l row i k a b c d e n = put_mid-paste i k l row (a ∷ b ∷ c ∷ d ∷ []) 4 e (sym n) refl

pub rows_length : (s : FlowSet) (n : ℕ) → length (bounds_rows s n) ≡ 4 * n
unfolding bounds_rows
rows_length s zero = refl
rows_length s (suc n) =
    let e = length-append (bounds_rows s n) (bounds_row (bounds_of s n)) in
    let h = rows_length s n in
    omega arith

rows_next : (s : FlowSet) (n : ℕ) → bounds_rows s (n + 1) ≡ bounds_rows s n ++ bounds_row (bounds_of s n)
unfolding bounds_rows
rows_next s n = rw add-one

-- the row of flow k put after those before it
pub rows_more_law : (s : FlowSet) (k : ℕ) (before table : List ℕ) → table ≡ bounds_rows s k ++ drop (4 * k) before
    → take (4 * k) table ++ bounds_row (bounds_of s k) ++ drop (4 * k + 4) table ≡ bounds_rows s (k + 1) ++ drop (4 * (k + 1)) before
rows_more_law s k before table e =
    let n = rows_length s k in
    let rest = drop (4 * k) before in
    let front : take (4 * k) table ≡ bounds_rows s k = ap (take (4 * k)) e ∙ take_at (bounds_rows s k) rest (4 * k) n in
    let p : 4 * k + 4 ≡ length (bounds_rows s k) + 4 = omega arith in
    let q : 4 * (k + 1) ≡ 4 * k + 4 = omega arith in
    let back : drop (4 * k + 4) table ≡ drop (4 * (k + 1)) before =
    ap₂ drop p e ∙ drop-append-add (bounds_rows s k) rest 4 ∙ drop-drop 4 (4 * k) before ∙ ap (λ (i : ℕ). drop i before) (sym q) in
    rw (rows_next, front, back)

-- ---- what the three ways out leave behind

-- the answer and the table after a call
abbrev pub TableLeft : Reading → List ℕ → Result Written Fault → List ℕ → Type 0
TableLeft r table w t = (w ≡ unless (table_fault r (length table)) (table_answer r (length table))) × (t ≡ table_after r table)

abbrev ifGood {ℓ} : {A : Type ℓ} → Fault → A → A → A
ifGood f x y = cond (good f.refusal) x y

left : (r : Reading) (table : List ℕ) (f : Fault) → table_fault r (length table) ≡ f
    → TableLeft r table (unless f (written f (ifGood f (length (rows_read r)) 0))) (ifGood f (rows_read r ++ drop (length (rows_read r)) table) table)
unfolding table_answer table_after
left r table f e = rw (← e) (refl, refl)

pub table_refused : (r : Reading) (table : List ℕ) (f : Fault) → f ≡ r.fault → good f.refusal ≡ false → TableLeft r table (Err f) table
unfolding table_fault
table_refused r table f e h =
    let g : good r.fault.refusal ≡ false = rw e at h in
    let w = left r table r.fault (rw g) in (err_unless f r.fault _ e g ∙ w.0, rw g at w.1)

needed : (r : Reading) → length (rows_read r) ≡ 4 * r.set.count
needed r = rows_length (used r.set) (used r.set).count ∙ ap (λ (n : ℕ). 4 * n) (used_count r.set)

pub table_no_room : (r : Reading) (table : List ℕ) → good r.fault.refusal ≡ true → length table < 4 * r.set.count
    → TableLeft r table (Err (fault_at NoRoom 0)) table
unfolding table_fault
table_no_room r table h l = left r table (fault_at NoRoom 0) (rw (h, lt-ltb (length table) (length (rows_read r)) (omega (arith, needed r))))

pub table_written : (r : Reading) (table : List ℕ) → good r.fault.refusal ≡ true → 4 * r.set.count ≤ length table
    → TableLeft r table (Ok (written no_fault (4 * r.set.count))) (bounds_rows (used r.set) r.set.count ++ drop (4 * r.set.count) table)
unfolding table_fault
table_written r table h l =
    let n = r.set.count in
    let w = left r table no_fault (rw (h, le-ltb (length table) (length (rows_read r)) (omega (arith, needed r)))) in
    let rows : bounds_rows (used r.set) n ≡ rows_read r = ap (bounds_rows (used r.set)) (sym (used_count r.set)) in (
      ap (λ (n : ℕ). Ok (written no_fault n)) (sym (needed r)) ∙ w.0,
      ap₂ (λ (l : List ℕ) (k : ℕ). l ++ drop k table) rows (sym (needed r)) ∙ w.1,
    )

-- what C gets of it
pub table_told : (r : Reading) (room : ℕ) {x : Result Written Fault} (w : Written) → x ≡ unless (table_fault r room) (table_answer r room)
    → MatchResult x (λ a. w ≡ a) (λ f. w ≡ refused_writing f) → w ≡ table_answer r room
unfolding table_answer
table_told r room w e h = told (table_fault r room) _ w e h
