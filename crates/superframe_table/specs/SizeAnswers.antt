-- What is answered of a superframe and what stands in the lent table afterwards, by each way out of the code.
use Rattle.std.specs.Prelude.{◌≡◌, refl, Bool, true, false, cond, List, Result, Ok, Err, MatchResult, ℕ, ◌*◌, ◌≤◌, ◌<◌, length}
use Rattle.std.proofs.Common.{sym, ap, ◌∙◌, arith, lt-ltb, le-ltb}
use Rattle.model.specs.declared.{kinds.FlowSet.{FlowSet}, answers.{Fault.{Fault}, Tabled.{Tabled}, Refusal.TheVariants.{NoRoom, LongHyperPeriod}}}
use Rattle.model.specs.{Refusals.{good, fault_at, no_fault, refused_table}, Sets.{used}}
use Rattle.document.specs.Superframe.{hyper, superframe, rows_to, flat, most_hyper, size_fault, superframe_fault, tabled, size_answer, superframe_answer, at_start, superframe_into}
use Rattle.promise.specs.{Repeated.{row_count}, LoadedCalls.{Loadable, loadable}}
use Rattle.superframe_table.specs.SetFaults.{unless, err_unless, set_fault, long_fault, size_parts, set_quiet, size_quiet}
use Rattle.superframe_table.specs.TableNumbers.{numbers_counted}

-- how many slots and numbers
abbrev pub sized : Fault → ℕ → ℕ → Tabled
sized f h n = record { fault = f; hyper = h; numbers = n }

-- an answer that is refused or not
pub told : {x : Result Tabled Fault} (s : FlowSet) (f : Fault) (r : Tabled) → x ≡ unless f (tabled s f) → MatchResult x (λ a. r ≡ a) (λ g. r ≡ refused_table g)
    → r ≡ tabled s f
told s f r e h = go (good f.refusal) (rw e at h)
  where
    go : (t : Bool) → MatchResult (cond t (Ok (cond t (sized f (hyper s) (length (flat (superframe s)))) (refused_table f))) (Err f)) (λ a. r ≡ a) (λ g. r ≡ refused_table g)
        → r ≡ cond t (sized f (hyper s) (length (flat (superframe s)))) (refused_table f)
    go true k = k
    go false k = k

-- a refusal of the set
pub size_refused : (s : FlowSet) (f : Fault) → f ≡ set_fault s → good f.refusal ≡ false → Err f ≡ unless (size_fault s) (size_answer s)
size_refused s f e h =
    let k : good (set_fault s).refusal ≡ false = ap (λ (f : Fault). good f.refusal) (sym e) ∙ h in
    let g : size_fault s ≡ set_fault s = size_parts s ∙ rw k in
    err_unless f (size_fault s) (size_answer s) (e ∙ sym g) (rw g k)

-- 16
pub size_long : (s : FlowSet) → good (set_fault s).refusal ≡ true → most_hyper < hyper s
    → Err (fault_at LongHyperPeriod 0) ≡ unless (size_fault s) (size_answer s)
unfolding long_fault
size_long s h l =
    let g : size_fault s ≡ fault_at LongHyperPeriod 0 = size_parts s ∙ rw (h, lt-ltb most_hyper (hyper s) l) in
    err_unless (fault_at LongHyperPeriod 0) (size_fault s) (size_answer s) (sym g) (rw g refl)

-- nothing: the fault, slots and rows that the code has found
pub size_counted : (s : FlowSet) (f : Fault) (h n : ℕ) → good (set_fault (used s)).refusal ≡ true → f ≡ no_fault → h ≡ hyper (used s) → h ≤ most_hyper
    → n ≡ row_count (used s) → Ok (sized f h (4 * n)) ≡ unless (size_fault (used s)) (size_answer (used s))
unfolding long_fault size_answer
size_counted s f h n k e d l c =
    let u = used s in
    let none : size_fault u ≡ no_fault = size_parts u ∙ rw (set_quiet u k, le-ltb most_hyper (hyper u) (omega arith)) in
    let m = ap (λ (n : ℕ). 4 * n) c ∙ numbers_counted s (loadable u (ap (λ (f : Fault). good f.refusal) none)) in
    rw (none, e, d, m)

-- an answer that refuses nothing
pub record Sized (s : FlowSet) (a : Tabled) : Type 0 where
  pub loads : Loadable s
  pub none : size_fault s ≡ no_fault
  pub answer : a ≡ sized no_fault (hyper s) (length (flat (superframe s)))

answered : (s : FlowSet) (f : Fault) → size_fault s ≡ f → tabled s f ≡ size_answer s
unfolding size_answer
answered s f e = ap (tabled s) (sym e)

pub size_fault_law : (s : FlowSet) → (size_answer s).fault ≡ size_fault s
unfolding size_answer
size_fault_law s = go (good (size_fault s).refusal)
  where
    go : (t : Bool) → (cond t (sized (size_fault s) (hyper s) (length (flat (superframe s)))) (refused_table (size_fault s))).fault ≡ size_fault s
    go true = refl
    go false = refl

pub size_passes : (s : FlowSet) (a : Tabled) → a ≡ size_answer s → good a.fault.refusal ≡ true → Sized s a
size_passes s a e h =
    let f = ap (λ (f : Fault). good f.refusal) (sym (size_fault_law s)) ∙ ap (λ (a : Tabled). good a.fault.refusal) (sym e) in
    let n = size_quiet s (f ∙ h) in
    record { loads = loadable s (f ∙ h); none = n; answer = e ∙ sym (answered s no_fault n) }

-- the same of the code's result, and what refuses it
pub size_found : (s : FlowSet) {x : Result Tabled Fault} (a : Tabled) → x ≡ unless (size_fault s) (size_answer s) → x ≡ Ok a → Sized s a
unfolding size_answer
size_found s a e h = go (good (size_fault s).refusal) refl
  where
    go : (t : Bool) → good (size_fault s).refusal ≡ t → Sized s a
    go true g =
        let n = size_quiet s g in
        let d : Ok a ≡ Ok (sized no_fault (hyper s) (length (flat (superframe s)))) = sym h ∙ e ∙ rw n in
        record { loads = loadable s g; none = n; answer = cc }
    go false g = let d : Ok a ≡ Err (size_fault s) = sym h ∙ e ∙ rw g in cc

pub size_fails : (s : FlowSet) {x : Result Tabled Fault} (f : Fault) → x ≡ unless (size_fault s) (size_answer s) → x ≡ Err f
    → (f ≡ size_fault s) × (good (size_fault s).refusal ≡ false)
size_fails s f e h = go (good (size_fault s).refusal) refl
  where
    go : (t : Bool) → good (size_fault s).refusal ≡ t → (f ≡ size_fault s) × (good (size_fault s).refusal ≡ false)
    go true g = let d : Err f ≡ Ok (size_answer s) = sym h ∙ e ∙ rw g in cc
    go false g = let d : Err f ≡ Err (size_fault s) = sym h ∙ e ∙ rw g in (cc, g)

-- ---- and what stands in the lent table

abbrev pub TableLeft : FlowSet → List ℕ → Result Tabled Fault → List ℕ → Type 0
TableLeft s table r t = (r ≡ unless (superframe_fault s (length table)) (superframe_answer s (length table))) × (t ≡ superframe_into s table)

left : (s : FlowSet) (table : List ℕ) (f : Fault) → superframe_fault s (length table) ≡ f
    → TableLeft s table (unless f (tabled s f)) (cond (good f.refusal) (at_start (flat (superframe s)) table) table)
unfolding superframe_answer superframe_into
left s table f e = rw (← e) (refl, refl)

pub table_refused : (s : FlowSet) (table : List ℕ) (f : Fault) → f ≡ size_fault s → good (size_fault s).refusal ≡ false → TableLeft s table (Err f) table
unfolding superframe_fault
table_refused s table f e h =
    let w = left s table (size_fault s) (rw h) in
    (ap Err e ∙ err_unless (size_fault s) (size_fault s) (tabled s (size_fault s)) refl h ∙ w.0, (rw h at w.1))

pub table_no_room : (s : FlowSet) (table : List ℕ) (a : Tabled) → Sized s a → length table < a.numbers
    → TableLeft s table (Err (fault_at NoRoom 0)) table
unfolding superframe_fault
table_no_room s table a z l =
    let n = ap (λ (a : Tabled). a.numbers) z.answer in
    left s table (fault_at NoRoom 0) (rw (z.none, lt-ltb (length table) (length (flat (superframe s))) (omega arith)))

-- the rows that the machine is asked for, and that it has put
pub rows_asked : (s : FlowSet) (table : List ℕ) (a : Tabled) → Sized s a → a.numbers ≤ length table
    → (a.hyper ≤ 65536) × (length (flat (rows_to s a.hyper)) ≤ length table)
rows_asked s table a z l = rw z.answer (z.loads.short, rw z.answer at l)

pub table_written : (s : FlowSet) (table t : List ℕ) (a : Tabled) → Sized s a → a.numbers ≤ length table
    → t ≡ at_start (flat (rows_to s a.hyper)) table → TableLeft s table (Ok a) t
unfolding superframe_fault
table_written s table t a z l e =
    let n = ap (λ (a : Tabled). a.numbers) z.answer in
    let h = ap (λ (a : Tabled). a.hyper) z.answer in
    let w = left s table no_fault (rw (z.none, le-ltb (length table) (length (flat (superframe s))) (omega arith))) in
    (ap Ok z.answer ∙ w.0, e ∙ ap (λ (n : ℕ). at_start (flat (rows_to s n)) table) h ∙ w.1)
