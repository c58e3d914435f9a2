-- What refuses an input, and what is known of its set and its hyper-period where nothing does.
use Rattle.std.specs.Prelude.{◌≡◌, refl, Bool, true, false, cond, List, ℕ, ◌+◌, ◌≤◌, ltb, length, Result, MatchResult}
use Rattle.std.proofs.Common.{ap, ◌∙◌, arith, ltb-false}
use Rattle.std.proofs.lemmas.Bool.{false≢true}
use Rattle.model.specs.declared.kinds.FlowSet.{FlowSet}
use Rattle.model.specs.declared.answers.{Fault.{Fault}, Reading.{Reading}, Tabled.{Tabled}, Refusal.TheVariants.{NoRoom, NotAdmitted, LateStart, LongHyperPeriod}}
use Rattle.model.specs.Refusals.{good, fault_at, no_fault, refused_table}
use Rattle.model.specs.Sets.{used}
use Rattle.document.specs.Reader.{read_text, record_fault}
use Rattle.document.specs.Program.{most_input, refused_line}
use Rattle.document.specs.Superframe.{flat, hyper, most_hyper, neither_admits, starts_late, superframe, row_lines, size_answer, size_fault, size_fault_read, superframe_text}
use Rattle.laws.specs.{Accepted.{or_else_good}, LinesRead.{last_line, read_line_le}, NamedFields.{field_le}}
use Rattle.promise.specs.{LoadedCalls.{loadable}, TextHeld.{text_passes}}
use Rattle.superframe.specs.declared.loading.Loaded.{Loaded}

-- 10 for its length, the reader's refusals, then the table's
abbrev pub load_fault : List ℕ → Fault
load_fault input = cond (ltb most_input (length input)) (fault_at NoRoom 0) (size_fault_read (read_text input))

-- nothing refuses the input, and these are its set and its hyper-period
pub record Holds (input : List ℕ) (r : Loaded) : Type 0 where
  pub passes : good (load_fault input).refusal ≡ true
  pub set : r.set ≡ (read_text input).set
  pub slots : r.hyper ≡ hyper (used r.set)

-- this refuses the input
pub record Refuses (input : List ℕ) (f : Fault) : Type 0 where
  pub fault : f ≡ load_fault input
  pub refused : good f.refusal ≡ false
  pub line : f.line ≤ last_line
  pub field : f.field ≤ most_input + 1

abbrev pub Loads : List ℕ → Result Loaded Fault → Type 0
Loads input r = MatchResult r (Holds input) (Refuses input)

-- ---- the three ways of the code

abbrev NamesNone : Fault → Type 0
NamesNone f = (f.line ≡ 0) × (f.field ≡ 0)

-- a set that passes the record check has no line that is refused, and no field
size_names : (s : FlowSet) → good (record_fault s).refusal ≡ true → NamesNone (size_fault s)
unfolding size_fault
size_names s g = rw g (go (neither_admits s) (starts_late s) (ltb most_hyper (hyper s)))
  where
    go : (a b c : Bool)
        → NamesNone (cond a (fault_at NotAdmitted 0) (cond b (fault_at LateStart 0) (cond c (fault_at LongHyperPeriod 0) no_fault)))
    go true b c = (refl, refl)
    go false true c = (refl, refl)
    go false false true = (refl, refl)
    go false false false = (refl, refl)

-- the answer of a table's size has what refuses the set, and the hyper-period where nothing does
module _ (s : FlowSet) (a : Tabled) (f : a ≡ size_answer s) where
  sized_fault : a.fault ≡ size_fault s
  unfolding size_answer
  sized_fault = ap (λ (a : Tabled). a.fault) f ∙ go (good (size_fault s).refusal)
    where
      go : (t : Bool) → (cond t record { fault = size_fault s; hyper = hyper s; numbers = length (flat (superframe s)) } (refused_table (size_fault s))).fault ≡ size_fault s
      go true = refl
      go false = refl

  sized_hyper : good a.fault.refusal ≡ true → a.hyper ≡ hyper s
  unfolding size_answer
  sized_hyper g =
      let h : good (size_fault s).refusal ≡ true = rw (← sized_fault) g in
      ap (λ (a : Tabled). a.hyper) f ∙ rw h

module _ (input : List ℕ) where
  pub loads_long : ltb most_input (length input) ≡ true → Refuses input (fault_at NoRoom 0)
  loads_long e = record { fault = rw e; refused = refl; line = omega arith; field = omega arith }

  module _ (e : ltb most_input (length input) ≡ false) (r : Reading) (q : r ≡ read_text input) where
    pub loads_refused : good r.fault.refusal ≡ false → Refuses input r.fault
    loads_refused b =
        record {
          fault = rw (e, ← q, b);
          refused = b;
          line = rw q (read_line_le input);
          field = rw q (omega (arith, field_le input, ltb-false most_input (length input) e));
        }

    module _ (g : good r.fault.refusal ≡ true) (a : Tabled) (f : a ≡ size_answer (used r.set)) where
      sized : a.fault ≡ load_fault input
      sized = sized_fault (used r.set) a f ∙ rw (e, ← q, g)

      pub loads_unsized : good a.fault.refusal ≡ false → Refuses input a.fault
      loads_unsized b =
          let k : a.fault ≡ size_fault (used r.set) = sized_fault (used r.set) a f in
          let n = size_names (used r.set) (rw q (text_passes input (rw (← q) g))) in
          record { fault = sized; refused = b; line = rw (k, n.0) (omega arith); field = rw (k, n.1) (omega arith) }

      pub loads_sized : good a.fault.refusal ≡ true → Holds input record { hyper = a.hyper; set = r.set }
      loads_sized h =
          record { passes = rw (← sized) h; set = ap (λ (r : Reading). r.set) q; slots = sized_hyper (used r.set) a f h }

-- ---- an input that nothing refuses

load_size : (input : List ℕ) → good (load_fault input).refusal ≡ true → good (size_fault (used (read_text input).set)).refusal ≡ true
load_size input = go (ltb most_input (length input))
  where
    go : (b : Bool) → good (cond b (fault_at NoRoom 0) (size_fault_read (read_text input))).refusal ≡ true
        → good (size_fault (used (read_text input).set)).refusal ≡ true
    go true h = absurd (false≢true h)
    go false h = (or_else_good (read_text input).fault _ h).1

pub loaded_set : {input : List ℕ} {r : Loaded} → Holds input r → (good (record_fault (used r.set)).refusal ≡ true) × (r.hyper ≤ most_hyper)
loaded_set {input} l =
    let a = loadable (used (read_text input).set) (load_size input l.passes) in
    rw (l.slots, l.set) (a.accepted, a.short)

-- ---- what is printed

text_by : (input : List ℕ) (b : Bool) → good (load_fault input).refusal ≡ b
    → cond b (row_lines (superframe (used (read_text input).set))) (refused_line (load_fault input)) ≡ superframe_text input
unfolding superframe_text
text_by input b = go (ltb most_input (length input)) b
  where
    r : Reading
    r = read_text input

    f : Fault
    f = size_fault_read r

    go : (l b : Bool) → good (cond l (fault_at NoRoom 0) f).refusal ≡ b
        → cond b (row_lines (superframe (used r.set))) (refused_line (cond l (fault_at NoRoom 0) f))
        ≡ cond l (refused_line (fault_at NoRoom 0)) (cond (good f.refusal) (row_lines (superframe (used r.set))) (refused_line f))
    go true true h = absurd (false≢true h)
    go true false h = refl
    go false b h = rw h

pub prints_table : (input : List ℕ) → good (load_fault input).refusal ≡ true
    → row_lines (superframe (used (read_text input).set)) ≡ superframe_text input
prints_table input = text_by input true

pub prints_refusal : (input : List ℕ) → good (load_fault input).refusal ≡ false → refused_line (load_fault input) ≡ superframe_text input
prints_refusal input = text_by input false
