-- What refuses a superframe before its hyper-period is looked at: the set's own refusals, 14 and 15.
use Rattle.std.specs.Prelude.{◌≡◌, refl, Bool, true, false, not, ◌||◌, cond, ltb, Result, Ok, Err}
use Rattle.std.proofs.Common.{sym, ap, ◌∙◌}
use Rattle.std.proofs.lemmas.Bool.{false≢true}
use Rattle.model.specs.declared.{kinds.FlowSet.{FlowSet}, answers.{Fault.{Fault}, Refusal.{Refusal}, Verdict.{Verdict}}}
use Rattle.model.specs.declared.answers.Refusal.TheVariants.{NotAdmitted, LateStart, LongHyperPeriod}
use Rattle.model.specs.Refusals.{good, checked, fault_at, no_fault, or_else}
use Rattle.document.specs.{Reader.{record_fault}, Delay.{verdict_if, verdict_of}, Superframe.{hyper, most_hyper, neither_admits, starts_late, size_fault}}
use Rattle.laws.specs.{Accepted.{or_else_good}, Judged.{checked_ok}}

-- an answer, or what refuses it
abbrev pub unless : {A : Type 0} → Fault → A → Result A Fault
unless f a = cond (good f.refusal) (Ok a) (Err f)

pub err_unless : {A : Type 0} (f g : Fault) (a : A) → f ≡ g → good g.refusal ≡ false → Err f ≡ unless g a
err_unless f g a e h = rw (e, h)

-- the refusals before 16: the set's own, 14, 15
unfoldable pub set_fault : FlowSet → Fault
set_fault s = or_else (record_fault s) (cond (neither_admits s) (fault_at NotAdmitted 0) (cond (starts_late s) (fault_at LateStart 0) no_fault))

-- 16 comes after them
unfoldable pub long_fault : FlowSet → Fault
long_fault s = cond (ltb most_hyper (hyper s)) (fault_at LongHyperPeriod 0) no_fault

pub size_parts : (s : FlowSet) → size_fault s ≡ or_else (set_fault s) (long_fault s)
unfolding size_fault set_fault long_fault
size_parts s = go (good (record_fault s).refusal) refl (neither_admits s) (starts_late s)
  where
    go : (t : Bool) → good (record_fault s).refusal ≡ t → (b c : Bool)
        → cond t (cond b (fault_at NotAdmitted 0) (cond c (fault_at LateStart 0) (long_fault s))) (record_fault s)
        ≡ or_else (cond t (cond b (fault_at NotAdmitted 0) (cond c (fault_at LateStart 0) no_fault)) (record_fault s)) (long_fault s)
    go true e true c = refl
    go true e false true = refl
    go true e false false = refl
    go false e b c = rw e

-- A chain of refusals that refuses nothing is no fault: each of them refuses something.
abbrev Quiet : Fault → Type 0
Quiet f = good f.refusal ≡ true → f ≡ no_fault

quiet_if : (b : Bool) (r : Refusal) (f : Fault) → good r ≡ false → Quiet f → Quiet (cond b (fault_at r 0) f)
quiet_if true r f n q h = absurd (false≢true (sym n ∙ h))
quiet_if false r f n q h = q h

quiet_or : (f g : Fault) → Quiet g → Quiet (or_else f g)
quiet_or f g q h = go (good f.refusal) refl h
  where
    go : (t : Bool) → good f.refusal ≡ t → good (cond t g f).refusal ≡ true → cond t g f ≡ no_fault
    go true e k = q k
    go false e k = absurd (false≢true (sym e ∙ k))

pub set_quiet : (s : FlowSet) → good (set_fault s).refusal ≡ true → set_fault s ≡ no_fault
unfolding set_fault
set_quiet s =
    quiet_or (record_fault s) _ (quiet_if (neither_admits s) NotAdmitted _ refl (quiet_if (starts_late s) LateStart no_fault refl (λ h. refl)))

pub size_quiet : (s : FlowSet) → good (size_fault s).refusal ≡ true → size_fault s ≡ no_fault
unfolding long_fault
size_quiet s = rw (size_parts s) (quiet_or (set_fault s) (long_fault s) (quiet_if (ltb most_hyper (hyper s)) LongHyperPeriod no_fault refl (λ h. refl)))

pub set_accepted : (s : FlowSet) → good (set_fault s).refusal ≡ true → good (record_fault s).refusal ≡ true
unfolding set_fault
set_accepted s h = (or_else_good (record_fault s) _ h).0

-- ---- the ways out of the code: the verdict has the set's own refusal

pub verdict_passes : (s : FlowSet) (v : Verdict) {x : Result Unit Fault} {u : Unit} → v ≡ verdict_of s → x ≡ checked v.fault → x ≡ Ok u
    → good (record_fault s).refusal ≡ true
unfolding verdict_of
verdict_passes s v a e h = go (good (record_fault s).refusal) refl (ap (λ (v : Verdict). good v.fault.refusal) (sym a) ∙ checked_ok v.fault e h)
  where
    go : (t : Bool) → good (record_fault s).refusal ≡ t → good (verdict_if s t).fault.refusal ≡ true → good (record_fault s).refusal ≡ true
    go true e k = e
    go false e k = k

pub set_refused : (s : FlowSet) (v : Verdict) → v ≡ verdict_of s → good v.fault.refusal ≡ false → v.fault ≡ set_fault s
unfolding verdict_of set_fault
set_refused s v a h =
    ap (λ (v : Verdict). v.fault) a ∙ go (good (record_fault s).refusal) (ap (λ (v : Verdict). good v.fault.refusal) (sym a) ∙ h)
  where
    later : Fault
    later = cond (neither_admits s) (fault_at NotAdmitted 0) (cond (starts_late s) (fault_at LateStart 0) no_fault)

    go : (t : Bool) → good (verdict_if s t).fault.refusal ≡ false → (verdict_if s t).fault ≡ cond t later (record_fault s)
    go true k = absurd (false≢true (sym k))
    go false k = refl

pub neither_by : (s : FlowSet) (v : Verdict) (b : Bool) → v ≡ verdict_of s → b ≡ (v.basic || v.tightened) → neither_admits s ≡ not b
neither_by s v b a e = ap (λ (v : Verdict). not (v.basic || v.tightened)) (sym a) ∙ ap not (sym e)

pub set_not_admitted : (s : FlowSet) → good (record_fault s).refusal ≡ true → neither_admits s ≡ true → fault_at NotAdmitted 0 ≡ set_fault s
unfolding set_fault
set_not_admitted s g e = rw (g, e)

pub set_late : (s : FlowSet) → good (record_fault s).refusal ≡ true → neither_admits s ≡ false → starts_late s ≡ true
    → fault_at LateStart 0 ≡ set_fault s
unfolding set_fault
set_late s g e d = rw (g, e, d)

pub set_none : (s : FlowSet) → good (record_fault s).refusal ≡ true → neither_admits s ≡ false → starts_late s ≡ false → no_fault ≡ set_fault s
unfolding set_fault
set_none s g e d = rw (g, e, d)
