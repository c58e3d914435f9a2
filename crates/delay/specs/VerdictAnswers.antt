-- From the answer for all flows to the verdicts and to one flow's bounds.
use Rattle.std.specs.Prelude.{◌≡◌, refl, Bool, true, false, not, ◌&&◌, ℕ, ◌≤◌, ◌<◌, zero, suc, ◌+◌, leb, ℤ, pos, ◌-ℤ◌, get_or}
use Rattle.std.proofs.Common.{sym, ap, ◌∙◌, ap₂, le-leb, le_refl, add-one, arith}
use Rattle.std.proofs.lemmas.Bool.{lt-leb}
use Rattle.std.proofs.Math.Decide.{ℕ_discrete}
use Rattle.model.specs.declared.kinds.FlowSet.{FlowSet}
use Rattle.model.specs.declared.answers.Fault.{Fault}
use Rattle.model.specs.declared.answers.Refusal.TheVariants.{NoSuchFlow}
use Rattle.model.specs.Refusals.{good, fault_at, no_fault, refused_verdict, refused_bounds}
use Rattle.document.specs.Reader.{record_fault}
use Rattle.document.specs.Delay.{verdict_if, verdict_of, bounds_fault, bounds_if, bounds_of, deadline, work_at, basic_bound, tight_bound, admits}
use Rattle.model.specs.declared.kinds.Span.{Span}
use Rattle.model.specs.declared.answers.Verdict.{Verdict}
use Rattle.model.specs.declared.answers.Bounds.{Bounds}
use Rattle.model.specs.Sums.{all_to}
use Rattle.model.specs.Sets.{flow_at, used}
use Rattle.model.specs.declared.kinds.Flow.{Flow}
use Rattle.laws.specs.Used.{used_flow}
use Rattle.delay.specs.AcceptedFlows.{not_refused, is_refused, RefusedBy}
use Rattle.delay.specs.declared.verdicts.AllBounds.{AllBounds}
use Rattle.delay.specs.AllBounds.{AllBoundsOf}

-- the two answers of a verdict
pub verdict_good : (s : FlowSet) → good (record_fault s).refusal ≡ true → verdict_of s ≡ verdict_if s true
unfolding verdict_of
verdict_good s e = rw e

pub verdict_bad : (s : FlowSet) → good (record_fault s).refusal ≡ false → verdict_of s ≡ verdict_if s false
unfolding verdict_of
verdict_bad s e = rw e

-- the fault of a bound: the record's, 13, or none
fault_record : (s : FlowSet) (k : ℕ) → good (record_fault s).refusal ≡ false → bounds_fault s k ≡ record_fault s
unfolding bounds_fault
fault_record s k e = rw e

fault_none : (s : FlowSet) (k : ℕ) → good (record_fault s).refusal ≡ true → s.count ≤ k → bounds_fault s k ≡ fault_at NoSuchFlow 0
unfolding bounds_fault
fault_none s k e h = rw (e, le-leb s.count k h)

fault_free : (s : FlowSet) (k : ℕ) → good (record_fault s).refusal ≡ true → k < s.count → bounds_fault s k ≡ no_fault
unfolding bounds_fault
fault_free s k e h = rw (e, lt-leb s.count k h)

-- and an answer about one flow by it, given or refused
module _ {A : Type 0} (answer : Bool → A) (refused : Fault → A) (s : FlowSet) (k : ℕ) (no : answer false ≡ refused (bounds_fault s k)) where
  abbrev answered : A
  answered = answer (good (bounds_fault s k).refusal)

  answer_by : (f : Fault) (b : Bool) → bounds_fault s k ≡ f → good f.refusal ≡ b → answered ≡ answer b
  answer_by f b p q = ap (λ (g : Fault). answer (good g.refusal)) p ∙ ap answer q

  refusal_by : (f : Fault) → bounds_fault s k ≡ f → good f.refusal ≡ false → refused f ≡ answered
  refusal_by f p q = ap refused (sym p) ∙ sym no ∙ sym (answer_by f false p q)

  pub answer_refused : (f : Fault) → RefusedBy s f → refused f ≡ answered
  answer_refused f r = ap refused r.fault ∙ refusal_by (record_fault s) (fault_record s k r.refused) r.refused

  pub answer_none : good (record_fault s).refusal ≡ true → s.count ≤ k → refused (fault_at NoSuchFlow 0) ≡ answered
  answer_none e h = refusal_by (fault_at NoSuchFlow 0) (fault_none s k e h) refl

  pub answer_given : good (record_fault s).refusal ≡ true → k < s.count → answer true ≡ answered
  answer_given e h = sym (answer_by no_fault true (fault_free s k e h) refl)

pub bounds_refused : (s : FlowSet) (k : ℕ) (f : Fault) → RefusedBy s f → refused_bounds f ≡ bounds_of s k
unfolding bounds_of
bounds_refused s k = answer_refused (bounds_if s k) refused_bounds s k refl

pub bounds_none : (s : FlowSet) (k : ℕ) → good (record_fault s).refusal ≡ true → s.count ≤ k → refused_bounds (fault_at NoSuchFlow 0) ≡ bounds_of s k
unfolding bounds_of
bounds_none s k = answer_none (bounds_if s k) refused_bounds s k refl

pub bounds_given : (s : FlowSet) (k : ℕ) → good (record_fault s).refusal ≡ true → k < s.count → bounds_if s k true ≡ bounds_of s k
unfolding bounds_of
bounds_given s k = answer_given (bounds_if s k) refused_bounds s k refl

and_false : (b : Bool) → (b && false) ≡ false
and_false true = refl
and_false false = refl

-- "every", one more at a time, and of equal tests
pub all_zero : (p : ℕ → Bool) → all_to p 0 ≡ true
unfolding all_to
all_zero p = refl

pub all_next : (p : ℕ → Bool) (n : ℕ) → all_to p (n + 1) ≡ (all_to p n && p n)
unfolding all_to
all_next p n = rw add-one

-- one fails, so not all hold
pub all_not : (p : ℕ → Bool) (n i : ℕ) → i < n → p i ≡ false → all_to p n ≡ false
unfolding all_to
all_not p zero i h e = absurd (omega arith)
all_not p (suc n) i h e =
    elim (ℕ_discrete i n) [
      | yes q ↦ let z : p n ≡ false = rw (← q) e in ap (λ (x : Bool). all_to p n && x) z ∙ and_false (all_to p n)
      | no q ↦ ap (λ (x : Bool). x && p n) (all_not p n i (omega arith) e)
    ]

pub all_ext : (p q : ℕ → Bool) (n : ℕ) → ((i : ℕ) → i < n → p i ≡ q i) → all_to p n ≡ all_to q n
unfolding all_to
all_ext p q zero h = refl
all_ext p q (suc n) h = ap₂ (λ (x y : Bool). x && y) (all_ext p q n (λ i l. h i (omega arith))) (h n (le_refl (suc n)))

-- a flow's deadline keeps a bound as the definition says
pub keeps_entry : (s : FlowSet) (f : ℕ → ℕ) (k : ℕ) → k < s.count → leb (f k) (flow_at s k).deadline.0 ≡ leb (f k) (deadline (used s) k)
keeps_entry s f k h = ap (λ (x : Flow). leb (f k) x.deadline.0) (sym (used_flow s k h))

-- equal bounds are admitted alike
pub admits_ext : (s : FlowSet) (f g : ℕ → ℕ) → ((k : ℕ) → k < s.count → f k ≡ g k) → admits s f ≡ admits s g
unfolding admits
admits_ext s f g e =
    all_ext (λ k. leb (f k) (deadline s k)) (λ k. leb (g k) (deadline s k)) s.count (λ k h. ap (λ (y : ℕ). leb y (deadline s k)) (e k h))

-- the entries of the answer for all flows
pub basic_entry : (s : FlowSet) (r : AllBounds) → AllBoundsOf s r → (k : ℕ) → k < s.count → get_or r.basic k 0 ≡ basic_bound s k
basic_entry s r o k h = o.basics k ∙ sym (ap (λ (x : Bounds). x.basic) (bounds_given s k o.passed h))

pub tight_entry : (s : FlowSet) (r : AllBounds) → AllBoundsOf s r → (k : ℕ) → k < s.count → get_or r.tightened k 0 ≡ tight_bound s k
tight_entry s r o k h = o.tights k ∙ sym (ap (λ (x : Bounds). x.tightened) (bounds_given s k o.passed h))

-- the verdict and the bounds, put together from it
pub verdict_made : (s : FlowSet) (r : AllBounds) (f : Fault) (b t : Bool) → AllBoundsOf s r → f ≡ no_fault
    → b ≡ admits s (λ k. get_or r.basic k 0) → t ≡ admits s (λ k. get_or r.tightened k 0)
    → record { fault = f; basic = b; tightened = t; rounds = r.rounds } ≡ verdict_of s
verdict_made s r f b t o e p q =
    let v = verdict_good s o.passed in
    let x = p ∙ admits_ext s _ _ (basic_entry s r o) in
    let y = q ∙ admits_ext s _ _ (tight_entry s r o) in
    let n = o.rounds ∙ ap (λ (w : Verdict). w.rounds) v in
    let made : record { fault = f; basic = b; tightened = t; rounds = r.rounds } ≡ verdict_if s true =
    λ i. record { fault = e i; basic = x i; tightened = y i; rounds = n i } in
    made ∙ sym v

pub bounds_made : (s : FlowSet) (k : ℕ) (f : Fault) (w b t : ℕ) (d : Span) (m : ℤ)
    → f ≡ no_fault → w ≡ work_at s k → b ≡ basic_bound s k → t ≡ tight_bound s k → d ≡ (flow_at s k).deadline → m ≡ pos d.0 -ℤ pos t
    → record { fault = f; work = w; basic = b; tightened = t; deadline = d; margin = m } ≡ bounds_if s k true
bounds_made s k f w b t d m p q r x y z =
    let e : m ≡ pos (flow_at s k).deadline.0 -ℤ pos (tight_bound s k) = z ∙ ap₂ (λ (i : Span) (j : ℕ). pos i.0 -ℤ pos j) y x in
    λ i. record { fault = p i; work = q i; basic = r i; tightened = x i; deadline = y i; margin = e i }

-- the verdict's fault is the record check's, or none
pub fault_given : (s : FlowSet) → good (record_fault s).refusal ≡ true → (verdict_of s).fault ≡ no_fault
fault_given s e = ap (λ (v : Verdict). v.fault) (verdict_good s e)

pub fault_refused : (s : FlowSet) → good (record_fault s).refusal ≡ false → (verdict_of s).fault ≡ record_fault s
fault_refused s e = ap (λ (v : Verdict). v.fault) (verdict_bad s e)

-- so it refuses the set where that does
fault_entry : (s : FlowSet) → good (verdict_of s).fault.refusal ≡ good (record_fault s).refusal
fault_entry s = go (good (record_fault s).refusal) refl
  where
    go : (b : Bool) → good (record_fault s).refusal ≡ b → good (verdict_of s).fault.refusal ≡ b
    go true e = ap (λ (f : Fault). good f.refusal) (fault_given s e)
    go false e = ap (λ (f : Fault). good f.refusal) (fault_refused s e) ∙ e

pub passed_by : (s : FlowSet) (f : Fault) (b : Bool) → f ≡ (verdict_of s).fault → b ≡ not (good f.refusal) → b ≡ false
    → good (record_fault s).refusal ≡ true
passed_by s f b o h z = sym (fault_entry s) ∙ not_refused f (verdict_of s).fault b o h z

pub refused_by : (s : FlowSet) (f : Fault) (b : Bool) → f ≡ (verdict_of s).fault → b ≡ not (good f.refusal) → b ≡ true
    → good (record_fault s).refusal ≡ false
refused_by s f b o h z = sym (fault_entry s) ∙ is_refused f (verdict_of s).fault b o h z

-- a verdict of a refused set
pub verdict_refused : (s : FlowSet) (f : Fault) → RefusedBy s f → refused_verdict f ≡ verdict_of s
verdict_refused s f r = ap refused_verdict r.fault ∙ sym (verdict_bad s r.refused)
