-- The test for fixed priority: from the bounds of all flows to the verdict and to one flow's answer.
use Rattle.std.specs.Prelude.{◌≡◌, refl, Bool, true, false, ℕ, ◌≤◌, ◌<◌, ltb, get_or}
use Rattle.std.proofs.Common.{sym, ap, ◌∙◌, arith}
use Rattle.std.proofs.Math.Decide.{dec_le}
use Rattle.model.specs.declared.kinds.{FlowSet.{FlowSet}, Span.{Span}}
use Rattle.model.specs.declared.answers.{Fault.{Fault}, FixedBounds.{FixedBounds}, FixedVerdict.{FixedVerdict}}
use Rattle.model.specs.declared.answers.Refusal.TheVariants.{NoSuchFlow}
use Rattle.model.specs.{Refusals.{good, fault_at, no_fault, refused_fixed_bounds, refused_fixed_verdict}, Sets.{flow_at}}
use Rattle.document.specs.Reader.{record_fault}
use Rattle.document.specs.Delay.{admits, verdict_of, work_at}
use Rattle.document.specs.Fixed.{fixed_bound, fixed_bounds_if, fixed_bounds_of, fixed_verdict_if, fixed_verdict_of, judged}
use Rattle.laws.specs.FixedBounds.{judged_by_count}
use Rattle.delay.specs.declared.fixed.AllFixed.{AllFixed}
use Rattle.delay.specs.AllFixed.{AllFixedOf}
use Rattle.delay.specs.FixedJudged.{AllJudged}
use Rattle.delay.specs.AcceptedFlows.{RefusedBy}
use Rattle.delay.specs.VerdictAnswers.{admits_ext, answer_given, answer_none, answer_refused, fault_given, fault_refused}

-- the two answers of a verdict
fixed_good : (s : FlowSet) → good (record_fault s).refusal ≡ true → fixed_verdict_of s ≡ fixed_verdict_if s true
unfolding fixed_verdict_of
fixed_good s e = ap (fixed_verdict_if s) e

fixed_bad : (s : FlowSet) → good (record_fault s).refusal ≡ false → fixed_verdict_of s ≡ fixed_verdict_if s false
unfolding fixed_verdict_of
fixed_bad s e = ap (fixed_verdict_if s) e

-- it is refused as document 01's is
pub fixed_fault : (s : FlowSet) → (fixed_verdict_of s).fault ≡ (verdict_of s).fault
fixed_fault s = go (good (record_fault s).refusal) refl
  where
    go : (b : Bool) → good (record_fault s).refusal ≡ b → (fixed_verdict_of s).fault ≡ (verdict_of s).fault
    go true e = ap (λ (v : FixedVerdict). v.fault) (fixed_good s e) ∙ sym (fault_given s e)
    go false e = ap (λ (v : FixedVerdict). v.fault) (fixed_bad s e) ∙ sym (fault_refused s e)

-- the three answers for one flow
pub fixed_refused : (s : FlowSet) (k : ℕ) (f : Fault) → RefusedBy s f → refused_fixed_bounds f ≡ fixed_bounds_of s k
unfolding fixed_bounds_of
fixed_refused s k = answer_refused (fixed_bounds_if s k) refused_fixed_bounds s k refl

pub fixed_none : (s : FlowSet) (k : ℕ) → good (record_fault s).refusal ≡ true → s.count ≤ k → refused_fixed_bounds (fault_at NoSuchFlow 0) ≡ fixed_bounds_of s k
unfolding fixed_bounds_of
fixed_none s k = answer_none (fixed_bounds_if s k) refused_fixed_bounds s k refl

pub fixed_given : (s : FlowSet) (k : ℕ) → good (record_fault s).refusal ≡ true → k < s.count → fixed_bounds_if s k true ≡ fixed_bounds_of s k
unfolding fixed_bounds_of
fixed_given s k = answer_given (fixed_bounds_if s k) refused_fixed_bounds s k refl

-- a verdict of a refused set
pub fixed_verdict_refused : (s : FlowSet) (f : Fault) → RefusedBy s f → refused_fixed_verdict f ≡ fixed_verdict_of s
fixed_verdict_refused s f r = ap refused_fixed_verdict r.fault ∙ sym (fixed_bad s r.refused)

-- the bounds of all flows of a set that the check passes
pub all_fixed_given : (s : FlowSet) (r : AllFixed) → good (record_fault s).refusal ≡ true → AllJudged s r → AllFixedOf s r
all_fixed_given s r e j =
    let v = fixed_good s e in
    record {
      passed = e;
      judged = j.count ∙ sym (ap (λ (x : FixedVerdict). x.judged) v);
      bound_length = j.bounds.whole;
      bounds = λ k. elim (dec_le s.count k) [
        | yes h ↦ j.bounds.none k h ∙ ap (λ (x : FixedBounds). x.bound) (fixed_none s k e h)
        | no h ↦ let l : k < s.count = omega arith in j.bounds.entry k l ∙ ap (λ (x : FixedBounds). x.bound) (fixed_given s k e l)
      ];
    }

module _ (s : FlowSet) (r : AllFixed) (o : AllFixedOf s r) (f : Fault) (e : f ≡ no_fault) where
  bound_entry : (k : ℕ) → k < s.count → get_or r.bound k 0 ≡ fixed_bound s k
  bound_entry k h = o.bounds k ∙ sym (ap (λ (x : FixedBounds). x.bound) (fixed_given s k o.passed h))

  judged_entry : r.judged ≡ (fixed_verdict_if s true).judged
  judged_entry = o.judged ∙ ap (λ (x : FixedVerdict). x.judged) (fixed_good s o.passed)

  -- the verdict, put together from it
  pub fixed_verdict_made : (b : Bool) → b ≡ admits s (λ k. get_or r.bound k 0) → record { fault = f; admitted = b; judged = r.judged } ≡ fixed_verdict_of s
  fixed_verdict_made b p =
      let a = p ∙ admits_ext s _ _ bound_entry in
      let made : record { fault = f; admitted = b; judged = r.judged } ≡ fixed_verdict_if s true =
      λ i. record { fault = e i; admitted = a i; judged = judged_entry i } in
      made ∙ sym (fixed_good s o.passed)

  -- one flow's answer: it is judged where its number is below how many are
  pub fixed_bounds_made : (k : ℕ) → k < s.count → (w : ℕ) (d : Span) (b : Bool) → w ≡ work_at s k → d ≡ (flow_at s k).deadline → b ≡ ltb k r.judged
      → record { fault = f; work = w; bound = get_or r.bound k 0; deadline = d; judged = b } ≡ fixed_bounds_if s k true
  fixed_bounds_made k h w d b p q t =
      let x = bound_entry k h in
      let j : b ≡ judged s k = t ∙ ap (λ (n : ℕ). ltb k n) judged_entry ∙ sym (judged_by_count s k h) in
      λ i. record { fault = e i; work = p i; bound = x i; deadline = q i; judged = j i }
