-- A verdict and a bound that are given are by the greatest list, which the rounds reach; a refused one has no rounds.
use Rattle.std.specs.Prelude.{◌≡◌, refl, Bool, true, false, cond, ℕ, ◌≤◌, leb}
use Rattle.std.proofs.Common.{sym, ap, ◌∙◌, arith}
use Rattle.std.proofs.lemmas.Bool.{false≢true}
use Rattle.model.specs.declared.kinds.FlowSet.{FlowSet}
use Rattle.model.specs.declared.answers.Verdict.{Verdict}
use Rattle.model.specs.declared.answers.Bounds.{Bounds}
use Rattle.model.specs.declared.answers.Refusal.TheVariants.{NoSuchFlow}
use Rattle.model.specs.Refusals.{good, fault_at, no_fault}
use Rattle.document.specs.Reader.{record_fault}
use Rattle.document.specs.Delay.{AtGreatest, Greatest, admits, bounds_fault, bounds_if, bounds_of, most_rounds, reached, tight_bound, value_at, verdict_if, verdict_of}
use Rattle.laws.specs.Accepted.{accepted, or_else_good}
use Rattle.laws.specs.Rounds.{accepted_fits, reached_rounds_le}
use Rattle.laws.specs.Largest.{reached_greatest}
use Rattle.delay.specs.VerdictAnswers.{admits_ext}

-- what the rounds of an accepted set reach
found : (s : FlowSet) → good (record_fault s).refusal ≡ true → Greatest s (reached s).list
found s e = reached_greatest s (accepted_fits s (accepted s e))

pub bounds_greatest : (s : FlowSet) (k : ℕ) (r : Bounds) → r ≡ bounds_of s k → good r.fault.refusal ≡ true
    → AtGreatest s (λ v. r.tightened ≡ value_at s v k)
unfolding bounds_of bounds_fault tight_bound
bounds_greatest s k r e h = go (good (bounds_fault s k).refusal) refl e
  where
    go : (b : Bool) → good (bounds_fault s k).refusal ≡ b → r ≡ bounds_if s k b → AtGreatest s (λ v. r.tightened ≡ value_at s v k)
    go true g f =
        let w = or_else_good (record_fault s) (cond (leb s.count k) (fault_at NoSuchFlow 0) no_fault) g in
        ((reached s).list, found s w.0, ap (λ (x : Bounds). x.tightened) f)
    go false g f = absurd (false≢true (sym g ∙ sym (ap (λ (x : Bounds). good x.fault.refusal) f) ∙ h))

pub verdict_greatest : (s : FlowSet) (r : Verdict) → r ≡ verdict_of s → good r.fault.refusal ≡ true
    → AtGreatest s (λ v. r.tightened ≡ admits s (value_at s v))
unfolding verdict_of tight_bound
verdict_greatest s r e h = go (good (record_fault s).refusal) refl e
  where
    go : (b : Bool) → good (record_fault s).refusal ≡ b → r ≡ verdict_if s b → AtGreatest s (λ v. r.tightened ≡ admits s (value_at s v))
    go true g f =
        ((reached s).list, found s g, ap (λ (x : Verdict). x.tightened) f ∙ admits_ext s (tight_bound s) (value_at s (reached s).list) (λ k l. refl))
    go false g f = absurd (false≢true (sym g ∙ sym (ap (λ (x : Verdict). good x.fault.refusal) f) ∙ h))

pub verdict_rounds : (s : FlowSet) (r : Verdict) → r ≡ verdict_of s → r.rounds ≤ most_rounds s
unfolding verdict_of
verdict_rounds s r e = go (good (record_fault s).refusal) e
  where
    go : (b : Bool) → r ≡ verdict_if s b → r.rounds ≤ most_rounds s
    go true f = let n = ap (λ (x : Verdict). x.rounds) f in omega (arith, reached_rounds_le s)
    go false f = let n = ap (λ (x : Verdict). x.rounds) f in omega arith
