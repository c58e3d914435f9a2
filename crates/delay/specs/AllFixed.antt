-- The answer of the test for fixed priority for all flows at once, by the answers of request 4 for one flow and for the set.
use Rattle.std.specs.Prelude.{◌≡◌, true, ℕ, length, get_or, Result, Ok, Err, MatchResult}
use Rattle.std.proofs.Common.{sym, ap, ◌∙◌, ext_get_or}
use Rattle.model.specs.declared.kinds.FlowSet.{FlowSet}
use Rattle.model.specs.declared.answers.Fault.{Fault}
use Rattle.model.specs.Limits.{most_flows}
use Rattle.model.specs.Refusals.{good}
use Rattle.document.specs.Reader.{record_fault}
use Rattle.document.specs.Fixed.{fixed_verdict_of, fixed_bounds_of}
use Rattle.delay.specs.AcceptedFlows.{RefusedBy, refused_once, not_both}
use Rattle.delay.specs.declared.fixed.AllFixed.{AllFixed}

-- the record check passes the set, each entry is the flow's bound as `fixed_bounds_of` has it, and so many of the first flows are judged
pub record AllFixedOf (s : FlowSet) (r : AllFixed) : Type 0 where
  pub passed : good (record_fault s).refusal ≡ true
  pub judged : r.judged ≡ (fixed_verdict_of s).judged
  pub bound_length : length r.bound ≡ most_flows
  pub bounds : (k : ℕ) → get_or r.bound k 0 ≡ (fixed_bounds_of s k).bound

-- the bounds of an accepted set, or why the set is refused
abbrev pub AllFixedAnswer : FlowSet → Result AllFixed Fault → Type 0
AllFixedAnswer s r = MatchResult r (AllFixedOf s) (RefusedBy s)

-- the answer is fixed by the set
pub all_fixed_once : (s : FlowSet) (r q : AllFixed) → AllFixedOf s r → AllFixedOf s q → r ≡ q
all_fixed_once s r q a b =
    let n = a.judged ∙ sym b.judged in
    let x = ext_get_or 0 r.bound q.bound (a.bound_length ∙ sym b.bound_length) (λ i h. a.bounds i ∙ sym (b.bounds i)) in
    λ i. record { bound = x i; judged = n i }

-- whether it is bounds or a refusal
pub fixed_answer_once : (s : FlowSet) (r q : Result AllFixed Fault) → AllFixedAnswer s r → AllFixedAnswer s q → r ≡ q
fixed_answer_once s (Ok r) (Ok q) a b = ap Ok (all_fixed_once s r q a b)
fixed_answer_once s (Ok r) (Err q) a b = not_both s q a.passed b
fixed_answer_once s (Err r) (Ok q) a b = not_both s r b.passed a
fixed_answer_once s (Err r) (Err q) a b = ap Err (refused_once s r q a b)
