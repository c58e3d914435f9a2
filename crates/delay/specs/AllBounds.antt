-- The answer for all flows at once, by the answers of document 01 for one flow and for the set.
use Rattle.std.specs.Prelude.{◌≡◌, true, ℕ, ◌≤◌, length, get_or, Result, Ok, Err, MatchResult}
use Rattle.std.proofs.Common.{sym, ap, ◌∙◌, ext_get_or}
use Rattle.model.specs.declared.kinds.FlowSet.{FlowSet}
use Rattle.model.specs.declared.answers.Fault.{Fault}
use Rattle.model.specs.Limits.{most_flows}
use Rattle.model.specs.Refusals.{good}
use Rattle.document.specs.Reader.{record_fault}
use Rattle.document.specs.Delay.{verdict_of, bounds_of}
use Rattle.delay.specs.AcceptedFlows.{RefusedBy, refused_once, not_both}
use Rattle.delay.specs.declared.verdicts.AllBounds.{AllBounds}

-- the record check passes the set, and each entry is the flow's bound as `bounds_of` has it; small is what a signed margin needs
pub record AllBoundsOf (s : FlowSet) (r : AllBounds) : Type 0 where
  pub passed : good (record_fault s).refusal ≡ true
  pub rounds : r.rounds ≡ (verdict_of s).rounds
  pub basic_length : length r.basic ≡ most_flows
  pub tight_length : length r.tightened ≡ most_flows
  pub basics : (k : ℕ) → get_or r.basic k 0 ≡ (bounds_of s k).basic
  pub tights : (k : ℕ) → get_or r.tightened k 0 ≡ (bounds_of s k).tightened
  pub small : (k : ℕ) → (bounds_of s k).tightened ≤ 272691135

-- the bounds of an accepted set, or why the set is refused
abbrev pub AllBoundsAnswer : FlowSet → Result AllBounds Fault → Type 0
AllBoundsAnswer s r = MatchResult r (AllBoundsOf s) (RefusedBy s)

-- the answer is fixed by the set
pub all_bounds_once : (s : FlowSet) (r q : AllBounds) → AllBoundsOf s r → AllBoundsOf s q → r ≡ q
all_bounds_once s r q a b =
    let n = a.rounds ∙ sym b.rounds in
    let x = ext_get_or 0 r.basic q.basic (a.basic_length ∙ sym b.basic_length) (λ i h. a.basics i ∙ sym (b.basics i)) in
    let y = ext_get_or 0 r.tightened q.tightened (a.tight_length ∙ sym b.tight_length) (λ i h. a.tights i ∙ sym (b.tights i)) in
    λ i. record { basic = x i; tightened = y i; rounds = n i }

-- whether it is bounds or a refusal
pub bounds_answer_once : (s : FlowSet) (r q : Result AllBounds Fault) → AllBoundsAnswer s r → AllBoundsAnswer s q → r ≡ q
bounds_answer_once s (Ok r) (Ok q) a b = ap Ok (all_bounds_once s r q a b)
bounds_answer_once s (Ok r) (Err q) a b = not_both s q a.passed b
bounds_answer_once s (Err r) (Ok q) a b = not_both s r b.passed a
bounds_answer_once s (Err r) (Err q) a b = ap Err (refused_once s r q a b)
