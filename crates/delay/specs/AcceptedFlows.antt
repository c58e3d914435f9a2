-- What the record check says of a set and of its flows.
use Rattle.std.specs.Prelude.{◌≡◌, Bool, true, false, not, ℕ, ◌≤◌, ◌<◌}
use Rattle.std.proofs.Common.{sym, ap, ◌∙◌}
use Rattle.std.proofs.lemmas.Bool.{false≢true, not-true, not-false}
use Rattle.model.specs.declared.kinds.FlowSet.{FlowSet}
use Rattle.model.specs.declared.answers.Fault.{Fault}
use Rattle.model.specs.Limits.{most_flows}
use Rattle.model.specs.Refusals.{good}
use Rattle.model.specs.Sets.{flow_at, exact, used}
use Rattle.document.specs.Reader.{record_fault}
use Rattle.laws.specs.Accepted.{Accepted, GoodFlow}
use Rattle.laws.specs.Used.{used_flow, used_count}

-- whether the check refuses the set
pub not_refused : (f g : Fault) (b : Bool) → f ≡ g → b ≡ not (good f.refusal) → b ≡ false → good g.refusal ≡ true
not_refused f g b e h z = not-false (good g.refusal) (sym (h ∙ ap (λ (x : Fault). not (good x.refusal)) e) ∙ z)

pub is_refused : (f g : Fault) (b : Bool) → f ≡ g → b ≡ not (good f.refusal) → b ≡ true → good g.refusal ≡ false
is_refused f g b e h z = not-true (good g.refusal) (sym (h ∙ ap (λ (x : Fault). not (good x.refusal)) e) ∙ z)

-- why the record check refuses the set
pub record RefusedBy (s : FlowSet) (f : Fault) : Type 0 where
  pub refused : good (record_fault s).refusal ≡ false
  pub fault : f ≡ record_fault s

-- no set is accepted and refused, and a set is refused by one fault
pub not_both : {A : Type 0} (s : FlowSet) (f : Fault) → good (record_fault s).refusal ≡ true → RefusedBy s f → A
not_both s f a r = absurd (false≢true (sym r.refused ∙ a))

pub refused_once : (s : FlowSet) (f g : Fault) → RefusedBy s f → RefusedBy s g → f ≡ g
refused_once s f g a b = a.fault ∙ sym b.fault

-- a flow of an accepted set, as the record has it
pub good_at : (s : FlowSet) → Accepted (used s) → (k : ℕ) → k < s.count → GoodFlow (exact (flow_at s k))
good_at s a k h =
    let l : k < (used s).count = rw (used_count s) h in
    rw (used_flow s k h) at (a.flow k l)

pub count_at_law : (s : FlowSet) → Accepted (used s) → s.count ≤ most_flows
count_at_law s a = rw (used_count s) at a.count_le
