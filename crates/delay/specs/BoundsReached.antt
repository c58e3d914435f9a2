-- From the values at the first and at the last list to the bounds, and to the answer for all flows.
use Rattle.std.specs.Prelude.{◌≡◌, true, List, ℕ, ◌-◌, ◌≤◌, ◌<◌, get_or, replicate}
use Rattle.std.proofs.Common.{sym, ap, ◌∙◌, le_trans, le_of_eq, arith}
use Rattle.model.specs.declared.kinds.FlowSet.{FlowSet}
use Rattle.document.specs.Delay.{ways, basic_bound, reached, tight_bound, deadlines}
use Rattle.delay.specs.PairGrids.{zeros}
use Rattle.delay.specs.DelayTables.{TablesHold}
use Rattle.delay.specs.declared.tables.Tables.{Tables}
use Rattle.model.specs.Limits.{most_flows}
use Rattle.model.specs.Refusals.{good}
use Rattle.delay.specs.declared.verdicts.AllBounds.{AllBounds}
use Rattle.std.proofs.Math.Decide.{dec_le}
use Rattle.model.specs.declared.answers.Verdict.{Verdict}
use Rattle.model.specs.declared.answers.Bounds.{Bounds}
use Rattle.document.specs.Reader.{record_fault}
use Rattle.laws.specs.Values.{list_entry, value_at_deadlines, deadlines_entry}
use Rattle.delay.specs.EquationValues.{table_value, value_carried, ValuesTo}
use Rattle.delay.specs.AllBounds.{AllBoundsOf}
use Rattle.delay.specs.OneRound.{list_of_slack, SlackWithin}
use Rattle.delay.specs.VerdictAnswers.{verdict_good, bounds_none, bounds_given}

-- both bounds of every flow, and the number of rounds
pub record BothBoundsOf (s : FlowSet) (r : AllBounds) : Type 0 where
  pub basics : ValuesTo (basic_bound s) s.count r.basic
  pub tights : ValuesTo (tight_bound s) s.count r.tightened
  pub rounds : r.rounds ≡ (reached s).rounds

-- the value without slack is the basic bound
pub basic_carried : (s : FlowSet) → s.count ≤ most_flows → (t : Tables) → TablesHold s t → (m : ℕ) → m ≡ ways s → (k : ℕ) → k < s.count
    → table_value t m (replicate most_flows 0) k ≡ basic_bound s k
basic_carried s n t o m c k h =
    ap (λ (x : ℕ). table_value t x (replicate most_flows 0) k) c
    ∙ value_carried s n t o (replicate most_flows 0) k h (deadlines s) (λ l i. let z = zeros most_flows l in let e = deadlines_entry s l i in omega arith)
    ∙ value_at_deadlines s k

-- the value at the last list is the tightened bound
pub tight_carried : (s : FlowSet) → s.count ≤ most_flows → (t : Tables) → TablesHold s t → (m : ℕ) → m ≡ ways s
    → (g : List ℕ) → SlackWithin t.numbers.deadline g s.count → list_of_slack t.numbers.deadline g s.count ≡ (reached s).list → (k : ℕ) → k < s.count → table_value t m g k ≡ tight_bound s k
unfolding tight_bound
tight_carried s n t o m q g b e k h =
    ap (λ (x : ℕ). table_value t x g k) q
    ∙ value_carried s n t o g k h (reached s).list
    (λ l i. let a = list_entry (λ j. get_or t.numbers.deadline j 0 - get_or g j 0) s.count l i in
    let c = ap (λ (u : List ℕ). get_or u l 0) e in
    let z = o.numbers.deadlines.entry l i in
    let p = b l i in
    omega arith)

pub values_ext : (f g : ℕ → ℕ) (n : ℕ) (x : List ℕ) → ((k : ℕ) → k < n → f k ≡ g k) → ValuesTo f n x → ValuesTo g n x
values_ext f g n x e o =
    record {
      entries = record { whole = o.entries.whole; entry = λ i h. o.entries.entry i h ∙ e i h; none = o.entries.none };
      small = λ i h. le_trans (le_of_eq (sym (e i h))) (o.small i h);
    }

-- the answer for all flows of a set that the check passes
pub all_given : (s : FlowSet) (r : AllBounds) → good (record_fault s).refusal ≡ true → BothBoundsOf s r → AllBoundsOf s r
all_given s r e j =
    let v = verdict_good s e in
    record {
      passed = e;
      rounds = j.rounds ∙ sym (ap (λ (x : Verdict). x.rounds) v);
      basic_length = j.basics.entries.whole;
      tight_length = j.tights.entries.whole;
      basics = λ k. elim (dec_le s.count k) [
        | yes h ↦ j.basics.entries.none k h ∙ ap (λ (x : Bounds). x.basic) (bounds_none s k e h)
        | no h ↦ let l : k < s.count = omega arith in
            j.basics.entries.entry k l ∙ ap (λ (x : Bounds). x.basic) (bounds_given s k e l)
      ];
      tights = λ k. elim (dec_le s.count k) [
        | yes h ↦ j.tights.entries.none k h ∙ ap (λ (x : Bounds). x.tightened) (bounds_none s k e h)
        | no h ↦ let l : k < s.count = omega arith in
            j.tights.entries.entry k l ∙ ap (λ (x : Bounds). x.tightened) (bounds_given s k e l)
      ];
      small = λ k. elim (dec_le s.count k) [
        | yes h ↦ omega (arith, ap (λ (x : Bounds). x.tightened) (bounds_none s k e h))
        | no h ↦ let l : k < s.count = omega arith in
            omega (arith, ap (λ (x : Bounds). x.tightened) (bounds_given s k e l), j.tights.small k l)
      ];
    }
