-- What `used` keeps: the map, the count, and each flow below the count without the entries beyond its route's end. So two records
-- that are the same set have the same answers, since every answer is a function of what is kept.
use Rattle.std.specs.Prelude.{◌≡◌, refl, ℕ, ◌<◌, take}
use Rattle.std.proofs.Common.{ap, ◌∙◌, get_or-take}
use Rattle.std.proofs.Math.ListN.{get_or-map}
use Rattle.model.specs.declared.kinds.FlowSet.{FlowSet}
use Rattle.model.specs.declared.kinds.State.{State}
use Rattle.model.specs.Sets.{no_flow, flow_at, exact, used, SameSet}
use Rattle.document.specs.Reader.{record_fault, text_of}
use Rattle.document.specs.Delay.{verdict_of, bounds_of}
use Rattle.document.specs.Machine.{step_of, run_of}

pub used_map : (s : FlowSet) → (used s).map ≡ s.map
unfolding used
used_map s = refl

pub used_count : (s : FlowSet) → (used s).count ≡ s.count
unfolding used
used_count s = refl

pub used_flow : (s : FlowSet) (k : ℕ) → k < s.count → flow_at (used s) k ≡ exact (flow_at s k)
unfolding used
used_flow s k h =
    get_or-map exact (take s.count s.flows) k no_flow ∙ ap exact (get_or-take s.count s.flows k no_flow h)

-- records that are the same set get the same text, check, bounds, verdicts, steps and runs
pub record SameAnswers (s t : FlowSet) : Type 0 where
  pub text : text_of (used s) ≡ text_of (used t)
  pub check : record_fault (used s) ≡ record_fault (used t)
  pub verdicts : verdict_of (used s) ≡ verdict_of (used t)
  pub bounds : (k : ℕ) → bounds_of (used s) k ≡ bounds_of (used t) k
  pub steps : (st : State) → step_of (used s) st ≡ step_of (used t) st
  pub runs : (n : ℕ) → run_of (used s) n ≡ run_of (used t) n

pub same_answers : (s t : FlowSet) → SameSet s t → SameAnswers s t
same_answers s t e =
    record {
      text = ap text_of e;
      check = ap record_fault e;
      verdicts = ap verdict_of e;
      bounds = λ k. ap (λ (u : FlowSet). bounds_of u k) e;
      steps = λ st. ap (λ (u : FlowSet). step_of u st) e;
      runs = λ n. ap (λ (u : FlowSet). run_of u n) e;
    }
