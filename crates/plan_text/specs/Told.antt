-- What a program tells of a set, part after part: the verdict's line, a line of each flow, the lines of twelve slots.
use Rattle.std.specs.Prelude.{◌≡◌, refl, List, [], ◌++◌, ℕ, ◌+◌}
use Rattle.model.specs.declared.kinds.FlowSet.{FlowSet}
use Rattle.document.specs.Delay.{bounds_of, verdict_of}
use Rattle.document.specs.Machine.{Priority, ahead, lower}
use Rattle.document.specs.Program.{bound_lines, plan_of, run_lines_with, verdict_line}
use Rattle.document.specs.Fixed.{fixed_bound_line, fixed_bound_lines, fixed_bounds_of, fixed_line, fixed_of, fixed_verdict_of}
use Rattle.plan_text.specs.{BoundText.{bound_text}, PlanLength.{bounds_more, fixed_more, plan_le, fixed_le}, PlanInBuffer.{Short}}

pub record ToldLaws (order : Priority) (first : FlowSet → List ℕ) (flow flows : FlowSet → ℕ → List ℕ) (all : FlowSet → List ℕ) : Type 0 where
  pub none : (s : FlowSet) → flows s 0 ≡ []
  pub more : (s : FlowSet) (k : ℕ) → flows s k ++ flow s k ≡ flows s (k + 1)
  pub parts : (s : FlowSet) → first s ++ flows s s.count ++ run_lines_with order s 12 ≡ all s
  pub short : Short all

pub plan_laws : ToldLaws ahead (λ s. verdict_line (verdict_of s)) (λ s k. bound_text k (bounds_of s k)) bound_lines plan_of
unfolding bound_lines plan_of
plan_laws = record { none = λ s. refl; more = bounds_more; parts = λ s. refl; short = plan_le }

pub fixed_laws : ToldLaws lower (λ s. fixed_line (fixed_verdict_of s)) (λ s k. fixed_bound_line k (fixed_bounds_of s k)) fixed_bound_lines fixed_of
unfolding fixed_bound_lines fixed_of
fixed_laws = record { none = λ s. refl; more = fixed_more; parts = λ s. refl; short = fixed_le }
