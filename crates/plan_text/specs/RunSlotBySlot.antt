-- The lines of a run, one more slot at a time, with any order of priority.
use Rattle.std.specs.Prelude.{◌≡◌, ℕ, ◌+◌, ◌<◌, take}
use Rattle.std.proofs.Common.{sym, ap, ◌∙◌, add-one, arith}
use Rattle.std.proofs.Math.Bool.{true}
use mathlib.Core.List.{List, ◌++◌}
use Rattle.model.specs.declared.kinds.FlowSet.{FlowSet}
use Rattle.model.specs.declared.answers.Ran.{Ran}
use Rattle.model.specs.declared.answers.Stepped.{Stepped}
use Rattle.model.specs.Limits.{last_slot}
use Rattle.model.specs.Refusals.{good}
use Rattle.model.specs.Sets.{used}
use Rattle.document.specs.Reader.{record_fault}
use Rattle.document.specs.Machine.{Priority, step_with, step_if_with, run_with}
use Rattle.document.specs.Program.{run_lines_with, send_lines}
use Rattle.machine.specs.States.{good_not_bad, step_with_good, run_with_next, run_with_good}
use Rattle.machine.specs.StepLines.{lines_with_law}

module _ (first : Priority) where
  -- a step of a run from the fresh state is good
  run_step : (s : FlowSet) (t : ℕ) → good (record_fault s).refusal ≡ true → t < last_slot
      → step_with first s (run_with first s t).last ≡ step_if_with first s (run_with first s t).last true
  run_step s t g l =
      let r = run_with_good first s g t (omega arith) in
      step_with_good first s (run_with first s t).last g (good_not_bad s (run_with first s t).last r.good_last) (omega (arith, r.slot_is))

  -- one slot more
  pub run_more_law : (s : FlowSet) (t : ℕ) (a : Stepped) → good (record_fault (used s)).refusal ≡ true → s.map.0 < 65536 → t < last_slot
      → a ≡ step_with first (used s) (run_with first (used s) t).last
      → run_lines_with first (used s) t ++ send_lines (take a.sends a.sent) ≡ run_lines_with first (used s) (t + 1)
  unfolding run_lines_with
  run_more_law s t a h m l e =
      let f : a ≡ step_if_with first (used s) (run_with first (used s) t).last true = e ∙ run_step (used s) t h l in
      rw (add-one, f) (ap (λ (x : List ℕ). run_lines_with first (used s) t ++ x) (sym (lines_with_law first s (run_with first (used s) t).last m)))

  pub run_last : (s : FlowSet) (t : ℕ) (a : Stepped) → a ≡ step_with first s (run_with first s t).last → a.next ≡ (run_with first s (t + 1)).last
  run_last s t a e = ap (λ (x : Stepped). x.next) e ∙ sym (ap (λ (r : Ran). r.last) (run_with_next first s t))
