-- The lines of both programs, one more at a time: a flow's bounds; and how long they can be.
use Rattle.std.specs.Prelude.{◌≡◌, refl, Bool, true, false, List, [], ◌∷◌, ◌++◌, ℕ, zero, suc, ◌+◌, ◌*◌, ◌≤◌, ◌<◌, pos, ◌-ℤ◌, length}
use Rattle.std.proofs.Common.{ap, add-one, arith, length-append}
use Rattle.model.specs.declared.kinds.FlowSet.{FlowSet}
use Rattle.model.specs.Refusals.{good}
use Rattle.model.specs.Sums.{bit}
use Rattle.model.specs.Sets.{used}
use Rattle.document.specs.Reader.{record_fault}
use Rattle.document.specs.Delay.{bounds_of, bounds_if, bounds_fault, verdict_of}
use Rattle.document.specs.Machine.{Priority, ahead, lower, sends_with, run_with}
use Rattle.document.specs.Program.{bound_lines, bound_word, run_lines_with, plan_of, verdict_word}
use Rattle.document.specs.Fixed.{fixed_verdict_of, fixed_bounds_of, fixed_word, fixed_bound_line, fixed_bound_lines, fixed_of}
use Rattle.laws.specs.Accepted.{accepted}
use Rattle.text.specs.Lengths.{line_le, bounds_le, sends_le}
use Rattle.plan_text.specs.{BoundText.{bound_text, bound_text_law}, PlanOfReading.{most_plan}}
use Rattle.machine.specs.StepLines.{sends_with_few}

-- the margin is deadline less bound, of a refused answer too
margin_is : (s : FlowSet) (k : ℕ) → (bounds_of s k).margin ≡ pos (bounds_of s k).deadline.0 -ℤ pos (bounds_of s k).tightened
unfolding bounds_of
margin_is s k = go (good (bounds_fault s k).refusal)
  where
    go : (b : Bool) → (bounds_if s k b).margin ≡ pos (bounds_if s k b).deadline.0 -ℤ pos (bounds_if s k b).tightened
    go true = refl
    go false = refl

-- one flow more
pub fixed_more : (s : FlowSet) (k : ℕ) → fixed_bound_lines s k ++ fixed_bound_line k (fixed_bounds_of s k) ≡ fixed_bound_lines s (k + 1)
unfolding fixed_bound_lines
fixed_more s k = rw add-one

pub bounds_more : (s : FlowSet) (k : ℕ) → bound_lines s k ++ bound_text k (bounds_of s k) ≡ bound_lines s (k + 1)
unfolding bound_lines
bounds_more s k = rw add-one (ap (λ (l : List ℕ). bound_lines s k ++ l) (bound_text_law k (bounds_of s k) (margin_is s k)))

-- ---- how long they can be

run_le : (first : Priority) (s : FlowSet) → s.map.0 < 65536 → (n : ℕ) → length (run_lines_with first (used s) n) ≤ 1136 * n
unfolding run_lines_with
run_le first s m zero = omega arith
run_le first s m (suc n) =
    let a = run_le first s m n in
    let b = sends_with_few first s (run_with first (used s) n).last m in
    let c = sends_le (sends_with first (used s) (run_with first (used s) n).last) in
    simp length-append (omega arith)

pub plan_le : (s : FlowSet) → s.map.0 < 65536 → good (record_fault (used s)).refusal ≡ true → length (plan_of (used s)) ≤ most_plan
unfolding plan_of
plan_le s m h =
    let a = line_le verdict_word (bit (verdict_of (used s)).basic ∷ bit (verdict_of (used s)).tightened ∷ (verdict_of (used s)).rounds ∷ []) in
    let b = bounds_le (used s) (used s).count in
    let c = run_le ahead s m 12 in
    let d = (accepted (used s) h).count_le in
    simp length-append (omega arith)

fixed_bounds_le : (s : FlowSet) (n : ℕ) → length (fixed_bound_lines s n) ≤ 61 * n
unfolding fixed_bound_lines
fixed_bounds_le s zero = omega arith
fixed_bounds_le s (suc n) =
    let b = fixed_bounds_of s n in
    let a = line_le bound_word (n ∷ b.work ∷ b.bound ∷ b.deadline.0 ∷ bit b.judged ∷ []) in
    let c = fixed_bounds_le s n in
    simp length-append (omega arith)

pub fixed_le : (s : FlowSet) → s.map.0 < 65536 → good (record_fault (used s)).refusal ≡ true → length (fixed_of (used s)) ≤ most_plan
unfolding fixed_of
fixed_le s m h =
    let a = line_le fixed_word (bit (fixed_verdict_of (used s)).admitted ∷ (fixed_verdict_of (used s)).judged ∷ []) in
    let b = fixed_bounds_le (used s) (used s).count in
    let c = run_le lower s m 12 in
    let d = (accepted (used s) h).count_le in
    simp length-append (omega arith)
