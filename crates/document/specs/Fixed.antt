-- Document 02, request 4: plants that run fixed priority. The machine is document 01's with the lower flow number first in rule 4; then the test for
-- it, its answers, and what the program prints.
-- A set here is one without the entries that don't count (`used`), k the flow that is judged, l one below it, bs the bounds of the flows below k.
use mathlib.Core.{Bool.{Bool, true, false, not, cond}, List.{List, [], ◌∷◌, ◌++◌}}
use Rattle.std.specs.Prelude.{ℕ, zero, suc, ◌+◌, ◌-◌, ◌*◌, ◌/◌}
use lib.{Dec.{ltb}, ListN.{get_or}}
use Rattle.model.specs.declared.kinds.{FlowSet.{FlowSet}, State.{State}}
use Rattle.model.specs.declared.answers.{FixedVerdict.{FixedVerdict}, FixedBounds.{FixedBounds}, Stepped.{Stepped}, Ran.{Ran}, Written.{Written}}
use Rattle.model.specs.{Refusals.{good, no_fault, refused_fixed_verdict, refused_fixed_bounds}, Sums.{bit, sum_to, any_to}, Sets.{flow_at}}
use Rattle.document.specs.{Text.{line_of}, Reader.{record_fault}, Machine.{lower, step_with, run_with}}
use Rattle.document.specs.Delay.{ways, period, deadline, work_at, conflict_work, joined, admits, bounds_fault}
use Rattle.document.specs.Program.{bound_word, run_lines_with, print_text, print_answer, print_into}

-- the machine: a step and a run
abbrev pub fixed_step : FlowSet → State → Stepped
fixed_step = step_with lower

abbrev pub fixed_run : FlowSet → ℕ → Ran
fixed_run = run_with lower

-- a quotient rounded up
abbrev pub rounded_up : ℕ → ℕ → ℕ
rounded_up a b = (a + (b - 1)) / b

-- n: D of k + bound of l − 1, divided by T of l and rounded up
abbrev pub packets_first : FlowSet → List ℕ → ℕ → ℕ → ℕ
packets_first s bs k l = rounded_up (deadline s k + get_or bs l 0 - 1) (period s l)

-- the whole share n·C
abbrev pub whole_first : FlowSet → List ℕ → ℕ → ℕ → ℕ
whole_first s bs k l = packets_first s bs k l * work_at s l

-- the conflict share n·S
abbrev pub conflict_first : FlowSet → List ℕ → ℕ → ℕ → ℕ
conflict_first s bs k l = packets_first s bs k l * conflict_work (flow_at s k) (flow_at s l)

-- the bound of k, summed as in document 01 over the flows below it
unfoldable pub bound_after : FlowSet → List ℕ → ℕ → ℕ
bound_after s bs k = joined (work_at s k) (sum_to (conflict_first s bs k) k) (sum_to (whole_first s bs k) k) (ways s)

-- a flow below k is over its deadline
unfoldable pub some_over : FlowSet → List ℕ → ℕ → Bool
some_over s bs k = any_to (λ l. ltb (deadline s l) (get_or bs l 0)) k

-- after the first flow over its deadline the rest have bound 0
unfoldable pub judge_next : FlowSet → ℕ → List ℕ → List ℕ
judge_next s k bs = bs ++ (cond (some_over s bs k) 0 (bound_after s bs k) ∷ [])

-- flows 0 .. n − 1, judged in order
unfoldable pub fixed_to : FlowSet → ℕ → List ℕ
fixed_to s zero = []
fixed_to s (suc n) = judge_next s n (fixed_to s n)

-- the bounds of all flows, and that of k
abbrev pub fixed_list : FlowSet → List ℕ
fixed_list s = fixed_to s s.count

unfoldable pub fixed_bound : FlowSet → ℕ → ℕ
fixed_bound s k = get_or (fixed_list s) k 0

-- k is judged, unless a flow below it is over its deadline
unfoldable pub judged : FlowSet → ℕ → Bool
judged s k = not (some_over s (fixed_list s) k)

-- the verdict: admitted when every bound is at most its deadline; and how many flows were judged
abbrev pub fixed_verdict_if : FlowSet → Bool → FixedVerdict
fixed_verdict_if s true = record { fault = no_fault; admitted = admits s (fixed_bound s); judged = sum_to (λ k. bit (judged s k)) s.count }
fixed_verdict_if s false = refused_fixed_verdict (record_fault s)

unfoldable pub fixed_verdict_of : FlowSet → FixedVerdict
fixed_verdict_of s = fixed_verdict_if s (good (record_fault s).refusal)

-- one flow: C, bound, deadline, judged or not; the set's own refusals, then 13
abbrev pub fixed_bounds_if : FlowSet → ℕ → Bool → FixedBounds
fixed_bounds_if s k true =
    record { fault = no_fault; work = work_at s k; bound = fixed_bound s k; deadline = (flow_at s k).deadline; judged = judged s k }
fixed_bounds_if s k false = refused_fixed_bounds (bounds_fault s k)

unfoldable pub fixed_bounds_of : FlowSet → ℕ → FixedBounds
fixed_bounds_of s k = fixed_bounds_if s k (good (bounds_fault s k).refusal)

-- the program `fixed`; first `fixed`: admitted (1 or 0), judged
abbrev pub fixed_word : List ℕ
fixed_word = 102 ∷ 105 ∷ 120 ∷ 101 ∷ 100 ∷ []

abbrev pub fixed_line : FixedVerdict → List ℕ
fixed_line v = line_of fixed_word (bit v.admitted ∷ v.judged ∷ [])

-- `bound`: flow, C, bound, deadline, judged (1 or 0)
abbrev pub fixed_bound_line : ℕ → FixedBounds → List ℕ
fixed_bound_line k b = line_of bound_word (k ∷ b.work ∷ b.bound ∷ b.deadline.0 ∷ bit b.judged ∷ [])

unfoldable pub fixed_bound_lines : FlowSet → ℕ → List ℕ
fixed_bound_lines s zero = []
fixed_bound_lines s (suc n) = fixed_bound_lines s n ++ fixed_bound_line n (fixed_bounds_of s n)

-- and the `send` lines through slot 11
unfoldable pub fixed_of : FlowSet → List ℕ
fixed_of s = fixed_line (fixed_verdict_of s) ++ fixed_bound_lines s s.count ++ run_lines_with lower s 12

abbrev pub fixed_text : List ℕ → List ℕ
fixed_text = print_text fixed_of

abbrev pub fixed_answer : List ℕ → ℕ → Written
fixed_answer = print_answer fixed_of

abbrev pub fixed_into : List ℕ → List ℕ → List ℕ
fixed_into = print_into fixed_of
