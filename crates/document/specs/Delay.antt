-- Document 01, "The two delay tests". The equations are source 000's (6), (8), (10) and (11), with source 001's 5.1 to 5.8 beside them.
-- 000's (12) misprints the contention sum; it is the whole share less the conflict share, as 001's 5.2 and 5.3 have it and 5.6 and 5.8
-- have it tightened. 001's W(ν) of 5.5 is not used: min(S, max(0, ·)) is 000's (11). Differences of naturals end at 0, which is document
-- 01's max(0, ·).
-- A set here is one without the entries that don't count (`used`), k the flow that is judged and l another.
use mathlib.Core.{Path.{◌≡◌}, Bool.{Bool, true, false, cond}, List.{List}}
use Rattle.std.specs.Prelude.{ℕ, zero, suc, ◌+◌, ◌-◌, ◌*◌, ◌/◌, ◌%◌, ◌≤◌, ◌<◌, min}
use lib.{Count.{ones}, Dec.{leb, eqb}, IntN.{pos, ◌-ℤ◌}, ListN.{length, get_or, take, drop, set}}
use Rattle.model.specs.declared.kinds.{Flow.{Flow}, FlowSet.{FlowSet}}
use Rattle.model.specs.declared.answers.{Fault.{Fault}, Verdict.{Verdict}, Bounds.{Bounds}, Refusal.TheVariants.{NoSuchFlow}}
use Rattle.model.specs.{Refusals.{good, fault_at, no_fault, or_else, refused_verdict, refused_bounds}, Sums.{bit, sum_to, all_to}, Sets.{links, work, flow_at, list_to, meet}}
use Rattle.document.specs.Reader.{record_fault}
use Rattle.document.specs.Text.{same}

-- m: how many bits of the channel map are ones
abbrev pub ways : FlowSet → ℕ
ways s = ones s.map.0

abbrev pub period : FlowSet → ℕ → ℕ
period s k = (flow_at s k).period.0

abbrev pub deadline : FlowSet → ℕ → ℕ
deadline s k = (flow_at s k).deadline.0

abbrev pub work_at : FlowSet → ℕ → ℕ
work_at s k = work (flow_at s k)

-- the two ends of link i
abbrev pub link : Flow → ℕ → List ℕ
link f i = take 2 (drop i f.route)

-- link i of l has an end on k's route
abbrev pub touches : Flow → Flow → ℕ → Bool
touches k l i = meet (link l i) k.route

-- S: κ of l times the number of l's links that have an end on k's route
unfoldable pub conflict_work : Flow → Flow → ℕ
conflict_work k l = l.tries * sum_to (λ i. bit (touches k l i)) (links l)

-- a share of l, of which a packet counts w, in k's window: q·w + min(w, r), where y stands for r
unfoldable pub share : ℕ → ℕ → ℕ → ℕ
share q w y = q * w + min w y

-- q and r: quotient and remainder of D of k by T of l
abbrev pub whole_packets : FlowSet → ℕ → ℕ → ℕ
whole_packets s k l = deadline s k / period s l

abbrev pub remainder : FlowSet → ℕ → ℕ → ℕ
remainder s k l = deadline s k % period s l

-- the whole share W, where y l stands for r
abbrev pub whole_share : FlowSet → (ℕ → ℕ) → ℕ → ℕ → ℕ
whole_share s y k l = share (whole_packets s k l) (work_at s l) (y l)

-- the conflict share X
abbrev pub conflict_share : FlowSet → (ℕ → ℕ) → ℕ → ℕ → ℕ
conflict_share s y k l = share (whole_packets s k l) (conflict_work (flow_at s k) (flow_at s l)) (y l)

-- a sum over the flows l ≠ k
unfoldable pub over_others : FlowSet → ℕ → (ℕ → ℕ) → ℕ
over_others s k f = sum_to (λ l. cond (eqb l k) 0 (f l)) s.count

-- C + ΣX + (ΣW − ΣX) / m, the one division rounded down after both sums
abbrev pub joined : ℕ → ℕ → ℕ → ℕ → ℕ
joined c x w m = c + x + (w - x) / m

unfoldable pub bound_with : FlowSet → (ℕ → ℕ) → ℕ → ℕ
bound_with s y k = joined (work_at s k) (over_others s k (conflict_share s y k)) (over_others s k (whole_share s y k)) (ways s)

-- the basic bound of k
unfoldable pub basic_bound : FlowSet → ℕ → ℕ
basic_bound s k = bound_with s (remainder s k) k

-- r − (D of l − v of l) in place of r
abbrev pub tightened : FlowSet → List ℕ → ℕ → ℕ → ℕ
tightened s v k l = remainder s k l - (deadline s l - get_or v l 0)

-- the equation's value at the list v
unfoldable pub value_at : FlowSet → List ℕ → ℕ → ℕ
value_at s v k = bound_with s (tightened s v k) k

-- every entry is the smaller of the flow's deadline and the equation's value at the list
pub record Settled (s : FlowSet) (v : List ℕ) : Type 0 where
  pub one_each : length v ≡ s.count
  pub entry : (k : ℕ) → k < s.count → get_or v k 0 ≡ min (deadline s k) (value_at s v k)

-- the greatest list: the largest of these, place by place
pub record Greatest (s : FlowSet) (v : List ℕ) : Type 0 where
  pub settled : Settled s v
  pub largest : (g : List ℕ) → Settled s g → (k : ℕ) → get_or g k 0 ≤ get_or v k 0

-- something holds of the greatest list
abbrev pub AtGreatest : FlowSet → (List ℕ → Type 0) → Type 0
AtGreatest s p = (v : List ℕ) × Greatest s v × p v

-- Rounds: start with v = D
unfoldable pub deadlines : FlowSet → List ℕ
deadlines s = list_to (deadline s) s.count

-- the entry of flow k replaced by the smaller of itself and the equation's value
unfoldable pub lowered : FlowSet → List ℕ → ℕ → List ℕ
lowered s v k = set v k (min (get_or v k 0) (value_at s v k))

-- a round as far as flow n: the flows in order, new entries used at once
unfoldable pub round_to : FlowSet → List ℕ → ℕ → List ℕ
round_to s v zero = v
round_to s v (suc n) = lowered s (round_to s v n) n

abbrev pub round_of : FlowSet → List ℕ → List ℕ
round_of s v = round_to s v s.count

-- what the rounds reach, and their number
pub record Reached : Type 0 where
  pub list : List ℕ
  pub rounds : ℕ

-- after n rounds the list is v: they stop after the first that changes nothing, and that one counts
unfoldable pub rounds_in : FlowSet → ℕ → ℕ → List ℕ → Reached
rounds_in s zero n v = record { list = v; rounds = n }
rounds_in s (suc fuel) n v =
    elim (same (round_of s v) v) [
      | true ↦ record { list = v; rounds = n + 1 }
      | false ↦ rounds_in s fuel (n + 1) (round_of s v)
    ]

-- never above 1 + Σ(D − C)
abbrev pub most_rounds : FlowSet → ℕ
most_rounds s = 1 + sum_to (λ k. deadline s k - work_at s k) s.count

unfoldable pub reached : FlowSet → Reached
reached s = rounds_in s (most_rounds s) 0 (deadlines s)

-- the tightened bound of k: the value at the greatest list, which the rounds reach
unfoldable pub tight_bound : FlowSet → ℕ → ℕ
tight_bound s k = value_at s (reached s).list k

-- a test admits when every bound is at most its deadline
unfoldable pub admits : FlowSet → (ℕ → ℕ) → Bool
admits s bound = all_to (λ k. leb (bound k) (deadline s k)) s.count

-- the verdicts of a set
abbrev pub verdict_if : FlowSet → Bool → Verdict
verdict_if s true = record { fault = no_fault; basic = admits s (basic_bound s); tightened = admits s (tight_bound s); rounds = (reached s).rounds }
verdict_if s false = refused_verdict (record_fault s)

unfoldable pub verdict_of : FlowSet → Verdict
verdict_of s = verdict_if s (good (record_fault s).refusal)

-- 13, after the set's own refusals
unfoldable pub bounds_fault : FlowSet → ℕ → Fault
bounds_fault s k = or_else (record_fault s) (cond (leb s.count k) (fault_at NoSuchFlow 0) no_fault)

-- one flow's bounds; margin is deadline less tightened bound, signed
abbrev pub bounds_if : FlowSet → ℕ → Bool → Bounds
bounds_if s k true =
    record {
      fault = no_fault;
      work = work_at s k;
      basic = basic_bound s k;
      tightened = tight_bound s k;
      deadline = (flow_at s k).deadline;
      margin = pos (deadline s k) -ℤ pos (tight_bound s k);
    }
bounds_if s k false = refused_bounds (bounds_fault s k)

unfoldable pub bounds_of : FlowSet → ℕ → Bounds
bounds_of s k = bounds_if s k (good (bounds_fault s k).refusal)
