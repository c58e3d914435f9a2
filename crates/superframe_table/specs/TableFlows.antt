-- What the flows of an accepted set say of its table: whether one starts late, and how many rows each has.
use Rattle.std.specs.Prelude.{◌≡◌, refl, Bool, List, [], ◌∷◌, ℕ, zero, suc, ◌+◌, ◌*◌, ◌/◌, ◌≤◌, ◌<◌, ltb, length, get_or, take}
use Rattle.std.specs.List.{list_any}
use Rattle.std.proofs.Common.{sym, ap, ap₂, ◌∙◌, le_trans, mul-le-mul_left, div-mul-le_self, arith}
use Rattle.std.proofs.Math.Bool.{or-false}
use Rattle.std.proofs.Math.Seq.{take-suc}
use Rattle.std.proofs.lemmas.List.Folds.{list_any-append}
use Rattle.model.specs.declared.kinds.{Flow.{Flow}, FlowSet.{FlowSet}}
use Rattle.model.specs.{Sums.{sum_to, any_to}, Sets.{flow_at, used, work}}
use Rattle.document.specs.{Delay.{period, work_at}, Superframe.{hyper, starts_late}}
use Rattle.promise.specs.Repeated.{row_count}
use Rattle.laws.specs.{Accepted.{GoodFlow}, SumLaws.{any_ext, sum_next}, Used.{used_count, used_flow}}

-- flow k starts at another slot than 0
abbrev pub late : FlowSet → ℕ → Bool
late s k = ltb 0 (flow_at s k).start

-- some flow of the record's first n does, where some entry of the list does
any_taken : (p : Flow → Bool) (fs : List Flow) (d : Flow) (n : ℕ) → n ≤ length fs → list_any p (take n fs) ≡ any_to (λ k. p (get_or fs k d)) n
unfolding any_to
any_taken p fs d zero h = refl
any_taken p fs d (suc n) h =
    rw (take-suc fs n d h, list_any-append p (take n fs) (get_or fs n d ∷ []), any_taken p fs d n (omega arith), or-false)

pub late_any : (s : FlowSet) (b : Bool) → s.count ≤ length s.flows → b ≡ list_any (λ f. ltb 0 f.start) (take s.count s.flows) → b ≡ starts_late (used s)
late_any s b h e =
    e ∙ any_taken (λ (f : Flow). ltb 0 f.start) s.flows _ s.count h
    ∙ any_ext (late s) (late (used s)) s.count (λ k l. ap (λ (f : Flow). ltb 0 f.start) (sym (used_flow s k l)))
    ∙ ap (any_to (late (used s))) (sym (used_count s))

-- C rows for each period: no more than slots, since C is at most T
pub rows_le : (f : Flow) (h : ℕ) → GoodFlow f → h / f.period.0 * work f ≤ h
rows_le f h g =
    le_trans (mul-le-mul_left (h / f.period.0) (le_trans g.work_le g.deadline_le)) (div-mul-le_self h f.period.0)

-- the rows of flow k
abbrev pub flow_rows : FlowSet → ℕ → ℕ
flow_rows s k = hyper s / period s k * work_at s k

pub rows_next : (s : FlowSet) (k rows more : ℕ) → k < s.count → rows ≡ sum_to (flow_rows (used s)) k
    → more ≡ hyper (used s) / (flow_at s k).period.0 * work (flow_at s k) → rows + more ≡ sum_to (flow_rows (used s)) (k + 1)
rows_next s k rows more l e d =
    let f : more ≡ flow_rows (used s) k = d ∙ ap (λ (f : Flow). hyper (used s) / f.period.0 * work f) (sym (used_flow s k l)) in
    ap₂ (λ (x y : ℕ). x + y) e f ∙ sym (sum_next (flow_rows (used s)) k)

pub rows_all : (s : FlowSet) (k rows : ℕ) → k ≡ s.count → rows ≡ sum_to (flow_rows (used s)) k → rows ≡ row_count (used s)
rows_all s k rows n e = e ∙ ap (sum_to (flow_rows (used s))) (n ∙ sym (used_count s))
