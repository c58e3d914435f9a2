-- One lemma for every test on document 01's machine: a list v that is at most the deadlines and at least the values that it gives, cut at the
-- deadlines.
use Rattle.std.specs.Prelude.{◌≡◌, true, List, ℕ, ◌+◌, ◌≤◌, ◌<◌, min, get_or}
use Rattle.model.specs.declared.kinds.FlowSet.{FlowSet}
use Rattle.model.specs.Limits.{last_slot}
use Rattle.model.specs.Refusals.{good}
use Rattle.model.specs.Sets.{flow_at}
use Rattle.document.specs.Reader.{record_fault}
use Rattle.document.specs.Delay.{deadline, work_at, value_at}
use Rattle.document.specs.Machine.{ahead, release}
use Rattle.laws.specs.SumLaws.{count}
use Rattle.promise.specs.Within.{done}
use Rattle.promise.specs.DeadlineOrder.{deadline_order}
use Rattle.promise.specs.Timetable.{placed_in, timetable, urgent, value_is}

module _ (s : FlowSet) (g : good (record_fault s).refusal ≡ true) (v : List ℕ)
    (fit : (l : ℕ) → l < s.count → get_or v l 0 ≤ deadline s l)
    (holds : (l : ℕ) → l < s.count → min (deadline s l) (value_at s v l) ≤ get_or v l 0) where
  -- every packet of a flow whose value is at most its deadline is complete in that many slots
  pub complete : (k j : ℕ) → k < s.count → value_at s v k ≤ deadline s k → release (flow_at s k) j + value_at s v k ≤ last_slot
      → count (placed_in ahead s k) (release (flow_at s k) j) (value_at s v k) ≡ work_at s k
  complete k j l d h =
      rw (value_is s g v k) at (done (timetable deadline_order s g) (urgent s g) (λ l. get_or v l 0) fit (λ l i. rw (value_is s g v l) (holds l i)) k j l
      (rw (value_is s g v k) d) (rw (value_is s g v k) h))
