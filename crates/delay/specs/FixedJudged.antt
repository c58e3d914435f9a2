-- The flows judged in order: as long as each keeps its deadline the next is judged, and the first that does not is the last.
use Rattle.std.specs.Prelude.{◌≡◌, true, false, List, ℕ, ◌+◌, ◌≤◌, ◌<◌, get_or, set, replicate}
use Rattle.std.proofs.Math.Path.{sym}
use Rattle.std.proofs.Common.{◌∙◌, le_trans, le_of_eq, le_refl, arith}
use Rattle.std.proofs.Math.Decide.{dec_le}
use Rattle.model.specs.declared.kinds.FlowSet.{FlowSet}
use Rattle.model.specs.Limits.{most_flows}
use Rattle.document.specs.Delay.{deadline}
use Rattle.document.specs.Fixed.{bound_after, fixed_bound, fixed_list, judged}
use Rattle.laws.specs.FixedBounds.{judged_count, after_ext, judged_bound, unjudged_bound, all_keep, judged_first, judged_next, judged_ends, judged_below, judged_count_law}
use Rattle.delay.specs.PairGrids.{FilledTo, filled_start, filled_next}
use Rattle.delay.specs.declared.fixed.AllFixed.{AllFixed}

-- the bounds of the flows below k, all kept: so k is judged
pub record JudgedTo (s : FlowSet) (k : ℕ) (bs : List ℕ) : Type 0 where
  pub bounds : FilledTo (fixed_bound s) k bs
  pub this : judged s k ≡ true

-- every flow's bound, and how many are judged
pub record AllJudged (s : FlowSet) (r : AllFixed) : Type 0 where
  pub bounds : FilledTo (fixed_bound s) s.count r.bound
  pub count : r.judged ≡ judged_count s

pub judged_start : (s : FlowSet) → JudgedTo s 0 (replicate most_flows 0)
judged_start s = record { bounds = filled_start (fixed_bound s); this = judged_first s }

-- where the first j flows are judged and no others, their bounds are all
first_judged : (s : FlowSet) (j : ℕ) (r : AllFixed) → j ≤ s.count → FilledTo (fixed_bound s) j r.bound → r.judged ≡ j
    → ((i : ℕ) → i < j → judged s i ≡ true) → ((i : ℕ) → j ≤ i → i < s.count → judged s i ≡ false) → AllJudged s r
first_judged s j r h b n yes-below no_above =
    record {
      bounds = record {
        whole = b.whole;
        entry = λ i l. elim (dec_le j i) [
          | yes q ↦ b.none i q ∙ sym (unjudged_bound s i l (no_above i q l))
          | no q ↦ b.entry i (omega arith)
        ];
        none = λ i l. b.none i (omega arith);
      };
      count = n ∙ sym (judged_count_law s j h yes-below no_above);
    }

-- all flows keep their deadlines, and all are judged
pub all_kept : (s : FlowSet) (r : AllFixed) → JudgedTo s s.count r.bound → r.judged ≡ s.count → AllJudged s r
all_kept s r o n =
    first_judged s s.count r (le_refl s.count) o.bounds n (λ i l. judged_below s i s.count (omega arith) o.this) (λ i l u. absurd (omega arith))

module _ (s : FlowSet) (k : ℕ) (bs : List ℕ) (o : JudgedTo s k bs) where
  pub kept_below : (l : ℕ) → l < k → get_or bs l 0 ≤ deadline s l
  kept_below l i = le_trans (le_of_eq (o.bounds.entry l i)) (all_keep s k o.this l i)

  module _ (h : k < s.count) (most : s.count ≤ most_flows) (x : ℕ) (e : x ≡ bound_after s bs k) where
    -- the bound of k
    this_bound : x ≡ fixed_bound s k
    unfolding fixed_bound
    this_bound = e ∙ after_ext s bs (fixed_list s) k (λ l i. o.bounds.entry l i) ∙ sym (judged_bound s k h o.this)

    -- it is kept, and the next flow is judged
    pub judged_on : x ≤ deadline s k → JudgedTo s (k + 1) (set bs k x)
    judged_on i =
        record {
          bounds = filled_next (fixed_bound s) k bs x (omega arith) o.bounds this_bound;
          this = judged_next s k o.this (le_trans (le_of_eq (sym this_bound)) i);
        }

    -- it is not, and k is the last that is judged
    pub judged_over : deadline s k < x → (r : AllFixed) → r.bound ≡ set bs k x → r.judged ≡ k + 1 → AllJudged s r
    judged_over i r b n =
        first_judged s (k + 1) r (omega arith) (rw b (filled_next (fixed_bound s) k bs x (omega arith) o.bounds this_bound)) n
        (λ j l. judged_below s j k (omega arith) o.this)
        (λ j l u. judged_ends s k j (rw (← this_bound) i) (omega arith))
