-- A flow number beyond the last flow's may be cut to the count: no flow has either number.
use Rattle.std.specs.Prelude.{◌≡◌, refl, Bool, true, false, cond, ℕ, ◌≤◌, ltb}
use Rattle.std.proofs.Common.{sym, ap, ◌∙◌, le_refl, le-leb, ltb-false}
use Rattle.model.specs.declared.kinds.FlowSet.{FlowSet}
use Rattle.model.specs.declared.answers.Fault.{Fault}
use Rattle.model.specs.declared.answers.Refusal.TheVariants.{NoSuchFlow}
use Rattle.model.specs.Refusals.{good, or_else, fault_at, refused_bounds, refused_fixed_bounds}
use Rattle.model.specs.Sets.{used}
use Rattle.document.specs.Delay.{bounds_of, bounds_fault, bounds_if}
use Rattle.document.specs.Fixed.{fixed_bounds_of, fixed_bounds_if}
use Rattle.document.specs.Reader.{record_fault}
use Rattle.laws.specs.Used.{used_count}

-- 13, if the set is not refused itself
abbrev no_such : FlowSet → Fault
no_such s = or_else (record_fault s) (fault_at NoSuchFlow 0)

fault_beyond : (s : FlowSet) (k : ℕ) → s.count ≤ k → bounds_fault s k ≡ no_such s
unfolding bounds_fault
fault_beyond s k h = rw (le-leb s.count k h)

never_good : (f : Fault) → good (or_else f (fault_at NoSuchFlow 0)).refusal ≡ false
never_good f = go (good f.refusal) refl
  where
    go : (b : Bool) → good f.refusal ≡ b → good (cond b (fault_at NoSuchFlow 0) f).refusal ≡ false
    go true e = refl
    go false e = e

-- Of an answer that is refused where `bounds_fault` refuses: beyond the last flow every number has the same,
module _ {A : Type 0} (refused : Fault → A) (answer : FlowSet → ℕ → A)
    (refuses : (s : FlowSet) (k : ℕ) → good (bounds_fault s k).refusal ≡ false → answer s k ≡ refused (bounds_fault s k)) where
  beyond : (s : FlowSet) (k : ℕ) → s.count ≤ k → answer s k ≡ refused (no_such s)
  beyond s k h =
      refuses s k (ap (λ (f : Fault). good f.refusal) (fault_beyond s k h) ∙ never_good (record_fault s)) ∙ ap refused (fault_beyond s k h)

  -- so a number may be cut to the count.
  cut : (s : FlowSet) (flow : ℕ) → answer (used s) (cond (ltb flow s.count) flow s.count) ≡ answer (used s) flow
  cut s flow = go (ltb flow s.count) refl
    where
      go : (b : Bool) → ltb flow s.count ≡ b → answer (used s) (cond b flow s.count) ≡ answer (used s) flow
      go true e = refl
      go false e =
          beyond (used s) s.count (rw (used_count s) (le_refl s.count))
          ∙ sym (beyond (used s) flow (rw (used_count s) (ltb-false flow s.count e)))

-- document 01's bounds, and the bound with fixed priority
pub bounds_cut : (s : FlowSet) (flow : ℕ) → bounds_of (used s) (cond (ltb flow s.count) flow s.count) ≡ bounds_of (used s) flow
unfolding bounds_of
bounds_cut = cut refused_bounds bounds_of (λ s k. ap (bounds_if s k))

pub fixed_cut : (s : FlowSet) (flow : ℕ) → fixed_bounds_of (used s) (cond (ltb flow s.count) flow s.count) ≡ fixed_bounds_of (used s) flow
unfolding fixed_bounds_of
fixed_cut = cut refused_fixed_bounds fixed_bounds_of (λ s k. ap (fixed_bounds_if s k))
