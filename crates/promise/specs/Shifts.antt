-- Two states of a set that are h slots apart, where h is a number of whole periods of every flow and all flows start at 0: releases and
-- deadlines are h later too. An order of priority shifts if it then says the same of every two flows; document 01's does.
use Rattle.std.specs.Prelude.{◌≡◌, refl, Bool, true, false, ◌&&◌, ◌||◌, ℕ, ◌+◌, ◌-◌, ◌*◌, ◌/◌, ◌%◌, ◌≤◌, ◌<◌, ltb, eqb}
use Rattle.std.proofs.Common.{sym, ap, ap₂, ◌∙◌, div-add-mod', mul_assoc, arith, lt-ltb, le-ltb, eq-eqb, ne_eqb, eqb-true}
use Rattle.std.proofs.Math.Nat.{add-mul-div_right, mul-mod_left}
use Rattle.std.proofs.Math.Decide.{dec_le}
use Rattle.std.proofs.lemmas.Bool.{eqb-false}
use Rattle.model.specs.declared.kinds.FlowSet.{FlowSet}
use Rattle.model.specs.declared.kinds.State.{State}
use Rattle.model.specs.Refusals.{good}
use Rattle.model.specs.Sets.{flow_at}
use Rattle.document.specs.Reader.{record_fault}
use Rattle.document.specs.Delay.{period}
use Rattle.document.specs.Machine.{Priority, release_at, deadline_at, had_at, due_at, ahead}
use Rattle.laws.specs.Accepted.{accepted}
use Rattle.promise.specs.Load.{latest_release}
use Rattle.promise.specs.Repeated.{FromZero}

-- an accepted set whose starts are all 0
abbrev pub AllFromZero : FlowSet → Type 0
AllFromZero s = (good (record_fault s).refusal ≡ true) × FromZero s

-- and h slots that are whole periods of every flow
pub record Whole (s : FlowSet) (h : ℕ) : Type 0 where
  pub zero_starts : AllFromZero s
  pub divided : (k : ℕ) → k < s.count → h % period s k ≡ 0

-- the later state is h slots later, and the packets have had as many transmissions
pub record Shifted (s : FlowSet) (h : ℕ) (st later : State) : Type 0 where
  pub slot : later.slot.0 ≡ st.slot.0 + h
  pub had : (k : ℕ) → k < s.count → had_at s later k ≡ had_at s st k

-- an order of priority that says the same in both
abbrev pub Shifts : Priority → Type 0
Shifts first = (s : FlowSet) (h : ℕ) (st later : State) → Whole s h → Shifted s h st later
    → (k l : ℕ) → k < s.count → l < s.count → first s later k l ≡ first s st k l

-- whole periods, several times
pub whole_times : {s : FlowSet} {h : ℕ} → Whole s h → (q : ℕ) → Whole s (q * h)
whole_times {s} {h} w q = record { zero_starts = w.zero_starts; divided = λ k i. divided k i }
  where
    divided : (k : ℕ) → k < s.count → q * h % period s k ≡ 0
    divided k i =
        let e : h / period s k * period s k ≡ h = omega (arith, div-add-mod' h (period s k), w.divided k i) in
        let f : q * h ≡ q * (h / period s k) * period s k = ap (λ (x : ℕ). q * x) (sym e) ∙ sym (mul_assoc q (h / period s k) (period s k)) in
        ap (λ (x : ℕ). x % period s k) f ∙ mul-mod_left (q * (h / period s k)) (period s k)

-- tests of two numbers that are both h more
pub ltb_more : (a b h : ℕ) → ltb (a + h) (b + h) ≡ ltb a b
ltb_more a b h =
    elim (dec_le b a) [
      | yes l ↦ le-ltb (a + h) (b + h) (omega arith) ∙ sym (le-ltb a b l)
      | no l ↦ lt-ltb (a + h) (b + h) (omega arith) ∙ sym (lt-ltb a b (omega arith))
    ]

pub eqb_more : (a b h : ℕ) → eqb (a + h) (b + h) ≡ eqb a b
eqb_more a b h = go (eqb a b) refl
  where
    go : (c : Bool) → eqb a b ≡ c → eqb (a + h) (b + h) ≡ c
    go true e = eq-eqb (a + h) (b + h) (omega (arith, eqb-true a b e))
    go false e = ne_eqb (a + h) (b + h) (λ q. eqb-false a b e (omega arith))

-- whole periods later the latest release is as much later
latest_later : (a T t h : ℕ) → 0 < T → a ≤ t → h % T ≡ 0 → latest_release a T (t + h) ≡ latest_release a T t + h
latest_later a T t h p l z =
    let e : t + h - a ≡ t - a + h / T * T = omega (arith, div-add-mod' h T) in
    let d = add-mul-div_right (t - a) (h / T) p in
    ap (λ (x : ℕ). a + x / T * T) e ∙ ap (λ (x : ℕ). a + x * T) d ∙ omega (arith, div-add-mod' h T)

module _ {s : FlowSet} {h : ℕ} (w : Whole s h) where
  pub period_pos : (k : ℕ) → k < s.count → 0 < period s k
  period_pos k i = ((accepted s w.zero_starts.0).flow k i).period_pos

  -- so it is with the releases and deadlines of the set's flows
  pub release_later : (k t : ℕ) → k < s.count → release_at (flow_at s k) (t + h) ≡ release_at (flow_at s k) t + h
  release_later k t i =
      latest_later (flow_at s k).start (period s k) t h (period_pos k i) (omega (arith, w.zero_starts.1 k i)) (w.divided k i)

  pub due_later : (k t : ℕ) → k < s.count → deadline_at (flow_at s k) (t + h) ≡ deadline_at (flow_at s k) t + h
  due_later k t i = omega (arith, release_later k t i)

  pub due_shifted : (st later : State) → Shifted s h st later → (k : ℕ) → k < s.count → due_at s later k ≡ due_at s st k + h
  due_shifted st later d k i = ap (deadline_at (flow_at s k)) d.slot ∙ due_later k st.slot.0 i

-- Document 01's order shifts.
pub deadline_shifts : Shifts ahead
deadline_shifts s h st later w d k l i j =
    let a = due_shifted w st later d k i in
    let b = due_shifted w st later d l j in
    ap₂ (λ (x y : Bool). x || (y && ltb k l))
    (ap₂ ltb a b ∙ ltb_more (due_at s st k) (due_at s st l) h)
    (ap₂ eqb a b ∙ eqb_more (due_at s st k) (due_at s st l) h)
