-- Document 01's order of priority, earlier absolute deadline and then lower flow number, is a strict total order of the flows.
use Rattle.std.specs.Prelude.{◌≡◌, refl, ◌≢◌, ◌⊎◌, Bool, true, false, ℕ, ◌≤◌, ◌<◌, ltb, eqb}
use Rattle.std.proofs.Common.{sym, ◌∙◌, inl, inr, arith, ltb-true, eqb-true, lt-ltb, eq-eqb}
use Rattle.std.proofs.lemmas.Bool.{false≢true}
use Rattle.std.proofs.Math.Decide.{dec_le}
use Rattle.model.specs.declared.kinds.FlowSet.{FlowSet}
use Rattle.model.specs.declared.kinds.State.{State}
use Rattle.document.specs.Machine.{due_at, ahead}
use Rattle.laws.specs.SumLaws.{and_l, and_r, and_i, or_case, or_l, or_r}
use Rattle.promise.specs.SlotChoice.{Ordering}

-- the two ways to go ahead
pub ahead_case : (s : FlowSet) (st : State) (k l : ℕ) → ahead s st k l ≡ true
    → (due_at s st k < due_at s st l) ⊎ ((due_at s st k ≡ due_at s st l) × (k < l))
ahead_case s st k l h =
    elim (or_case (ltb (due_at s st k) (due_at s st l)) _ h) [
      | inl e ↦ inl (ltb-true _ _ e)
      | inr e ↦ inr (eqb-true _ _ (and_l _ (ltb k l) e), ltb-true _ _ (and_r (eqb (due_at s st k) (due_at s st l)) _ e))
    ]

ahead_when : (s : FlowSet) (st : State) (k l : ℕ) → (due_at s st k < due_at s st l) ⊎ ((due_at s st k ≡ due_at s st l) × (k < l))
    → ahead s st k l ≡ true
ahead_when s st k l (inl h) = or_l (ltb (due_at s st k) (due_at s st l)) _ (lt-ltb _ _ h)
ahead_when s st k l (inr h) =
    or_r (ltb (due_at s st k) (due_at s st l)) _ (and_i (eqb (due_at s st k) (due_at s st l)) _ (eq-eqb _ _ h.0) (lt-ltb _ _ h.1))

pub deadline_order : Ordering ahead
deadline_order s st = record { irreflexive = λ k i. never k (ahead s st k k) refl; transitive = λ k l h x y z. then k l h; total = λ k l i j. other k l }
  where
    never : (k : ℕ) (b : Bool) → ahead s st k k ≡ b → b ≡ false
    never k false e = refl
    never k true e = elim (ahead_case s st k k e) [ inl h ↦ absurd (omega arith) | inr h ↦ absurd (omega arith) ]

    then : (k l h : ℕ) → ahead s st k l ≡ true → ahead s st l h ≡ true → ahead s st k h ≡ true
    then k l h p q = ahead_when s st k h (go (ahead_case s st k l p) (ahead_case s st l h q))
      where
        go : (due_at s st k < due_at s st l) ⊎ ((due_at s st k ≡ due_at s st l) × (k < l))
            → (due_at s st l < due_at s st h) ⊎ ((due_at s st l ≡ due_at s st h) × (l < h))
            → (due_at s st k < due_at s st h) ⊎ ((due_at s st k ≡ due_at s st h) × (k < h))
        go (inl x) (inl y) = inl (omega arith)
        go (inl x) (inr y) = inl (omega arith)
        go (inr x) (inl y) = inl (omega arith)
        go (inr x) (inr y) = inr (omega arith, omega arith)

    other : (k l : ℕ) → k ≢ l → ahead s st k l ≡ false → ahead s st l k ≡ true
    other k l n e =
        elim (dec_le (due_at s st k) (due_at s st l)) [
          | no h ↦ ahead_when s st l k (inl (omega arith))
          | yes h ↦ elim (dec_le (due_at s st l) (due_at s st k)) [
            | no g ↦ absurd (false≢true (sym e ∙ ahead_when s st k l (inl (omega arith))))
            | yes g ↦ elim (dec_le k l) [
              | no i ↦ ahead_when s st l k (inr (omega arith, omega arith))
              | yes i ↦ absurd (false≢true (sym e ∙ ahead_when s st k l (inr (omega arith, omega arith))))
            ]
          ]
        ]

-- what goes ahead is due no later
pub due_le : (s : FlowSet) (st : State) (l k : ℕ) → ahead s st l k ≡ true → due_at s st l ≤ due_at s st k
due_le s st l k h = elim (ahead_case s st l k h) [ inl x ↦ omega arith | inr x ↦ omega arith ]
