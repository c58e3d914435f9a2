-- What a slot of the run reports, with any order of priority: the placed packets' transmissions at their places, and who is dropped. It is so
-- because no step before the last slot is refused, and the report's arrays have room for all of them.
use Rattle.std.specs.Prelude.{◌≡◌, Bool, true, false, cond, List, [], ◌∷◌, ◌++◌, ℕ, zero, suc, ◌+◌, ◌^◌, ◌≤◌, ◌<◌, length, take, drop, replicate}
use Rattle.std.proofs.Math.Path.{refl, ap}
use Rattle.std.proofs.Common.{sym, ◌∙◌, inl, inr, zero-le, le_refl, add-zero, zero-add, length-append, get_or-take, get_or-drop}
use Rattle.std.proofs.Math.Decide.{dec_le}
use native.Mathlib.Omega.{arith}
use Rattle.std.proofs.lemmas.Nat.{ones-le}
use Rattle.std.proofs.Math.ListN.{get_or, get_or-append}
use Rattle.std.proofs.lemmas.List.{get_or_at}
use Rattle.model.specs.declared.kinds.FlowSet.{FlowSet}
use Rattle.model.specs.declared.kinds.State.{State}
use Rattle.model.specs.declared.answers.Stepped.{Stepped}
use Rattle.model.specs.Limits.{most_channels, most_flows, last_slot}
use Rattle.model.specs.Refusals.{good}
use Rattle.model.specs.Sets.{memb, filter_to}
use Rattle.document.specs.Reader.{record_fault}
use Rattle.document.specs.Delay.{ways}
use Rattle.document.specs.Machine.{Priority, placed_with, no_send, send_of, sends_from, sends_with, dropped_with, filled, step_with}
use Rattle.laws.specs.Accepted.{accepted}
use Rattle.laws.specs.Members.{memb_empty, memb_case, memb_at}
use Rattle.promise.specs.Promise.{report, send}
use Rattle.promise.specs.SlotChoice.{Ordering}
use Rattle.promise.specs.RunStates.{state_at, choice, report_good}
use Rattle.promise.specs.Timetable.{placed_in}

-- an array that has room shows its entries
pub filled_at : {A : Type 0} (n : ℕ) (d : A) (l : List A) (p : ℕ) → p < length l → p < n → get_or (filled n d l) p d ≡ get_or l p d
filled_at n d l p h k = get_or-take n (l ++ replicate n d) p d k ∙ get_or-append l (replicate n d) d p h

-- as many transmissions as placed packets, each at its place
pub sends_length : (s : FlowSet) (st : State) (o : ℕ) (ks : List ℕ) → length (sends_from s st o ks) ≡ length ks
unfolding sends_from
sends_length s st o [] = refl
sends_length s st o (k ∷ ks) = ap suc (sends_length s st (o + 1) ks)

pub sends_at_law : (s : FlowSet) (st : State) (o : ℕ) (ks : List ℕ) (p : ℕ) → p < length ks
    → get_or (sends_from s st o ks) p no_send ≡ send_of s st (get_or ks p 0) (o + p)
unfolding sends_from
sends_at_law s st o [] p h = absurd (omega arith)
sends_at_law s st o (k ∷ ks) zero h = rw (add-zero o)
sends_at_law s st o (k ∷ ks) (suc p) h =
    let e : o + 1 + p ≡ o + suc p = omega arith in
    sends_at_law s st (o + 1) ks p (omega arith) ∙ ap (send_of s st (get_or ks p 0)) e

-- a number of a list has a place there
pub memb_place : (k : ℕ) (ls : List ℕ) → memb k ls ≡ true → (p : ℕ) × (p < length ls) × (get_or ls p 0 ≡ k)
memb_place k [] h = absurd (memb_empty k h)
memb_place k (l ∷ ls) h =
    elim (memb_case k l ls h) [
      | inl e ↦ (0, omega arith, sym e)
      | inr i ↦ let w = memb_place k ls i in (suc w.0, omega arith, w.2)
    ]

-- a link's ends are nodes of the route
pub link_from : (r : List ℕ) (i : ℕ) → get_or (take 2 (drop i r)) 0 0 ≡ get_or r i 0
link_from r i = get_or-take 2 (drop i r) 0 0 (omega arith) ∙ get_or-drop i r 0 0 ∙ rw (add-zero i)

pub link_to : (r : List ℕ) (i : ℕ) → get_or (take 2 (drop i r)) 1 0 ≡ get_or r (i + 1) 0
link_to r i = get_or-take 2 (drop i r) 1 0 (omega arith) ∙ get_or-drop i r 1 0

-- the numbers that pass are listed, no more than there are
filter_length : (q : ℕ → Bool) (n : ℕ) → length (filter_to q n) ≤ n
unfolding filter_to
filter_length q zero = zero-le
filter_length q (suc n) = go (q n) (filter_length q n)
  where
    go : (b : Bool) → length (filter_to q n) ≤ n → length (filter_to q n ++ cond b (n ∷ []) []) ≤ suc n
    go true h = rw length-append (omega arith)
    go false h = rw length-append (omega arith)

pub filter_at : (q : ℕ → Bool) (n p : ℕ) → p < length (filter_to q n) → (get_or (filter_to q n) p 0 < n) × (q (get_or (filter_to q n) p 0) ≡ true)
unfolding filter_to
filter_at q zero p h = absurd (omega arith)
filter_at q (suc n) p h = go (q n) refl h (filter_at q n p)
  where
    l : List ℕ
    l = filter_to q n

    go : (b : Bool) → q n ≡ b → p < length (l ++ cond b (n ∷ []) []) → (p < length l → (get_or l p 0 < n) × (q (get_or l p 0) ≡ true))
        → (get_or (l ++ cond b (n ∷ []) []) p 0 < suc n) × (q (get_or (l ++ cond b (n ∷ []) []) p 0) ≡ true)
    go b e h ih =
        elim (dec_le (length l) p) [
          | no i ↦
              let x = ih (omega arith) in
              rw (get_or-append l (cond b (n ∷ []) []) 0 p (omega arith)) (omega arith, x.1)
          | yes i ↦ last b e (omega (arith, length-append l (cond b (n ∷ []) []))) i
        ]
      where
        last : (b : Bool) → q n ≡ b → p < length l + length (cond b (n ∷ []) []) → length l ≤ p
            → (get_or (l ++ cond b (n ∷ []) []) p 0 < suc n) × (q (get_or (l ++ cond b (n ∷ []) []) p 0) ≡ true)
        last true e h i = let z : length l ≡ p = omega arith in rw (get_or_at l n [] 0 p z) (le_refl (suc n), e)
        last false e h i = absurd (omega arith)

-- From here on: the machine with any order of priority.
module _ {first : Priority} (o : Ordering first) where
  module _ (s : FlowSet) (g : good (record_fault s).refusal ≡ true) where
    -- as many as are placed
    pub sends_eq : (t : ℕ) → t < last_slot → (report (step_with first) s t).sends ≡ length (placed_with first s (state_at first s t))
    sends_eq t h = ap (λ (r : Stepped). r.sends) (report_good o s g t h) ∙ sends_length s (state_at first s t) 0 (placed_with first s (state_at first s t))

    pub sends_le : (t : ℕ) → t < last_slot → (report (step_with first) s t).sends ≤ ways s
    sends_le t h = omega (arith, sends_eq t h, (choice o s (state_at first s t)).few)

    -- and each as rule 5 has it
    pub send_eq : (t p : ℕ) → t < last_slot → s.map.0 < 2 ^ most_channels → p < (report (step_with first) s t).sends
        → send (report (step_with first) s t) p ≡ send_of s (state_at first s t) (get_or (placed_with first s (state_at first s t)) p 0) p
    send_eq t p h b l =
        let st = state_at first s t in
        let e = sends_length s st 0 (placed_with first s st) in
        ap (λ (r : Stepped). send r p) (report_good o s g t h)
        ∙ filled_at most_channels no_send (sends_with first s st) p (omega (arith, sends_eq t h)) (omega (arith, sends_le t h, ones-le most_channels s.map.0 b))
        ∙ sends_at_law s st 0 (placed_with first s st) p (omega (arith, sends_eq t h))
        ∙ rw (zero-add p)

    -- transmission p of the report is of a packet that is placed
    pub sent_placed : (t p : ℕ) → t < last_slot → p < (report (step_with first) s t).sends
        → placed_in first s (get_or (placed_with first s (state_at first s t)) p 0) t ≡ true
    sent_placed t p h l = memb_at (placed_with first s (state_at first s t)) p (omega (arith, sends_eq t h))

    -- as many as are dropped, and each of them is
    pub drops_eq : (t : ℕ) → t < last_slot → (report (step_with first) s t).drops ≡ length (filter_to (dropped_with first s (state_at first s t)) s.count)
    drops_eq t h = ap (λ (r : Stepped). r.drops) (report_good o s g t h)

    pub dropped_eq : (t p : ℕ) → t < last_slot → p < (report (step_with first) s t).drops
        → get_or (report (step_with first) s t).dropped p 0 ≡ get_or (filter_to (dropped_with first s (state_at first s t)) s.count) p 0
    dropped_eq t p h l =
        let xs = filter_to (dropped_with first s (state_at first s t)) s.count in
        let c = (accepted s g).count_le in
        let e = drops_eq t h in
        ap (λ (r : Stepped). get_or r.dropped p 0) (report_good o s g t h)
        ∙ filled_at most_flows 0 xs p (omega arith) (omega (arith, filter_length (dropped_with first s (state_at first s t)) s.count))
