-- What a slot's choice guarantees, said once, for any strict total order of priority: when a packet is passed over, all that are placed go before
-- it, and they are m or one of them conflicts with it.
use Rattle.std.specs.Prelude.{◌≡◌, ◌⊎◌, ◌≢◌, Bool, not, ◌&&◌, ◌||◌, cond, ltb, eqb, length, get_or}
use Rattle.std.proofs.Math.Path.{refl}
use Rattle.std.proofs.Common.{sym, ap, ◌∙◌, le_refl, le_trans, arith, ltb-true, ltb-false, eqb-true, eq-eqb}
use Rattle.std.proofs.Math.Logic.{inl, inr}
use Rattle.std.proofs.Math.Bool.{true, false, or-true}
use Rattle.std.proofs.lemmas.Bool.{false≢true}
use mathlib.Core.List.{List, [], ◌∷◌, ◌++◌}
use Prim.Native.Nat.{ℕ, zero, suc, ◌≤◌, ◌<◌, zero-le}
use Rattle.std.proofs.Math.Decide.{dec_le}
use Rattle.std.proofs.Math.ListN.{length-append}
use Rattle.model.specs.Sums.{bit}
use Rattle.laws.specs.SumLaws.{sum_le, sum_term, bit_le, and_l, and_r, and_i, or_case, or_l, or_r}
use Rattle.promise.specs.Waiting.{placed_before, placed_in_way, Paid, wait_paid}
use Rattle.model.specs.Sets.{any_of, memb}
use Rattle.model.specs.declared.kinds.FlowSet.{FlowSet}
use Rattle.model.specs.declared.kinds.State.{State}
use Rattle.document.specs.Machine.{Priority, insert, ordered, place}
use Rattle.laws.specs.Members.{memb_empty, memb_head, memb_tail, memb_case, memb_snoc, none_of, some_of, Pairs, pairs_map, pairs_snoc, pairs_at, length_le}

-- a strict total order of the flows 0 .. n − 1: of two different flows one is taken first
pub record StrictOrder (n : ℕ) (first : ℕ → ℕ → Bool) : Type 0 where
  pub irreflexive : (k : ℕ) → k < n → first k k ≡ false
  pub transitive : (k l h : ℕ) → k < n → l < n → h < n → first k l ≡ true → first l h ≡ true → first k h ≡ true
  pub total : (k l : ℕ) → k < n → l < n → k ≢ l → first k l ≡ false → first l k ≡ true

-- a priority that is a strict total order of the flows in every state of every set
abbrev pub Ordering : Priority → Type 0
Ordering first = (s : FlowSet) (st : State) → StrictOrder s.count (first s st)

-- What a slot's choice guarantees of the placed flows ls.
pub record SlotChoice (n m : ℕ) (first conf : ℕ → ℕ → Bool) (ready : ℕ → Bool) (ls : List ℕ) : Type 0 where
  -- only ready flows are placed
  pub only : (l : ℕ) → memb l ls ≡ true → (l < n) × (ready l ≡ true)
  -- at most m, none of them twice, no two with a conflict
  pub few : length ls ≤ m
  pub once : (i j : ℕ) → i < j → j < length ls → get_or ls i 0 ≢ get_or ls j 0
  pub free : (i j : ℕ) → i < j → j < length ls → conf (get_or ls j 0) (get_or ls i 0) ≡ false
  -- and each slot in which a ready flow waits is paid for
  pub slot : (k : ℕ) → k < n → ready k ≡ true → Paid n m (λ l. memb l ls) (λ l. first l k) (conf k) k

-- a conjunction with a weaker part
and_more : (p q r : Bool) → (p ≡ true → q ≡ true) → (p && r) ≡ true → (q && r) ≡ true
and_more p q r h e = and_i q r (h (and_l p r e)) (and_r p r e)

-- k is passed over: m flows of ls go before it, or one that conflicts with it
abbrev PassedOver : (n m : ℕ) (first conf : ℕ → ℕ → Bool) (ls : List ℕ) → ℕ → Type 0
PassedOver n m first conf ls k =
    (m ≤ placed_before n (λ l. memb l ls) (λ l. first l k)) ⊎ (1 ≤ placed_in_way n (λ l. memb l ls) (λ l. first l k) (conf k))

-- who is passed over stays so when more are placed
passed_more : (n m : ℕ) (first conf : ℕ → ℕ → Bool) (ls hs : List ℕ) (k : ℕ) → ((l : ℕ) → memb l ls ≡ true → memb l hs ≡ true)
    → PassedOver n m first conf ls k → PassedOver n m first conf hs k
passed_more n m first conf ls hs k f (inl p) =
    inl (le_trans p (sum_le _ _ n (λ l i. bit_le _ _ (and_more (memb l ls) (memb l hs) (first l k) (f l)))))
passed_more n m first conf ls hs k f (inr p) =
    inr (le_trans p (sum_le _ _ n (λ l i. bit_le _ _ (and_more _ _ (conf k l) (and_more (memb l ls) (memb l hs) (first l k) (f l))))))

-- What holds while the packets are taken in order: ls are placed so far, and ks are still to be taken.
record Taking (n m : ℕ) (first conf : ℕ → ℕ → Bool) (ready : ℕ → Bool) (ls ks : List ℕ) : Type 0 where
  -- all of them are ready flows
  placed : (l : ℕ) → memb l ls ≡ true → (l < n) × (ready l ≡ true)
  waiting : (k : ℕ) → memb k ks ≡ true → (k < n) × (ready k ≡ true)
  -- the placed ones are at most m, in order, and free of conflicts
  few : length ls ≤ m
  apart : Pairs (λ l k. (first l k ≡ true) × (conf k l ≡ false)) ls
  -- they go before all that are still to be taken, which are in order too
  order : (l k : ℕ) → memb l ls ≡ true → memb k ks ≡ true → first l k ≡ true
  sorted : Pairs (λ k l. first k l ≡ true) ks
  -- each ready flow is still to be taken, or placed, or passed over
  settled : (k : ℕ) → k < n → ready k ≡ true → (memb k ks ≡ true) ⊎ ((memb k ls ≡ true) ⊎ PassedOver n m first conf ls k)

-- Bools in another order
or_swap : (p q r : Bool) → (p || (q || r)) ≡ (q || (p || r))
or_swap true q r = sym (or-true q)
or_swap false q r = refl

-- a list with k put in has k and what was there
memb_insert : (first : ℕ → ℕ → Bool) (l k : ℕ) (ls : List ℕ) → memb l (insert first k ls) ≡ (eqb l k || memb l ls)
unfolding any_of insert
memb_insert first l k [] = refl
memb_insert first l k (h ∷ hs) = go (first k h) (memb_insert first l k hs)
  where
    go : (b : Bool) → memb l (insert first k hs) ≡ (eqb l k || memb l hs)
        → memb l (cond b (k ∷ h ∷ hs) (h ∷ insert first k hs)) ≡ (eqb l k || (eqb l h || memb l hs))
    go true e = refl
    go false e = rw (e, or_swap (eqb l h))

-- the ready flows below n are in the list
ordered_all : (first : ℕ → ℕ → Bool) (ready : ℕ → Bool) (n l : ℕ) → l < n → ready l ≡ true → memb l (ordered first ready n) ≡ true
unfolding ordered
ordered_all first ready zero l h r = absurd (omega arith)
ordered_all first ready (suc n) l h r = go (ready n) refl (ordered_all first ready n l)
  where
    go : (b : Bool) → ready n ≡ b → (l < n → ready l ≡ true → memb l (ordered first ready n) ≡ true)
        → memb l (cond b (insert first n (ordered first ready n)) (ordered first ready n)) ≡ true
    go true e ih =
        rw (memb_insert first l n (ordered first ready n)) (elim (dec_le n l) [
          | yes q ↦ or_l _ _ (eq-eqb l n (omega arith))
          | no q ↦ or_r (eqb l n) _ (ih (omega arith) r)
        ])
    go false e ih =
        elim (dec_le n l) [
          | yes q ↦ let z : l ≡ n = omega arith in absurd (false≢true (sym e ∙ ap ready (sym z) ∙ r))
          | no q ↦ ih (omega arith) r
        ]

-- and nothing else
pub ordered_only : (first : ℕ → ℕ → Bool) (ready : ℕ → Bool) (n l : ℕ) → memb l (ordered first ready n) ≡ true → (l < n) × (ready l ≡ true)
unfolding ordered
ordered_only first ready zero l h = absurd (memb_empty l h)
ordered_only first ready (suc n) l h = go (ready n) refl (ordered_only first ready n l) h
  where
    go : (b : Bool) → ready n ≡ b → (memb l (ordered first ready n) ≡ true → (l < n) × (ready l ≡ true))
        → memb l (cond b (insert first n (ordered first ready n)) (ordered first ready n)) ≡ true → (l < suc n) × (ready l ≡ true)
    go true e ih h =
        elim (or_case (eqb l n) (memb l (ordered first ready n)) (sym (memb_insert first l n (ordered first ready n)) ∙ h)) [
          | inl q ↦ let z = eqb-true l n q in (omega arith, rw z e)
          | inr i ↦ let w = ih i in (omega arith, w.1)
        ]
    go false e ih h = let w = ih h in (omega arith, w.1)

module _ {n : ℕ} {first : ℕ → ℕ → Bool} (o : StrictOrder n first) where
  -- k goes in where it stands in order
  insert_pairs : (k : ℕ) (ls : List ℕ) → k < n → ((l : ℕ) → memb l ls ≡ true → (l < n) × (k ≢ l)) → Pairs (λ k l. first k l ≡ true) ls
      → Pairs (λ k l. first k l ≡ true) (insert first k ls)
  unfolding Pairs insert
  insert_pairs k [] p f q = ((λ l i. absurd (memb_empty l i)), tt)
  insert_pairs k (h ∷ hs) p f q = go (first k h) refl (insert_pairs k hs p (λ l i. f l (memb_tail l h hs i)) q.1)
    where
      go : (b : Bool) → first k h ≡ b → Pairs (λ k l. first k l ≡ true) (insert first k hs)
          → Pairs (λ k l. first k l ≡ true) (cond b (k ∷ h ∷ hs) (h ∷ insert first k hs))
      go true e ih = (
        λ l i. elim (memb_case l h hs i) [
          | inl z ↦ rw z e
          | inr j ↦ o.transitive k h l p (f h (memb_head h hs)).0 (f l i).0 e (q.0 l j)
        ],
        q,
      )
      go false e ih = (
        λ l i. elim (or_case (eqb l k) (memb l hs) (sym (memb_insert first l k hs) ∙ i)) [
          | inl z ↦ let w = f h (memb_head h hs) in rw (eqb-true l k z) (o.total k h p w.0 w.1 e)
          | inr j ↦ q.0 l j
        ],
        ih,
      )

  -- so each flow of the list goes before all that come after it
  ordered_pairs : (ready : ℕ → Bool) (b : ℕ) → b ≤ n → Pairs (λ k l. first k l ≡ true) (ordered first ready b)
  unfolding Pairs ordered
  ordered_pairs ready zero h = tt
  ordered_pairs ready (suc b) h = go (ready b) (ordered_pairs ready b (omega arith))
    where
      go : (c : Bool) → Pairs (λ k l. first k l ≡ true) (ordered first ready b)
          → Pairs (λ k l. first k l ≡ true) (cond c (insert first b (ordered first ready b)) (ordered first ready b))
      go true ih = insert_pairs b (ordered first ready b) h (λ l i. omega (arith, ordered_only first ready b l i)) ih
      go false ih = ih

  module _ (m : ℕ) (conf : ℕ → ℕ → Bool) (ready : ℕ → Bool) where
    -- the placed flows differ, since each goes before the next
    distinct : (ls ks : List ℕ) → Taking n m first conf ready ls ks → Pairs ◌≢◌ ls
    distinct ls ks i = pairs_map _ _ ls apart i.apart
      where
        apart : (l k : ℕ) → memb l ls ≡ true → memb k ls ≡ true → (first l k ≡ true) × (conf k l ≡ false) → l ≢ k
        apart l k p q w e = false≢true (sym (o.irreflexive l (i.placed l p).0) ∙ rw (← e) at w.0)

    -- k is placed
    take_step : (k : ℕ) (ls ks : List ℕ) → Taking n m first conf ready ls (k ∷ ks) → length ls < m → any_of (conf k) ls ≡ false
        → Taking n m first conf ready (ls ++ (k ∷ [])) ks
    unfolding Pairs
    take_step k ls ks i h c =
        record {
          placed = λ l p. elim (last l p) [ inl q ↦ i.placed l q | inr e ↦ rw e (i.waiting k (memb_head k ks)) ];
          waiting = λ l p. i.waiting l (memb_tail l k ks p);
          few = rw length-append (omega arith);
          apart = pairs_snoc _ ls k i.apart (λ l p. (i.order l k p (memb_head k ks), none_of (conf k) ls c l p));
          order = λ l x p q. elim (last l p) [ inl j ↦ i.order l x j (memb_tail x k ks q) | inr e ↦ rw e (i.sorted.0 x q) ];
          sorted = i.sorted.1;
          settled = λ x p r. elim (i.settled x p r) [
            | inl j ↦ elim (memb_case x k ks j) [ inl e ↦ inr (inl (more x (inr e))) | inr q ↦ inl q ]
            | inr (inl j) ↦ inr (inl (more x (inl j)))
            | inr (inr j) ↦ inr (inr (passed_more n m first conf ls (ls ++ (k ∷ [])) x (λ l q. more l (inl q)) j))
          ];
        }
      where
        last : (l : ℕ) → memb l (ls ++ (k ∷ [])) ≡ true → (memb l ls ≡ true) ⊎ (l ≡ k)
        last l p = elim (or_case (memb l ls) (eqb l k) (sym (memb_snoc l ls k) ∙ p)) [ inl q ↦ inl q | inr e ↦ inr (eqb-true l k e) ]

        more : (l : ℕ) → (memb l ls ≡ true) ⊎ (l ≡ k) → memb l (ls ++ (k ∷ [])) ≡ true
        more l (inl q) = memb_snoc l ls k ∙ or_l _ (eqb l k) q
        more l (inr e) = memb_snoc l ls k ∙ or_r (memb l ls) _ (eq-eqb l k e)

    -- k is passed over
    pass_step : (k : ℕ) (ls ks : List ℕ) → Taking n m first conf ready ls (k ∷ ks) → (m ≤ length ls) ⊎ (any_of (conf k) ls ≡ true)
        → Taking n m first conf ready ls ks
    unfolding Pairs
    pass_step k ls ks i c =
        record {
          placed = i.placed;
          waiting = λ l p. i.waiting l (memb_tail l k ks p);
          few = i.few;
          apart = i.apart;
          order = λ l x p q. i.order l x p (memb_tail x k ks q);
          sorted = i.sorted.1;
          settled = λ x p r. elim (i.settled x p r) [
            | inl j ↦ elim (memb_case x k ks j) [ inl e ↦ inr (inr (rw e (over c))) | inr q ↦ inl q ]
            | inr j ↦ inr j
          ];
        }
      where
        before : (l : ℕ) → memb l ls ≡ true → first l k ≡ true
        before l p = i.order l k p (memb_head k ks)

        over : (m ≤ length ls) ⊎ (any_of (conf k) ls ≡ true) → PassedOver n m first conf ls k
        over (inl h) =
            let d = length_le (λ l. memb l ls && first l k) n ls (distinct ls (k ∷ ks) i) (λ l p. ((i.placed l p).0, and_i _ _ p (before l p))) in
            inl (le_trans h d)
        over (inr h) =
            let w = some_of (conf k) ls h in
            let e : bit (memb w.0 ls && first w.0 k && conf k w.0) ≡ 1 = rw (w.1, before w.0 w.1, w.2) in
            inr (omega (arith, sum_term (λ l. bit (memb l ls && first l k && conf k l)) n w.0 (i.placed w.0 w.1).0))

    -- whichever it is
    next_step : (k : ℕ) (ls ks : List ℕ) → Taking n m first conf ready ls (k ∷ ks)
        → Taking n m first conf ready (cond (ltb (length ls) m && not (any_of (conf k) ls)) (ls ++ (k ∷ [])) ls) ks
    next_step k ls ks i = go (ltb (length ls) m) refl (any_of (conf k) ls) refl
      where
        go : (b : Bool) → ltb (length ls) m ≡ b → (c : Bool) → any_of (conf k) ls ≡ c
            → Taking n m first conf ready (cond (b && not c) (ls ++ (k ∷ [])) ls) ks
        go true e false f = take_step k ls ks i (ltb-true _ _ e) f
        go true e true f = pass_step k ls ks i (inr f)
        go false e c f = pass_step k ls ks i (inl (ltb-false _ _ e))

    -- and so on to the end
    taking : (ks ls : List ℕ) → Taking n m first conf ready ls ks → Taking n m first conf ready (place m conf ls ks) []
    unfolding place
    taking [] ls i = i
    taking (k ∷ ks) ls i = taking ks _ (next_step k ls ks i)

    -- at the start nothing is placed and all the ready flows are to be taken
    start : Taking n m first conf ready [] (ordered first ready n)
    unfolding Pairs
    start =
        record {
          placed = λ l p. absurd (memb_empty l p);
          waiting = ordered_only first ready n;
          few = zero-le;
          apart = tt;
          order = λ l k p q. absurd (memb_empty l p);
          sorted = ordered_pairs ready n (le_refl n);
          settled = λ k p r. inl (ordered_all first ready n k p r);
        }

    -- at the end every ready flow is settled
    end : (ls : List ℕ) → Taking n m first conf ready ls [] → SlotChoice n m first conf ready ls
    end ls i =
        record {
          only = i.placed;
          few = i.few;
          once = λ x y h k. pairs_at ◌≢◌ ls x y (distinct ls [] i) h k;
          free = λ x y h k. (pairs_at _ ls x y i.apart h k).1;
          slot = λ k p r. elim (i.settled k p r) [
            | inl q ↦ absurd (memb_empty k q)
            | inr q ↦ wait_paid n m (λ l. memb l ls) (λ l. first l k) (conf k) k q
          ];
        }

    -- What a slot's choice guarantees.
    pub slot_choice : SlotChoice n m first conf ready (place m conf [] (ordered first ready n))
    slot_choice = end _ (taking (ordered first ready n) [] start)
