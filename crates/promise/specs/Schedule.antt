-- What the argument uses of a slot machine's run, whatever its order of priority, and what follows: a packet is done in b slots if the transmissions
-- of the other flows that go before it there are few enough.
use Rattle.std.specs.Prelude.{◌≡◌, ◌≢◌, Bool, true, false, ◌&&◌, cond, ltb, eqb}
use Rattle.std.proofs.Math.Path.{refl}
use Rattle.std.proofs.Common.{◌∙◌, le_of_eq, le_trans, add-zero, arith, ltb-true, eqb-true}
use Prim.Native.Nat.{ℕ, zero, suc, ◌+◌, ◌-◌, ◌*◌, ◌/◌, ◌≤◌, ◌<◌, zero-le, min}
use Rattle.std.proofs.Math.Nat.{add-sub_cancel_left}
use Rattle.std.proofs.Math.Decide.{dec_le}
use Rattle.std.proofs.lemmas.Bool.{eqb-false}
use Rattle.model.specs.Sums.{bit, sum_to}
use Rattle.laws.specs.SumLaws.{count, Into, sum_le, sum_const, sum_next, sum_swap, sum_more, count_in, count_none, bits_le, and_l, and_r, and_i}
use Rattle.promise.specs.Waiting.{placed_before, placed_in_way, Paid, wait_sum, value_lt}
use Rattle.promise.specs.Load.{latest_release, latest_eq, MarkedSlots}

-- the sum over the flows other than k
unfoldable pub others : ℕ → ℕ → (ℕ → ℕ) → ℕ
others n k f = sum_to (λ l. cond (eqb l k) 0 (f l)) n

-- flow k has a ready packet in slot t: it is released, its deadline is not past and it is not complete
abbrev pub HasReady : (T D a C : ℕ → ℕ) (had : ℕ → ℕ → ℕ) → (k t : ℕ) → Type 0
HasReady T D a C had k t = (a k ≤ t) × (t < latest_release (a k) (T k) t + D k) × (had k t < C k)

-- What the argument uses of a schedule of n flows on m channels, in the slots before L, whatever its order of priority. Flow l has the period T l,
-- the deadline D l, the start a l and C l transmissions a packet, of which S k l touch k's route. It is placed in the slots t with tx l t, when its
-- packet has made had l t transmissions. In slot t, before t k l says that l is taken before k, and conf t k l that they conflict.
pub record Schedule (n m L : ℕ) (T D a C : ℕ → ℕ) (S : ℕ → ℕ → ℕ) (tx : ℕ → ℕ → Bool) (had : ℕ → ℕ → ℕ)
    (mark before conf : ℕ → ℕ → ℕ → Bool) : Type 0 where
  pub channels : 0 < m
  pub period : (l : ℕ) → l < n → 0 < T l
  pub deadline : (l : ℕ) → l < n → D l ≤ T l
  -- S counts the transmissions of l that are marked as touching k's route
  pub touching : (k l : ℕ) → k < n → l < n → S k l ≡ sum_to (λ i. bit (mark k l i)) (C l)
  -- had counts the transmissions since the release
  pub counted : (l t : ℕ) → l < n → t < L → a l ≤ t → had l t ≡ count (tx l) (latest_release (a l) (T l) t) (t - latest_release (a l) (T l) t)
  -- only ready packets are placed
  pub placed : (l t : ℕ) → l < n → t < L → tx l t ≡ true → HasReady T D a C had l t
  -- only another flow's packet goes before k's
  pub other : (k l t : ℕ) → k < n → l < n → t < L → before t k l ≡ true → l ≢ k
  -- a transmission that conflicts with k's touches k's route
  pub meeting : (k l t : ℕ) → k < n → l < n → t < L → HasReady T D a C had k t → tx l t ≡ true → conf t k l ≡ true
      → mark k l (had l t) ≡ true
  -- what the slot's choice guarantees to a ready packet
  pub slot : (k t : ℕ) → k < n → t < L → HasReady T D a C had k t → Paid n m (λ l. tx l t) (before t k) (conf t k) k

-- the packet of flow k is ready in each of the b slots from r on
abbrev pub Waits : (T D a C : ℕ → ℕ) (had : ℕ → ℕ → ℕ) → (k r b : ℕ) → Type 0
Waits T D a C had k r b = (t : ℕ) → r ≤ t → t < r + b → HasReady T D a C had k t

-- the loads of these slots: of each other flow l at most w l transmissions go before k's packet, and at most x l of these touch its route
pub record Loads (n : ℕ) (tx : ℕ → ℕ → Bool) (had : ℕ → ℕ → ℕ) (mark before : ℕ → ℕ → ℕ → Bool) (k r b : ℕ) (w x : ℕ → ℕ) : Type 0 where
  pub whole : (l : ℕ) → l < n → l ≢ k → count (λ t. tx l t && before t k l) r b ≤ w l
  pub touching : (l : ℕ) → l < n → l ≢ k → count (λ t. tx l t && before t k l && mark k l (had l t)) r b ≤ x l
  pub fewer : (l : ℕ) → l < n → l ≢ k → x l ≤ w l

-- over the b slots from r on: how many packets go before k's, and how many of those are in its way
abbrev heads : ℕ → (ℕ → ℕ → Bool) → (ℕ → ℕ → ℕ → Bool) → (k r b : ℕ) → ℕ
heads n tx before k r b = sum_to (λ i. placed_before n (λ l. tx l (r + i)) (before (r + i) k)) b

abbrev blocks : ℕ → (ℕ → ℕ → Bool) → (before conf : ℕ → ℕ → ℕ → Bool) → (k r b : ℕ) → ℕ
blocks n tx before conf k r b = sum_to (λ i. placed_in_way n (λ l. tx l (r + i)) (before (r + i) k) (conf (r + i) k)) b

-- sums over the other flows are compared flow by flow
pub others_mono : (n k : ℕ) (f g : ℕ → ℕ) → ((l : ℕ) → l < n → l ≢ k → f l ≤ g l) → others n k f ≤ others n k g
unfolding others
others_mono n k f g h = sum_le _ _ n (λ l i. go l i (eqb l k) refl)
  where
    go : (l : ℕ) → l < n → (b : Bool) → eqb l k ≡ b → cond b 0 (f l) ≤ cond b 0 (g l)
    go l i true e = zero-le
    go l i false e = h l i (eqb-false l k e)

-- what is counted of every flow but k in the b slots from r on; the order of summing, slots and flows, is changed
others_le : (n k r b : ℕ) (p : ℕ → ℕ → Bool) (f : ℕ → ℕ) → ((l : ℕ) → l < n → l ≢ k → count (p l) r b ≤ f l) → count (p k) r b ≡ 0
    → sum_to (λ i. sum_to (λ l. bit (p l (r + i))) n) b ≤ others n k f
unfolding others
others_le n k r b p f h z = rw (sum_swap (λ i l. bit (p l (r + i))) b n) (sum_le _ _ n (λ l i. go l i (eqb l k) refl))
  where
    go : (l : ℕ) → l < n → (c : Bool) → eqb l k ≡ c → count (p l) r b ≤ cond c 0 (f l)
    go l i true e = rw (eqb-true l k e) (le_of_eq z)
    go l i false e = h l i (eqb-false l k e)

module _ {n m L : ℕ} {T D a C : ℕ → ℕ} {S : ℕ → ℕ → ℕ} {tx : ℕ → ℕ → Bool} {had : ℕ → ℕ → ℕ} {mark before conf : ℕ → ℕ → ℕ → Bool}
    (s : Schedule n m L T D a C S tx had mark before conf) where
  -- in the period of packet j the count is that since the packet's release
  had_eq : (l j t : ℕ) → l < n → a l + j * T l ≤ t → t < a l + j * T l + T l → t < L
      → had l t ≡ count (tx l) (a l + j * T l) (t - (a l + j * T l))
  had_eq l j t p q r b = s.counted l t p b (omega arith) ∙ rw (latest_eq (a l) (T l) j t q r)

  -- a packet's transmissions are numbered 0, 1, 2 .. in order, so as many are marked as the test marks of the numbers so far
  pub numbered : (h : ℕ → Bool) (l j i : ℕ) → l < n → i ≤ T l → i ≤ L - (a l + j * T l)
      → (count (λ t. tx l t && h (had l t)) (a l + j * T l) i ≡ sum_to (λ c. bit (h c)) (count (tx l) (a l + j * T l) i))
      × (count (tx l) (a l + j * T l) i ≤ C l)
  unfolding sum_to
  numbered h l j zero p q b = (refl, zero-le)
  numbered h l j (suc i) p q b = go (numbered h l j i p (omega arith) (omega arith)) (tx l t) refl
    where
      t : ℕ
      t = a l + j * T l + i

      x : ℕ
      x = count (λ t. tx l t && h (had l t)) (a l + j * T l) i

      c : ℕ
      c = count (tx l) (a l + j * T l) i

      go : (x ≡ sum_to (λ c. bit (h c)) c) × (c ≤ C l) → (b : Bool) → tx l t ≡ b
          → (x + bit (b && h (had l t)) ≡ sum_to (λ c. bit (h c)) (c + bit b)) × (c + bit b ≤ C l)
      go ih false e = (rw (add-zero c) (omega arith), omega arith)
      go ih true e =
          let d = rw add-sub_cancel_left at (had_eq l j t p (omega arith) (omega arith) (omega arith)) in
          (rw (sum_next, d) (omega arith), omega (arith, s.placed l t p (omega arith) e))

  -- so a packet has at most as many marked transmissions before e as the test marks of 0 .. C − 1
  marked_le : (h : ℕ → Bool) (l j e : ℕ) → l < n → e ≤ L
      → count (λ t. tx l t && h (had l t) && ltb t e) (a l + j * T l) (T l) ≤ sum_to (λ c. bit (h c)) (C l)
  marked_le h l j e p b =
      let i : (i : ℕ) × (i ≡ min (T l) (e - (a l + j * T l))) = (min (T l) (e - (a l + j * T l)), refl) in
      let w = numbered h l j i.0 p (omega arith) (omega arith) in
      omega (arith, count_in _ _ _ _ _ _ (cut i.0 (omega arith)), sum_more (λ c. bit (h c)) _ (C l) w.1)
    where
      cut : (i : ℕ) → i ≡ min (T l) (e - (a l + j * T l))
          → Into (λ t. tx l t && h (had l t) && ltb t e) (λ t. tx l t && h (had l t)) (a l + j * T l) (T l) (a l + j * T l) i
      cut i x t f g q = (f, omega (arith, ltb-true t e (and_r (tx l t && h (had l t)) _ q)), and_l _ (ltb t e) q)

  -- they are as one flow's load wants them, where its transmissions before e came within v
  pub marked : (h : ℕ → Bool) (l v e : ℕ) → l < n → v ≤ D l → e ≤ L
      → ((t : ℕ) → t < e → tx l t ≡ true → t < latest_release (a l) (T l) t + v)
      → MarkedSlots (a l) (T l) (D l) v (sum_to (λ c. bit (h c)) (C l)) (λ t. tx l t && h (had l t) && ltb t e)
  marked h l v e p fit end so_far =
      record {
        period = s.period l p;
        limit = fit;
        deadline = s.deadline l p;
        few = λ j. marked_le h l j e p end;
        early = λ t q.
            let b : ltb t e ≡ true = search (and_l, and_r) in
            let x : tx l t ≡ true = search (and_l, and_r) in
            ((s.placed l t p (omega (arith, ltb-true)) x).0, so_far t (ltb-true t e b) x);
      }

  -- The loads of a window, by a share f l M of each other flow l for M marked transmissions a packet, whatever is marked.
  pub loads_by : (f : ℕ → ℕ → ℕ) (k r b : ℕ) → k < n → ((l c d : ℕ) → c ≤ d → f l c ≤ f l d)
      → ((h : ℕ → Bool) (l : ℕ) → l < n → l ≢ k
      → count (λ t. tx l t && before t k l && h (had l t)) r b ≤ f l (sum_to (λ c. bit (h c)) (C l)))
      → Loads n tx had mark before k r b (λ l. f l (C l)) (λ l. f l (S k l))
  loads_by f k r b own mono counted =
      record {
        whole = λ l i q.
            let c : sum_to (λ c. 1) (C l) ≡ C l = omega (arith, sum_const 1 (C l)) in
            le_trans (count_in _ (λ t. tx l t && before t k l && true) r b r b (λ t y z w. (y, z, and_i (tx l t && before t k l) true w refl)))
            (rw c at (counted (λ c. true) l i q));
        touching = λ l i q. rw (s.touching k l own i) (counted (mark k l) l i q);
        fewer = λ l i q. mono l _ _ (rw (s.touching k l own i) (bits_le (mark k l) (C l)));
      }

  -- a packet that is complete b slots after its release makes no transmission later
  pub complete_within : (l t b : ℕ) → l < n → t < L → tx l t ≡ true
      → (latest_release (a l) (T l) t + b ≤ t → C l ≤ count (tx l) (latest_release (a l) (T l) t) b) → t < latest_release (a l) (T l) t + b
  complete_within l t b p q i d =
      elim (dec_le (latest_release (a l) (T l) t + b) t) [
        | no y ↦ omega arith
        | yes y ↦
            let w = s.placed l t p q i in
            let r = latest_release (a l) (T l) t in
            omega (arith, d y, sum_more (λ i. bit (tx l (r + i))) b (t - r) (omega arith), s.counted l t p q w.0)
      ]

  -- from here on: packet j of flow k, and b slots from its release, that end not after its deadline and do not complete it
  module _ (k j b : ℕ) (own : k < n) (in_time : b ≤ D k) (past : a k + j * T k + b ≤ L) (short : count (tx k) (a k + j * T k) b < C k) where
    -- it is ready in each of these slots
    pub waits_ready : (t : ℕ) → a k + j * T k ≤ t → t < a k + j * T k + b → HasReady T D a C had k t
    waits_ready t x y =
        let d = s.deadline k own in
        let r = latest_eq (a k) (T k) j t x (omega arith) in
        let c = had_eq k j t own x (omega arith) (omega arith) in
        let w = sum_more (λ i. bit (tx k (a k + j * T k + i))) (t - (a k + j * T k)) b (omega arith) in
        (omega arith, omega arith, omega arith)

    -- so the guarantees of these slots add up, for any order of priority
    pub waiting : m * b + blocks n tx before conf k (a k + j * T k) b
        ≤ m * count (tx k) (a k + j * T k) b + m * blocks n tx before conf k (a k + j * T k) b + heads n tx before k (a k + j * T k) b
    waiting = wait_sum m _ (λ i. bit (tx k (a k + j * T k + i))) _ b each
      where
        each : (i : ℕ) → i < b
            → Paid n m (λ l. tx l (a k + j * T k + i)) (before (a k + j * T k + i) k) (conf (a k + j * T k + i) k) k
        each i l = s.slot k (a k + j * T k + i) own (omega arith) (waits_ready (a k + j * T k + i) (omega arith) (omega arith))

  -- Done by loads: a packet is done in b slots, not past its deadline, that are as many as its own transmissions and what the others' loads may hold
  -- up. The loads may be bounded as if it waited all the time.
  pub done_by_loads : (k j b : ℕ) (w x : ℕ → ℕ) → k < n → b ≤ D k → a k + j * T k + b ≤ L
      → (Waits T D a C had k (a k + j * T k) b → Loads n tx had mark before k (a k + j * T k) b w x)
      → C k + others n k x + (others n k w - others n k x) / m ≤ b → C k ≤ count (tx k) (a k + j * T k) b
  done_by_loads k j b w x own in_time past loads room =
      elim (dec_le (C k) (count (tx k) (a k + j * T k) b)) [ yes h ↦ h | no h ↦ absurd (late (omega arith)) ]
    where
      r : ℕ
      r = a k + j * T k

      late : count (tx k) r b < C k → ⊥
      late short =
          omega (
            arith,
            value_lt m _ _ _ _ _ _ (C k) s.channels (waiting k j b own in_time past short) in_way first
                (others_mono n k x w given.fewer) short,
          )
        where
          waits : Waits T D a C had k r b
          waits = waits_ready k j b own in_time past short

          given : Loads n tx had mark before k r b w x
          given = loads waits

          -- a flow does not go before itself
          never : (p : ℕ → Bool) → ((t : ℕ) → p t ≡ true → before t k k ≡ true) → count p r b ≡ 0
          never p f = count_none p r b (λ t y z i. s.other k k t own own (omega arith) (f t i) refl)

          -- all that go before it
          first : heads n tx before k r b ≤ others n k w
          first = others_le n k r b (λ l t. tx l t && before t k l) w given.whole (never _ (λ t. and_r (tx k t) _))

          -- and those of them that conflict with it: they touch its route
          in_way : blocks n tx before conf k r b ≤ others n k x
          in_way =
              others_le n k r b (λ l t. tx l t && before t k l && conf t k l) x
              (λ l i q. le_trans (count_in _ _ r b r b (touch l i)) (given.touching l i q))
              (never _ (λ t i. and_r (tx k t) _ (and_l _ (conf t k k) i)))
            where
              touch : (l : ℕ) → l < n → Into (λ t. tx l t && before t k l && conf t k l) (λ t. tx l t && before t k l && mark k l (had l t)) r b r b
              touch l i t y z e =
                  let u : tx l t ≡ true = search (and_l, and_r) in
                  let c : conf t k l ≡ true = search (and_l, and_r) in
                  let f = s.meeting k l t own i (omega arith) (waits t y z) u c in (y, z, search (and_l, and_r, and_i))
