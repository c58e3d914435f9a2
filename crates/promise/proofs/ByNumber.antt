-- With the lower flow number first, the flows below k alone go before it. One that is done within its bound makes no transmission later, so its
-- load in k's window is bounded by the packets that can be on air there, and k is done within its own bound: flow after flow, not slot after slot.
use Rattle.std.specs.Prelude.{◌≡◌, refl, Bool, true, false, ◌&&◌, ltb, eqb}
use Rattle.std.proofs.Common.{◌∙◌, le_of_eq, le_trans, mul-le-mul_left, arith, ltb-true, ltb-false, lt-ltb, le-ltb, ne_eqb}
use Rattle.std.proofs.Math.Bool.{cond}
use Prim.Native.Nat.{ℕ, zero, suc, ◌+◌, ◌-◌, ◌*◌, ◌/◌, ◌≤◌, ◌<◌, zero-le}
use Rattle.model.specs.Sums.{bit, sum_to}
use Rattle.laws.specs.SumLaws.{count, Into, sum_cut, sum_ext, sum_more, count_in, count_none, and_l, and_r, and_i}
use Rattle.promise.specs.Load.{latest_release, first_le}
use Rattle.promise.specs.Schedule.{others, Schedule, marked, loads_by, complete_within, done_by_loads}
use Rattle.promise.specs.ByNumber.{packets_in, number_value, Lower}

-- the sum over the others of what is 0 from k on
others_below : (n k : ℕ) (f : ℕ → ℕ) → k ≤ n → others n k (λ l. cond (ltb l k) (f l) 0) ≡ sum_to f k
unfolding others
others_below n k f h =
    sum_cut _ k n h (λ l i j. go l i (eqb l k))
    ∙ sum_ext _ f k (λ l i. let e = ne_eqb l k (λ q. omega arith) in rw (e, lt-ltb l k i))
  where
    go : (l : ℕ) → k ≤ l → (b : Bool) → cond b 0 (cond (ltb l k) (f l) 0) ≡ 0
    go l i true = refl
    go l i false = rw (le-ltb l k i)

module _ {n m L : ℕ} {T D a C : ℕ → ℕ} {S : ℕ → ℕ → ℕ} {tx : ℕ → ℕ → Bool} {had : ℕ → ℕ → ℕ} {mark before conf : ℕ → ℕ → ℕ → Bool}
    (s : Schedule n m L T D a C S tx had mark before conf) (lower : Lower n L before) (v : ℕ → ℕ) where
  -- the packets of flow k are done within v
  abbrev Done : ℕ → Type 0
  Done k = (j : ℕ) → a k + j * T k + v k ≤ L → C k ≤ count (tx k) (a k + j * T k) (v k)

  -- then its transmissions come within v of their releases
  done_within : (l : ℕ) → l < n → Done l → (t : ℕ) → t < L → tx l t ≡ true → t < latest_release (a l) (T l) t + v l
  done_within l p d t q i = complete_within s l t (v l) p q i (λ y. d ((t - a l) / T l) (omega arith))

  -- and at most its share of them, however marked, goes before k in a window of k's deadline
  first_share : (k r b : ℕ) → k < n → b ≤ D k → r + b ≤ L → ((l : ℕ) → l < k → (v l ≤ D l) × Done l) → (h : ℕ → Bool) (l : ℕ) → l < n
      → count (λ t. tx l t && before t k l && h (had l t)) r b ≤ cond (ltb l k) (packets_in T D v k l * sum_to (λ c. bit (h c)) (C l)) 0
  first_share k r b own in_time past below h l i = go (ltb l k) refl
    where
      sent : ℕ → Bool
      sent t = tx l t && before t k l && h (had l t)

      shown : ℕ → Bool
      shown t = tx l t && h (had l t) && ltb t (r + b)

      into : Into sent shown r b r b
      into t y z w =
          let p : tx l t ≡ true = search (and_l, and_r) in
          let g : h (had l t) ≡ true = and_r (tx l t && before t k l) _ w in
          let u = lt-ltb t (r + b) z in (y, z, search and_i)

      go : (c : Bool) → ltb l k ≡ c → count sent r b ≤ cond c (packets_in T D v k l * sum_to (λ c. bit (h c)) (C l)) 0
      go true e =
          let w = below l (ltb-true l k e) in
          let f = marked s h l (v l) (r + b) i w.0 past (λ t q. done_within l i w.1 t (omega arith)) in
          le_trans (count_in sent shown r b r b into) (le_trans (sum_more (λ i. bit (shown (r + i))) b (D k) in_time) (first_le f r (D k)))
      go false e =
          le_of_eq (count_none sent r b (λ t y z w.
          let q : before t k l ≡ true = search (and_l, and_r) in
          omega (arith, ltb-false l k e, lower k l t own i (omega arith) q)))

  -- so k is done within v, if v is at least its value and at most its deadline
  done_next : (k : ℕ) → k < n → v k ≤ D k → number_value m T D C S v k ≤ v k → ((l : ℕ) → l < k → (v l ≤ D l) × Done l) → Done k
  unfolding number_value
  done_next k own fit value below j past =
      done_by_loads s k j (v k) _ _ own fit past
      (λ w. loads_by s share k (a k + j * T k) (v k) own more (λ h l i q. first_share k (a k + j * T k) (v k) own fit past below h l i))
      (rw (others_below n k (λ l. packets_in T D v k l * S k l) (omega arith), others_below n k (λ l. packets_in T D v k l * C l) (omega arith)) value)
    where
      share : ℕ → ℕ → ℕ
      share l M = cond (ltb l k) (packets_in T D v k l * M) 0

      more : (l c d : ℕ) → c ≤ d → share l c ≤ share l d
      more l c d h = go (ltb l k)
        where
          go : (b : Bool) → cond b (packets_in T D v k l * c) 0 ≤ cond b (packets_in T D v k l * d) 0
          go true = mul-le-mul_left _ h
          go false = zero-le

  -- Every flow up to one below which, and at which, v is at least the value and at most the deadline, is done within v.
  pub done_by_number : (k : ℕ) → k < n → ((l : ℕ) → l ≤ k → (v l ≤ D l) × (number_value m T D C S v l ≤ v l)) → Done k
  done_by_number k own fit = to (suc k) k (omega arith) own fit
    where
      to : (c k : ℕ) → k < c → k < n → ((l : ℕ) → l ≤ k → (v l ≤ D l) × (number_value m T D C S v l ≤ v l)) → Done k
      to zero k i own fit = absurd (omega arith)
      to (suc c) k i own fit =
          done_next k own (fit k (omega arith)).0 (fit k (omega arith)).1
          (λ l q. ((fit l (omega arith)).0, to c l (omega arith) (omega arith) (λ x y. fit x (omega arith))))
