-- With document 01's order of priority a packet is done within the equation's value: the others' load is bounded because their transmissions so far
-- came within v of their releases, and so, slot by slot, the next ones do.
use Rattle.std.specs.Prelude.{◌≡◌, refl, Bool, true, ◌&&◌, leb, ltb}
use Rattle.std.proofs.Common.{sym, le_refl, le_of_eq, le_trans, mul-le-mul_left, arith, lt-ltb, le-leb}
use Prim.Native.Nat.{ℕ, zero, suc, ◌+◌, ◌-◌, ◌*◌, ◌/◌, ◌≤◌, ◌<◌, min}
use Rattle.std.proofs.Math.Decide.{dec_le}
use Rattle.model.specs.Sums.{bit, sum_to}
use Rattle.laws.specs.SumLaws.{count, Into, count_in, and_l, and_r, and_i}
use Rattle.promise.specs.Load.{latest_release, latest_eq, load_share, load_le}
use Rattle.promise.specs.Schedule.{others, HasReady, Schedule, Waits, numbered, marked, loads_by, complete_within, done_by_loads}

-- the others' load in k's deadline: all their transmissions, and those that touch k's route
abbrev pub wholes : ℕ → (T D C v : ℕ → ℕ) → ℕ → ℕ
wholes n T D C v k = others n k (λ l. load_share (D k) (T l) (D l) (v l) (C l))

abbrev pub conflicts : ℕ → (T D : ℕ → ℕ) (S : ℕ → ℕ → ℕ) (v : ℕ → ℕ) → ℕ → ℕ
conflicts n T D S v k = others n k (λ l. load_share (D k) (T l) (D l) (v l) (S k l))

-- the equation's value for k at the list v
unfoldable pub equation_value : (n m : ℕ) (T D C : ℕ → ℕ) (S : ℕ → ℕ → ℕ) (v : ℕ → ℕ) → ℕ → ℕ
equation_value n m T D C S v k = C k + conflicts n T D S v k + (wholes n T D C v k - conflicts n T D S v k) / m

-- as an equation, for proofs that do not open it
pub equation_value_law : (n m : ℕ) (T D C : ℕ → ℕ) (S : ℕ → ℕ → ℕ) (v : ℕ → ℕ) (k : ℕ)
    → equation_value n m T D C S v k ≡ C k + conflicts n T D S v k + (wholes n T D C v k - conflicts n T D S v k) / m
unfolding equation_value
equation_value_law n m T D C S v k = refl

-- what document 01's order of priority adds: only a packet with no later a deadline goes before k's
abbrev pub Urgent : (n L : ℕ) (T D a C : ℕ → ℕ) (tx : ℕ → ℕ → Bool) (had : ℕ → ℕ → ℕ) (before : ℕ → ℕ → ℕ → Bool) → Type 0
Urgent n L T D a C tx had before = (k l t : ℕ) → k < n → l < n → t < L → HasReady T D a C had k t → tx l t ≡ true → before t k l ≡ true
    → latest_release (a l) (T l) t + D l ≤ latest_release (a k) (T k) t + D k

-- every transmission before slot e comes within v of its packet's release
abbrev pub Within : ℕ → (T a : ℕ → ℕ) → (ℕ → ℕ → Bool) → (ℕ → ℕ) → ℕ → Type 0
Within n T a tx v e = (l t : ℕ) → l < n → t < e → tx l t ≡ true → t < latest_release (a l) (T l) t + v l

module _ {n m L : ℕ} {T D a C : ℕ → ℕ} {S : ℕ → ℕ → ℕ} {tx : ℕ → ℕ → Bool} {had : ℕ → ℕ → ℕ} {mark before conf : ℕ → ℕ → ℕ → Bool}
    (s : Schedule n m L T D a C S tx had mark before conf) where
  -- from here on, with no later a deadline before k's: a list v, and a slot e before which every transmission came within v
  module _ (urgent : Urgent n L T D a C tx had before) (v : ℕ → ℕ) (fit : (l : ℕ) → l < n → v l ≤ D l)
      (e : ℕ) (end : e ≤ L) (so_far : Within n T a tx v e) where
    -- while a packet waits, the marked transmissions of another flow that go before it are at most that flow's share
    share_le : (k j b : ℕ) → k < n → b ≤ D k → a k + j * T k + b ≤ e → Waits T D a C had k (a k + j * T k) b → (h : ℕ → Bool) (l : ℕ) → l < n
        → count (λ t. tx l t && before t k l && h (had l t)) (a k + j * T k) b
        ≤ load_share (D k) (T l) (D l) (v l) (sum_to (λ c. bit (h c)) (C l))
    share_le k j b own in_time past waits h l i =
        le_trans (count_in _ due r b r b into) (load_le (marked s h l (v l) e i (fit l i) end (λ t. so_far l t i)) r b (D k))
      where
        r : ℕ
        r = a k + j * T k

        due : ℕ → Bool
        due t = tx l t && h (had l t) && ltb t e && leb (latest_release (a l) (T l) t + D l) (r + D k)

        into : Into (λ t. tx l t && before t k l && h (had l t)) due r b r b
        into t y z w =
            let p : tx l t ≡ true = search (and_l, and_r) in
            let q : before t k l ≡ true = search (and_l, and_r) in
            let g : h (had l t) ≡ true = and_r (tx l t && before t k l) _ w in
            let u = lt-ltb t e (omega arith) in
            let d = urgent k l t own i (omega arith) (waits t y z) p q in
            let c = latest_eq (a k) (T k) j t y (omega (arith, s.deadline k own)) in
            let x : latest_release (a l) (T l) t + D l ≤ r + D k = omega arith in (y, z, search (and_i, le-leb))

    -- A packet is done within the equation's value.
    pub done_le : (k j : ℕ) → k < n → equation_value n m T D C S v k ≤ D k → a k + j * T k + equation_value n m T D C S v k ≤ e
        → C k ≤ count (tx k) (a k + j * T k) (equation_value n m T D C S v k)
    unfolding load_share
    done_le k j q x y =
        done_by_loads s k j b _ _ q x (omega arith)
        (λ w. loads_by s share k (a k + j * T k) b q more (λ h l i o. share_le k j b q x y w h l i)) (le_of_eq (sym (equation_value_law n m T D C S v k)))
      where
        b : ℕ
        b = equation_value n m T D C S v k

        share : ℕ → ℕ → ℕ
        share l M = load_share (D k) (T l) (D l) (v l) M

        more : (l c d : ℕ) → c ≤ d → share l c ≤ share l d
        more l c d h = omega (arith, mul-le-mul_left (D k / T l) h)

  -- One lemma for every test: from here on, a list v that is at most the deadlines and at least the values that it gives, cut at the deadlines.
  module _ (urgent : Urgent n L T D a C tx had before) (v : ℕ → ℕ) (fit : (l : ℕ) → l < n → v l ≤ D l)
      (holds : (l : ℕ) → l < n → min (D l) (equation_value n m T D C S v l) ≤ v l) where
    -- if all before slot t came within v, so does a transmission in t: otherwise it is past the deadline, or its packet was complete before t
    within_next : (l t : ℕ) → l < n → t < L → Within n T a tx v t → tx l t ≡ true → t < latest_release (a l) (T l) t + v l
    within_next l t p q so_far i =
        let w = s.placed l t p q i in
        let b = holds l p in
        elim (dec_le (equation_value n m T D C S v l) (D l)) [
          | no x ↦ omega arith
          | yes x ↦
              omega (
                arith,
                complete_within s l t (equation_value n m T D C S v l) p q i (done_le urgent v fit t (omega arith) so_far l ((t - a l) / T l) p x),
              )
        ]

    -- and so slot by slot
    within_to : (e : ℕ) → e ≤ L → Within n T a tx v e
    within_to zero h l t p q i = absurd (omega arith)
    within_to (suc e) h l t p q i = within_next l t p (omega arith) (λ k u x y z. within_to e (omega arith) k u x (omega arith) z) i

    -- every transmission comes within v of its packet's release
    pub within : (l t : ℕ) → l < n → t < L → tx l t ≡ true → t < latest_release (a l) (T l) t + v l
    within = within_to L (le_refl L)

    -- every packet of a flow whose own value is at most its deadline has all its transmissions within that value
    pub done : (k j : ℕ) → k < n → equation_value n m T D C S v k ≤ D k → a k + j * T k + equation_value n m T D C S v k ≤ L
        → count (tx k) (a k + j * T k) (equation_value n m T D C S v k) ≡ C k
    done k j p x y =
        omega (
          arith,
          done_le urgent v fit L (le_refl L) (within_to L (le_refl L)) k j p x y,
          numbered s (λ i. true) k j (equation_value n m T D C S v k) p (omega (arith, s.deadline k p)) (omega arith),
        )
