-- One flow's load in another's window: the flow's packets come T slots apart and each has at most M marked slots, all of them within v of its
-- release, so a window that ends v after a release holds M for each whole period and at most M, and at most its slots, of the rest. So it is with
-- document 01's order, by the deadlines in the window; a flow that always goes first counts with every packet that can be on air in it.
use Rattle.std.specs.Prelude.{◌≡◌, true, ◌&&◌}
use Rattle.std.proofs.Common.{ap, mul-le-mul_right, le-div_iff_mul-le, arith, leb-true}
use Rattle.std.proofs.Math.Bool.{Bool}
use Prim.Native.Nat.{ℕ, zero, suc, ◌+◌, ◌-◌, ◌*◌, ◌/◌, ◌%◌, ◌≤◌, ◌<◌, min}
use Rattle.std.proofs.Math.Nat.{div-add-mod', div-mul-le_self, lt-div-mul-add, mod-lt, div-eq_of_lt-le}
use Rattle.std.proofs.Math.Decide.{dec_le}
use Rattle.std.proofs.Math.Dec.{leb}
use Rattle.document.specs.Fixed.{rounded_up}
use Rattle.laws.specs.SumLaws.{count, count_in, count_none, bits_le, count_split, and_l, and_r}

-- the release of a flow's latest packet at slot t, for t not before its start a
abbrev pub latest_release : ℕ → ℕ → ℕ → ℕ
latest_release a T t = a + (t - a) / T * T

-- it is not later than t
pub latest_le : (a T t : ℕ) → a ≤ t → latest_release a T t ≤ t
latest_le a T t h = omega (arith, div-mul-le_self (t - a) T)

-- and less than a period before t
pub latest_lt : (a T t : ℕ) → 0 < T → t < latest_release a T t + T
latest_lt a T t h = omega (arith, lt-div-mul-add {a = t - a} h)

-- in the T slots from the release of packet j on, that release is the latest
pub latest_eq : (a T j t : ℕ) → a + j * T ≤ t → t < a + j * T + T → latest_release a T t ≡ a + j * T
latest_eq a T j t h k = rw (div-eq_of_lt-le {k = j} T {m = t - a} (omega arith) (omega arith))

-- a flow's share of a window of x slots, for M marked transmissions a packet that all come within v: M for each whole period; of the rest
-- at most M, and at most the slots less the D − v before a deadline, which stay free
unfoldable pub load_share : ℕ → ℕ → ℕ → ℕ → ℕ → ℕ
load_share x T D v M = x / T * M + min M (x % T - (D - v))

-- a quotient rounded up is enough
rounded_up_law : (x T : ℕ) → 0 < T → x ≤ rounded_up x T * T
rounded_up_law x T h = omega (arith, lt-div-mul-add {a = x + (T - 1)} h)

-- A flow's marked slots: at most M in the period of each packet, and only within v of a release.
pub record MarkedSlots (a T D v M : ℕ) (s : ℕ → Bool) : Type 0 where
  pub period : 0 < T
  pub limit : v ≤ D
  pub deadline : D ≤ T
  pub few : (j : ℕ) → count s (a + j * T) T ≤ M
  pub early : (t : ℕ) → s t ≡ true → (a ≤ t) × (t < latest_release a T t + v)

module _ {a T D v M : ℕ} {s : ℕ → Bool} (f : MarkedSlots a T D v M s) where
  -- at most T slots that end v after the release of packet j hold marks of packet j alone
  end_le : (j r n : ℕ) → r + n ≡ a + j * T + v → n ≤ T → count s r n ≤ M
  end_le j r n e l = omega (arith, f.few j, count_in s s r n (a + j * T) T (λ t k h i. (from t k i, omega arith, i)))
    where
      from : (t : ℕ) → r ≤ t → s t ≡ true → a + j * T ≤ t
      from t k i =
          let w = f.early t i in
          let x = latest_le a T t w.0 in
          elim (dec_le j ((t - a) / T)) [
            | yes h ↦ omega (arith, mul-le-mul_right T h)
            | no h ↦
                let g : suc ((t - a) / T) ≤ j = omega arith in omega (arith, mul-le-mul_right T g)
          ]

  -- a window that ends there holds M for each whole period; of the rest it holds at most M, and at most the slots
  window_le : (q y j r n : ℕ) → r + n ≡ a + j * T + v → y ≤ T → n ≤ q * T + y → count s r n ≤ q * M + min M y
  window_le zero y j r n e k l = omega (arith, end_le j r n e (omega arith), bits_le (λ i. s (r + i)) n)
  window_le (suc q) y j r n e k l = go (λ i x c b. window_le q y i r x c k b) (dec_le n T) j e
    where
      -- the last T slots apart
      peel : (j c : ℕ) → r + n ≡ a + j * T + v → T < n → count s r (n - T) ≤ c → count s r n ≤ c + M
      peel j c e h p =
          let x : n ≡ n - T + T = omega arith in
          omega (arith, ap (λ (z : ℕ). count s r z) x, count_split s r (n - T) T, end_le j (r + (n - T)) T (omega arith) (omega arith))

      go : ((i x : ℕ) → r + x ≡ a + i * T + v → x ≤ q * T + y → count s r x ≤ q * M + min M y) → Dec (n ≤ T) → (j : ℕ)
          → r + n ≡ a + j * T + v → count s r n ≤ suc q * M + min M y
      go ih (yes h) j e = omega (arith, end_le j r n e h)
      go ih (no h) zero e =
          let z = count_none s r (n - T) (λ t x y i. omega (arith, f.early t i)) in omega (arith, peel 0 0 e (omega arith) (omega arith))
      go ih (no h) (suc j) e =
          omega (arith, peel (suc j) (q * M + min M y) e (omega arith) (ih j (n - T) (omega arith) (omega arith)))

  -- slots from r on that end with packet j, v after its release, which is q periods and y slots after r or sooner
  ending_le : (j r h q y : ℕ) (p : ℕ → Bool) → y ≤ T → a + j * T + v ≤ r + (q * T + y)
      → ((t : ℕ) → r ≤ t → t < r + h → p t ≡ true → (t < a + j * T + v) × (s t ≡ true)) → count p r h ≤ q * M + min M y
  ending_le j r h q y p d e k =
      let n : ℕ = a + j * T + v - r in
      let u : ℕ = a + j * T + v - n in
      omega (
        arith,
        count_in p s r h u n (λ t l g i. (omega arith, omega (arith, k t l g i), (k t l g i).1)),
        window_le q y j u n (omega arith) d (omega arith),
      )

  -- the marked slots of a window whose packets have their deadline in the first x slots of the window
  pub load_le : (r h x : ℕ) → count (λ t. s t && leb (latest_release a T t + D) (r + x)) r h ≤ load_share x T D v M
  unfolding load_share
  load_le r h x =
      elim (dec_le (a + D) (r + x)) [
        | yes k ↦
            ending_le ((r + x - (a + D)) / T) r h (x / T) (x % T - (D - v)) due (omega (arith, mod-lt x f.period))
            (omega (arith, div-mul-le_self (r + x - (a + D)) T, div-add-mod' x T)) ends
        | no k ↦ omega (arith, count_none due r h (λ t l g i. omega (arith, by t i)))
      ]
    where
      due : ℕ → Bool
      due t = s t && leb (latest_release a T t + D) (r + x)

      by : (t : ℕ) → due t ≡ true → latest_release a T t + D ≤ r + x
      by t i = leb-true _ _ (and_r (s t) _ i)

      -- no packet is later than the last with its deadline there
      ends : (t : ℕ) → r ≤ t → t < r + h → due t ≡ true → (t < a + (r + x - (a + D)) / T * T + v) × (s t ≡ true)
      ends t l u i =
          let g = and_l (s t) _ i in
          let b : (t - a) / T * T ≤ r + x - (a + D) = omega (arith, by t i) in
          let c = mul-le-mul_right T ((le-div_iff_mul-le f.period).1 b) in (omega (arith, f.early t g), g)

  -- the marked slots of a window of x slots, whatever their deadlines: their packets are released in the x + v − 1 slots that end with the window
  pub first_le : (r x : ℕ) → count s r x ≤ rounded_up (x + v - 1) T * M
  first_le r x =
      elim (dec_le (r + x) a) [
        | yes k ↦ omega (arith, count_none s r x (λ t l g i. omega (arith, f.early t i)))
        | no k ↦ elim (dec_le x 0) [
          | yes z ↦ omega (arith, count_none s r x (λ t l g i. omega arith))
          | no z ↦
              omega (
                arith,
                ending_le ((r + x - 1 - a) / T) r x (rounded_up (x + v - 1) T) 0 s (omega arith)
                    (omega (arith, div-mul-le_self (r + x - 1 - a) T, rounded_up_law (x + v - 1) T f.period)) ends,
              )
        ]
      ]
    where
      -- no packet is later than the last released in the window
      ends : (t : ℕ) → r ≤ t → t < r + x → s t ≡ true → (t < a + (r + x - 1 - a) / T * T + v) × (s t ≡ true)
      ends t l u i =
          let w = f.early t i in
          let b : (t - a) / T * T ≤ r + x - 1 - a = omega (arith, latest_le a T t w.0) in
          let c = mul-le-mul_right T ((le-div_iff_mul-le f.period).1 b) in (omega arith, i)
