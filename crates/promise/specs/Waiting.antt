-- A slot in which a packet waits is paid for, by a packet that conflicts with it or by m packets that are taken before it; one linear
-- inequality, m + F ≤ m·F + H, says both, so it can be summed over slots without a case. It is said of any order of priority: `before`
-- tells which flows are taken before the packet.
use Rattle.std.specs.Prelude.{◌≡◌, ◌⊎◌, Bool, true, ◌&&◌, ℕ, zero, suc, ◌+◌, ◌-◌, ◌*◌, ◌/◌, ◌≤◌, ◌<◌}
use Rattle.std.proofs.Common.{inl, inr, le_refl, mul-le-mul_left, le-div_iff_mul-le, arith}
use Rattle.std.proofs.Math.Decide.{dec_le}
use Rattle.model.specs.Sums.{bit, sum_to}
use Rattle.laws.specs.SumLaws.{sum_le, bit_le, and_l}

-- of the flows placed in a slot: how many go before a packet, and how many of those conflict with it
abbrev pub placed_before : ℕ → (placed before : ℕ → Bool) → ℕ
placed_before n placed before = sum_to (λ l. bit (placed l && before l)) n

abbrev pub placed_in_way : ℕ → (placed before conf : ℕ → Bool) → ℕ
placed_in_way n placed before conf = sum_to (λ l. bit (placed l && before l && conf l)) n

-- what a slot's choice on m channels guarantees to a ready packet of flow k
abbrev pub Paid : (n m : ℕ) (placed before conf : ℕ → Bool) → ℕ → Type 0
Paid n m placed before conf k =
    m + placed_in_way n placed before conf ≤ m * bit (placed k) + m * placed_in_way n placed before conf + placed_before n placed before

-- In numbers: of the h packets taken before a packet that is passed over, f conflict with it; it was passed over because of the number of
-- channels (m ≤ h) or because of a conflict (1 ≤ f).
pub wait_le : (m f h : ℕ) → f ≤ h → (m ≤ h) ⊎ (1 ≤ f) → m + f ≤ m * f + h
wait_le m zero h l (inl k) = omega arith
wait_le m zero h l (inr k) = omega arith
wait_le m (suc f) h l w = omega arith

-- So a packet that is placed or passed over for one of the two reasons has the guarantee.
pub wait_paid : (n m : ℕ) (placed before conf : ℕ → Bool) (k : ℕ)
    → (placed k ≡ true) ⊎ ((m ≤ placed_before n placed before) ⊎ (1 ≤ placed_in_way n placed before conf)) → Paid n m placed before conf k
wait_paid n m p b c k w = go w (sum_le _ _ n (λ l i. bit_le _ _ (and_l (p l && b l) (c l))))
  where
    go : (p k ≡ true) ⊎ ((m ≤ placed_before n p b) ⊎ (1 ≤ placed_in_way n p b c)) → placed_in_way n p b c ≤ placed_before n p b → Paid n m p b c k
    go (inl e) h = rw e (omega arith)
    go (inr e) h = omega (arith, wait_le m (placed_in_way n p b c) (placed_before n p b) h e)

-- The guarantee summed over n slots: g says in which the packet is placed, f how many are in its way and h how many go before it.
pub wait_sum : (m : ℕ) (f g h : ℕ → ℕ) (n : ℕ) → ((i : ℕ) → i < n → m + f i ≤ m * g i + m * f i + h i)
    → m * n + sum_to f n ≤ m * sum_to g n + m * sum_to f n + sum_to h n
unfolding sum_to
wait_sum m f g h zero w = omega arith
wait_sum m f g h (suc n) w = omega (arith, wait_sum m f g h n (λ i l. w i (omega arith)), w n (le_refl (suc n)))

-- A packet is done within the equation's value, the last step: a packet that has made p < C transmissions in B slots, with F packets in its way
-- and H before it, of which there are at most X and W, has B below C + X + (W - X) / m.
pub value_lt : (m B F p H X W C : ℕ) → 0 < m → m * B + F ≤ m * p + m * F + H → F ≤ X → H ≤ W → X ≤ W → p < C
    → B < C + X + (W - X) / m
value_lt zero B F p H X W C pos h f w x c = absurd (omega arith)
value_lt (suc n) B F p H X W C pos h f w x c =
    elim (dec_le B (p + X)) [
      | yes k ↦ omega arith
      | no k ↦
          let y : (y : ℕ) × (B ≡ p + X + y) = (B - (p + X), omega arith) in
          let r = rw y.1 at h in
          let d : y.0 * suc n ≤ W - X = omega (arith, mul-le-mul_left n f) in
          omega (arith, (le-div_iff_mul-le pos).1 d)
    ]
