-- The latest of the slots a, a + p, a + 2 · p, .. that is not after slot t.
use Rattle.std.proofs.Math.Nat.{zero-div}
use Rattle.std.proofs.Common.{sub-eq-zero_of_le, zero-mul, mul-zero, add-zero, div-add-mod', arith}
use Rattle.std.specs.Prelude.{ℕ, ◌+◌, ◌-◌, ◌*◌, ◌/◌, ◌%◌, ◌≤◌, ◌≡◌}

-- from the first on it is the slot less the place in the period
pub release_back : (a p t : ℕ) → a ≤ t → a + (t - a) / p * p ≡ t - (t - a) % p
release_back a p t h = omega (arith, div-add-mod' (t - a) p)

-- before it, and with a period of no slots, it is the first
pub release_first : (a p t : ℕ) → t ≤ a → a + (t - a) / p * p ≡ a
release_first a p t h = rw (sub-eq-zero_of_le h, zero-div, zero-mul, add-zero)

pub release_only : (a p t : ℕ) → p ≡ 0 → a + (t - a) / p * p ≡ a
release_only a p t e = rw (e, mul-zero, add-zero)
