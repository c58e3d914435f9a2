-- What document 01 writes with Σ, "some" and "how many": over the numbers 0 .. n − 1.
use Rattle.std.specs.Prelude.{Bool, true, false, ◌&&◌, ◌||◌, ℕ, zero, suc, ◌+◌}

-- a test as a number, 1 where it passes
abbrev pub bit : Bool → ℕ
bit true = 1
bit false = 0

-- f 0 + f 1 + .. + f (n − 1)
unfoldable pub sum_to : (ℕ → ℕ) → ℕ → ℕ
sum_to f zero = 0
sum_to f (suc n) = sum_to f n + f n

-- some i below n passes
unfoldable pub any_to : (ℕ → Bool) → ℕ → Bool
any_to p zero = false
any_to p (suc n) = any_to p n || p n

-- every i below n passes
unfoldable pub all_to : (ℕ → Bool) → ℕ → Bool
all_to p zero = true
all_to p (suc n) = all_to p n && p n
