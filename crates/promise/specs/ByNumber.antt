-- The value of the test for fixed priority, and what its order of priority adds.
use Rattle.std.specs.Prelude.{◌≡◌, Bool, true}
use Prim.Native.Nat.{ℕ, ◌+◌, ◌-◌, ◌*◌, ◌/◌, ◌<◌}
use Rattle.model.specs.Sums.{sum_to}
use Rattle.document.specs.Fixed.{rounded_up}

-- the packets of l that can be on air in D of k slots, if they are done within v
abbrev pub packets_in : (T D v : ℕ → ℕ) → ℕ → ℕ → ℕ
packets_in T D v k l = rounded_up (D k + v l - 1) (T l)

-- the request's value for k at the bounds v
unfoldable pub number_value : (m : ℕ) (T D C : ℕ → ℕ) (S : ℕ → ℕ → ℕ) (v : ℕ → ℕ) → ℕ → ℕ
number_value m T D C S v k =
    C k + sum_to (λ l. packets_in T D v k l * S k l) k
    + (sum_to (λ l. packets_in T D v k l * C l) k - sum_to (λ l. packets_in T D v k l * S k l) k) / m

-- what request 4's order of priority adds: only a lower flow goes before k
abbrev pub Lower : (n L : ℕ) (before : ℕ → ℕ → ℕ → Bool) → Type 0
Lower n L before = (k l t : ℕ) → k < n → l < n → t < L → before t k l ≡ true → l < k
