-- A loop that goes through n places from the first on: what holds at its start, after one place more and at its end.
use Rattle.std.specs.Prelude.{◌≡◌, ℕ, ◌+◌, ◌≤◌, ◌<◌}
use Rattle.std.proofs.Common.{arith}

-- P holds of the first k of n places
pub record SoFar (n : ℕ) (P : ℕ → Type 0) (k : ℕ) : Type 0 where
  pub within : k ≤ n
  pub holds : P k

pub begins : {n : ℕ} {P : ℕ → Type 0} → P 0 → SoFar n P 0
begins h = record { within = omega arith; holds = h }

pub goes_on : {n : ℕ} {P : ℕ → Type 0} {k : ℕ} → k < n → P (k + 1) → SoFar n P (k + 1)
goes_on l h = record { within = omega arith; holds = h }

pub ends : {n : ℕ} {P : ℕ → Type 0} {k : ℕ} → SoFar n P k → n ≤ k → P n
ends {n} {P} {k} t l = let e : k ≡ n = omega (arith, t.within) in rw (← e) t.holds
