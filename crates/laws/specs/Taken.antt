-- The first entries of a list: a number above its length takes no more than the length does.
use Rattle.std.specs.Prelude.{◌≡◌, List, ℕ, min, length, take}
use Rattle.std.proofs.Common.{sym, ap, ◌∙◌, arith, take_all}
use Rattle.std.proofs.Math.Decide.{dec_le}

pub take_min {ℓ} : {A : Type ℓ} (l : List A) (k n m : ℕ) → length l ≡ k → m ≡ min n k → take m l ≡ take n l
take_min l k n m h e =
    elim (dec_le n k) [
      | yes d ↦ let z : m ≡ n = omega arith in ap (λ (i : ℕ). take i l) z
      | no d ↦ take_all m l (omega arith) ∙ sym (take_all n l (omega arith))
    ]
