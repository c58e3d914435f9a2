-- Request 4's order of priority, lower flow number first, is a strict total order of the flows.
use Rattle.std.specs.Prelude.{◌≡◌, ◌≢◌, true, false, ℕ, ◌<◌, ltb}
use Rattle.std.proofs.Common.{arith, ltb-true, ltb-false, lt-ltb, le-ltb}
use Rattle.document.specs.Machine.{lower}
use Rattle.promise.specs.SlotChoice.{Ordering}

pub number_order : Ordering lower
number_order s st = record { irreflexive = λ k i. le-ltb k k (omega arith); transitive = then; total = other }
  where
    then : (k l h : ℕ) → k < s.count → l < s.count → h < s.count → ltb k l ≡ true → ltb l h ≡ true → ltb k h ≡ true
    then k l h x y z p q = lt-ltb k h (omega (arith, ltb-true k l p, ltb-true l h q))

    other : (k l : ℕ) → k < s.count → l < s.count → k ≢ l → ltb k l ≡ false → ltb l k ≡ true
    other k l x y n e = lt-ltb l k (omega (arith, ltb-false k l e))
