-- Refusals as errors: `Ok` says that nothing is refused, `Err` is the refusal itself.
use Rattle.std.specs.Prelude.{◌≡◌, true, false, Result, Ok, Err}
use Rattle.std.proofs.Common.{arith}
use Rattle.model.specs.declared.answers.Fault.{Fault}
use Rattle.model.specs.declared.answers.Refusal.{Refusal}
use Rattle.model.specs.Refusals.{good, judged, checked, no_fault}

-- what was judged refuses nothing
pub judged_ok : {x : Result Unit Refusal} {u : Unit} (r : Refusal) → x ≡ judged r → x ≡ Ok u → good r ≡ true
judged_ok r e h = grind arith

-- what was judged is refused by this
pub judged_err : {x : Result Unit Refusal} {q : Refusal} (r : Refusal) → x ≡ judged r → x ≡ Err q → (q ≡ r) × (good q ≡ false)
judged_err r e h = grind arith

-- the same of a refusal with its line
pub checked_ok : {x : Result Unit Fault} {u : Unit} (f : Fault) → x ≡ checked f → x ≡ Ok u → good f.refusal ≡ true
checked_ok f e h = grind arith

pub checked_err : {x : Result Unit Fault} {g : Fault} (f : Fault) → x ≡ checked f → x ≡ Err g → (g ≡ f) × (good g.refusal ≡ false)
checked_err f e h = grind arith

-- a refusal as the error that it is
pub err_of : (f g : Fault) → good f.refusal ≡ false → f ≡ g → Err f ≡ checked g
err_of f g b e = grind arith

pub ok_of : (g : Fault) → no_fault ≡ g → Ok tt ≡ checked g
ok_of g e = grind arith
