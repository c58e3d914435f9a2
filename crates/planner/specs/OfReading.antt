-- An answer for what was read: of the set, or the refused answer. What is written for it is an answer or a refusal, and a refusal writes nothing.
use Rattle.std.specs.Prelude.{◌≡◌, Bool, true, false, cond, Result, Ok, Err, MatchResult, ℕ}
use Rattle.std.proofs.Common.{refl}
use Rattle.model.specs.declared.answers.{Fault.{Fault}, Written.{Written}}
use Rattle.model.specs.Refusals.{good}
use Rattle.document.specs.Reader.{refused_writing}
use Rattle.superframe_table.specs.SetFaults.{unless}
use Rattle.planner.specs.StepWritten.{written}

pub answered : {A : Type 0} (f : Fault) (r : A) {x y : A} → (good f.refusal ≡ true → r ≡ x) → (good f.refusal ≡ false → r ≡ y)
    → r ≡ cond (good f.refusal) x y
answered f r {x} {y} h k = go (good f.refusal) refl
  where
    go : (t : Bool) → good f.refusal ≡ t → r ≡ cond t x y
    go true e = h e
    go false e = k e

pub told : {x : Result Written Fault} (f : Fault) (n : ℕ) (w : Written) → x ≡ unless f (written f (cond (good f.refusal) n 0))
    → MatchResult x (λ a. w ≡ a) (λ g. w ≡ refused_writing g) → w ≡ written f (cond (good f.refusal) n 0)
told f n w e h = go (good f.refusal) (rw e at h)
  where
    go : (t : Bool) → MatchResult (cond t (Ok (written f (cond t n 0))) (Err f)) (λ a. w ≡ a) (λ g. w ≡ refused_writing g) → w ≡ written f (cond t n 0)
    go true k = k
    go false k = k
