-- What is refused before a step.
use Rattle.std.specs.Prelude.{◌≡◌, true, cond, ℕ, eqb}
use Rattle.model.specs.declared.answers.Fault.{Fault}
use Rattle.model.specs.declared.answers.Reading.{Reading}
use Rattle.model.specs.declared.answers.Refusal.TheVariants.{BadState}
use Rattle.model.specs.Refusals.{good, fault_at, no_fault, or_else}
use Rattle.model.specs.Sets.{used}
use Rattle.document.specs.Reader.{record_fault}
use Rattle.document.specs.Program.{state_length}

-- 12 for a length other than 68
abbrev pub length_fault : ℕ → Fault
length_fault n = cond (eqb n state_length) no_fault (fault_at BadState 0)

-- the text's refusals, then 12
abbrev pub fault_before_step : Fault → ℕ → Fault
fault_before_step f n = or_else f (length_fault n)

-- a reading that is not refused has a set that the record check passes
abbrev pub PassesIfRead : Reading → Type 0
PassesIfRead r = good r.fault.refusal ≡ true → good (record_fault (used r.set)).refusal ≡ true
