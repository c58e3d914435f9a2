-- Document 01, "Refusal numbers", and those of request 2: 14 to 16.
use mathlib.Core.{Bool.{Bool, false, cond}, List.{List, [], ◌∷◌}}
use Rattle.std.specs.Prelude.{ℕ, Option, Some, None, Result, Ok, Err}
use lib.{Dec.{eqb}, IntN.{pos}}
use Rattle.model.specs.declared.answers.{Bounds.{Bounds}, Fault.{Fault}, FixedBounds.{FixedBounds}, FixedVerdict.{FixedVerdict}, Refusal.{Refusal}, Tabled.{Tabled}, Verdict.{Verdict}}
use Rattle.model.specs.declared.answers.Refusal.TheVariants.{Nothing, BadForm, NoChannel, TooManyFlows, BadPeriod, BadDeadline, BadTries, BadRoute, EqualNeighbours, TooMuchWork, NoRoom, AtLastSlot, BadState, NoSuchFlow, NotAdmitted, LateStart, LongHyperPeriod}

-- the number of each case; 0 where nothing is refused
abbrev pub refusal_number : Refusal → ℕ
refusal_number Nothing = 0
refusal_number BadForm = 1
refusal_number NoChannel = 2
refusal_number TooManyFlows = 3
refusal_number BadPeriod = 4
refusal_number BadDeadline = 5
refusal_number BadTries = 6
refusal_number BadRoute = 7
refusal_number EqualNeighbours = 8
refusal_number TooMuchWork = 9
refusal_number NoRoom = 10
refusal_number AtLastSlot = 11
refusal_number BadState = 12
refusal_number NoSuchFlow = 13
refusal_number NotAdmitted = 14
refusal_number LateStart = 15
refusal_number LongHyperPeriod = 16

-- the number and the values of each case of a number's reading: the value and the place after it, or refusal 1 and none
abbrev pub number_says : Option (ℕ × ℕ) → ℕ × List ℕ
number_says (Some (v, next)) = (refusal_number Nothing, v ∷ next ∷ [])
number_says None = (refusal_number BadForm, [])

-- nothing is refused
abbrev pub good : Refusal → Bool
good r = eqb (refusal_number r) 0

-- a refusal with the line that it names, counted from 1, and that line's field; 0 names none
abbrev pub fault_in : Refusal → ℕ → ℕ → Fault
fault_in r n f = record { refusal = r; line = n; field = f }

-- a refusal that names no field
abbrev pub fault_at : Refusal → ℕ → Fault
fault_at r n = fault_in r n 0

abbrev pub no_fault : Fault
no_fault = fault_at Nothing 0

-- the refusal, if it is one, before what comes later
abbrev pub or_else : Fault → Fault → Fault
or_else f g = cond (good f.refusal) g f

-- a refusal as an error; nothing is refused where all is well
abbrev pub judged : Refusal → Result Unit Refusal
judged r = cond (good r) (Ok tt) (Err r)

-- the same of a refusal with its line
abbrev pub checked : Fault → Result Unit Fault
checked f = cond (good f.refusal) (Ok tt) (Err f)

-- a refused bound or verdict gives zeros and "no"
abbrev pub refused_verdict : Fault → Verdict
refused_verdict f = record { fault = f; basic = false; tightened = false; rounds = 0 }

abbrev pub refused_bounds : Fault → Bounds
refused_bounds f = record { fault = f; work = 0; basic = 0; tightened = 0; deadline = record { 0 = 0 }; margin = pos 0 }

abbrev pub refused_fixed_verdict : Fault → FixedVerdict
refused_fixed_verdict f = record { fault = f; admitted = false; judged = 0 }

abbrev pub refused_fixed_bounds : Fault → FixedBounds
refused_fixed_bounds f = record { fault = f; work = 0; bound = 0; deadline = record { 0 = 0 }; judged = false }

-- a refused table has no slots and no numbers
abbrev pub refused_table : Fault → Tabled
refused_table f = record { fault = f; hyper = 0; numbers = 0 }
