-- What the two programs print: how long it can be, and what is printed for a text that was read.
use Rattle.std.specs.Prelude.{◌≡◌, true, List, ℕ}
use Rattle.model.specs.declared.answers.Reading.{Reading}
use Rattle.model.specs.declared.kinds.{FlowSet.{FlowSet}, Order.{Order}, Order.TheVariants.{Deadline, Number}}
use Rattle.model.specs.Refusals.{good}
use Rattle.document.specs.Reader.{record_fault}
use Rattle.model.specs.Sets.{used}
use Rattle.document.specs.{Program.{plan_of}, Fixed.{fixed_of}}

-- what is said of a set: by `plan`, which goes by document 01's order, and by `fixed`
abbrev pub says_by : Order → FlowSet → List ℕ
says_by Deadline = plan_of
says_by Number = fixed_of

-- neither has more bytes; 18,345 are what the sum of the longest lines of a plan allows
abbrev pub most_plan : ℕ
most_plan = 18432

-- a text that was read without fault passes the record check
abbrev pub Passed : Reading → Type 0
Passed r = good r.fault.refusal ≡ true → good (record_fault (used r.set)).refusal ≡ true
