-- What makes a `send` line short.
use Rattle.std.specs.Prelude.{List, ℕ, ◌<◌, length, get_or}
use Rattle.model.specs.declared.answers.Send.{Send}
use Rattle.document.specs.Machine.{no_send}
use Rattle.laws.specs.WrittenNumbers.{tens}

-- a send whose numbers have at most 10, 2, 5, 5, 1 and 2 digits
pub record Short (x : Send) : Type 0 where
  pub slot : x.slot.0 < tens 10
  pub flow : x.flow < tens 2
  pub from : x.from < tens 5
  pub to : x.to < tens 5
  pub attempt : x.attempt < tens 1
  pub channel : x.channel < tens 2

abbrev pub AllShort : List Send → Type 0
AllShort xs = (p : ℕ) → p < length xs → Short (get_or xs p no_send)
