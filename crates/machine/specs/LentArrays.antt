-- Arrays that belong together, each group as one record of lists. Definitions and laws speak of the record; `Structs` makes it of the code's structs,
-- of what is lent (`.now`, or `.old` of what may be written) or of what is left (`.new`).
use Rattle.std.specs.Prelude.{List, ℕ, length, replicate, ◌≡◌}
use Rattle.model.specs.Limits.{most_channels, most_flows}

-- an array with an entry for each packet that can be placed
abbrev pub PerPlaced : {A : Type 0} → List A → Type 0
PerPlaced l = length l ≡ most_channels

-- the numbers of each flow that its releases and deadlines are made of, and C: start, period, deadline, work
pub record Numbers : Type 0 where
  pub start : List ℕ
  pub period : List ℕ
  pub deadline : List ℕ
  pub work : List ℕ

-- those of no flow
abbrev pub no_numbers : Numbers
no_numbers = let none : List ℕ = replicate most_flows 0 in record { start = none; period = none; deadline = none; work = none }

-- what rule 3 takes each flow's links from: the tries of a link, and the route
pub record Links : Type 0 where
  pub tries : List ℕ
  pub routes : List (List ℕ)

-- what rule 2 asks of each flow's packet: the start, the absolute deadline, what it has had, and C
pub record Packets : Type 0 where
  pub start : List ℕ
  pub due : List ℕ
  pub sent : List ℕ
  pub work : List ℕ

abbrev pub packets_of : List ℕ → List ℕ → List ℕ → List ℕ → Packets
packets_of start due sent work = record { start = start; due = due; sent = sent; work = work }

-- what a release changes of each flow: the absolute deadline, the next release, and what its packet has had
pub record Releases : Type 0 where
  pub due : List ℕ
  pub next : List ℕ
  pub sent : List ℕ

abbrev pub releases_of : List ℕ → List ℕ → List ℕ → Releases
releases_of due next sent = record { due = due; next = next; sent = sent }

-- what a run keeps from slot to slot: what a release changes, the order of the packets, the soonest release and how many of the order wait
pub record RunArrays : Type 0 where
  pub due : List ℕ
  pub next : List ℕ
  pub sent : List ℕ
  pub order : List ℕ
  pub soonest : ℕ
  pub waiting : ℕ

abbrev pub run_arrays_of : List ℕ → List ℕ → List ℕ → List ℕ → ℕ → ℕ → RunArrays
run_arrays_of due next sent order soonest waiting =
    record { due = due; next = next; sent = sent; order = order; soonest = soonest; waiting = waiting }

abbrev pub releases_in : RunArrays → Releases
releases_in run = releases_of run.due run.next run.sent

abbrev pub packets_in : Numbers → RunArrays → Packets
packets_in numbers run = packets_of numbers.start run.due run.sent numbers.work

-- rule 4's choice so far: both ends of each placed link, the placed flows, a mark at each flow's number, and how many are placed
pub record Placing : Type 0 where
  pub from : List ℕ
  pub to : List ℕ
  pub chosen : List ℕ
  pub marked : List ℕ
  pub placed : ℕ

abbrev pub placing_of : List ℕ → List ℕ → List ℕ → List ℕ → ℕ → Placing
placing_of from to chosen marked placed = record { from = from; to = to; chosen = chosen; marked = marked; placed = placed }

-- a slot whose packets are placed: what rules 5 and 6 make its answer from
pub record SlotArrays : Type 0 where
  pub packets : Packets
  pub deadline : List ℕ
  pub links : Links
  pub chosen : List ℕ
  pub marked : List ℕ
  pub placed : ℕ
