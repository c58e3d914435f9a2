-- Demand 3: what a test of schedulability promises of a slot machine, for any test and any machine; document 01's two tests, and request 4's. It is said of
-- what the steps of the machine's run from the fresh state report. The second half says the same of the bytes that a C host gets.
use mathlib.Core.{Bool.{Bool, true}, List.{List, map}, Logic.{◌≢◌, ◌⊎◌}, Path.{◌≡◌}}
use Rattle.std.specs.Prelude.{ℕ, zero, suc, ◌+◌, ◌*◌, ◌/◌, ◌%◌, ◌^◌, ◌≤◌, ◌<◌, length, get_or, take, drop, replicate}
use Rattle.model.specs.declared.{answers.Send.{Send}, answers.SlotAnswer.{SlotAnswer}, answers.Stepped.{Stepped}, kinds.FlowSet.{FlowSet}, kinds.State.{State}}
use Rattle.model.specs.{Refusals.{good}, Sets.{flow_at, fresh_state, memb, used}}
use Rattle.document.specs.Reader.{record_fault, read_text}
use Rattle.document.specs.Delay.{ways, work_at, verdict_of, bounds_of}
use Rattle.model.specs.Limits.{most_channels, most_nodes, last_slot}
use Rattle.document.specs.Text.{lines, numbers_of}
use Rattle.document.specs.Machine.{Priority, ahead, lower, channels, no_send, release, step_with, step_of, run_with, run_of}
use Rattle.document.specs.Program.{state_length, state_bytes, send_numbers, send_lines, slot_state_with, slot_buffer_with}
use Rattle.document.specs.Fixed.{fixed_step, fixed_verdict_of, fixed_bounds_of}
use Rattle.document.specs.ForC.{verdict_for_c, bounds_for_c, slot_for_c_with, slot_for_c, fixed_verdict_for_c, fixed_bounds_for_c}

-- a slot machine answers a set and a state by a step
abbrev pub SlotMachine : Type 0
SlotMachine = FlowSet → State → Stepped

-- what slot t reports: the first step is from the fresh state, each later one from the state that the one before gave
unfoldable pub report : SlotMachine → FlowSet → ℕ → Stepped
report M s zero = M s fresh_state
report M s (suc t) = M s (report M s t).next

-- transmission p of a report
abbrev pub send : Stepped → ℕ → Send
send r p = get_or r.sent p no_send

-- a slot uses no more channels than the set has, only the set's own, no node twice and no channel twice
pub record Apart (s : FlowSet) (r : Stepped) : Type 0 where
  pub few : r.sends ≤ ways s
  pub own : (p : ℕ) → p < r.sends → memb (send r p).channel (channels s.map.0) ≡ true
  pub ends : (p : ℕ) → p < r.sends → (send r p).from ≢ (send r p).to
  pub nodes : (p q : ℕ) → p < q → q < r.sends → ((send r p).from ≢ (send r q).from) × ((send r p).from ≢ (send r q).to)
      × ((send r p).to ≢ (send r q).from) × ((send r p).to ≢ (send r q).to)
  pub once : (p q : ℕ) → p < q → q < r.sends → (send r p).channel ≢ (send r q).channel

-- x is transmission i of flow k in slot t: from node i / κ of its route to the next, as try i mod κ
pub record Is (s : FlowSet) (t k i : ℕ) (x : Send) : Type 0 where
  pub which : (x.slot.0 ≡ t) × (x.flow ≡ k) × (x.attempt ≡ i % (flow_at s k).tries)
  pub from : x.from ≡ get_or (flow_at s k).route (i / (flow_at s k).tries) 0
  pub to : x.to ≡ get_or (flow_at s k).route (i / (flow_at s k).tries + 1) 0

-- packet j of flow k has made all its C transmissions in the b slots from its release on, in route order: number i in slot `at i`
pub record Made (M : SlotMachine) (s : FlowSet) (k j b : ℕ) : Type 0 where
  pub at : ℕ → ℕ
  pub sent : (i : ℕ) → i < work_at s k → (p : ℕ) × (p < (report M s (at i)).sends) × Is s (at i) k i (send (report M s (at i)) p)
  pub within : (i : ℕ) → i < work_at s k → (release (flow_at s k) j ≤ at i) × (at i < release (flow_at s k) j + b)
  pub rising : (i h : ℕ) → i < h → h < work_at s k → at i < at h

-- the first n slots keep the promise, with these bounds
pub record Kept (M : SlotMachine) (s : FlowSet) (bound : ℕ → ℕ) (n : ℕ) : Type 0 where
  pub apart : (t : ℕ) → t < n → Apart s (report M s t)
  pub undropped : (t : ℕ) → t < n → (report M s t).drops ≡ 0
  pub made : (k j : ℕ) → k < s.count → release (flow_at s k) j + bound k ≤ n → Made M s k j (bound k)

-- a record as the code holds it: a map of 16 bits, and room for 17 nodes in each flow
abbrev pub Held : FlowSet → Type 0
Held s = (s.map.0 < 2 ^ most_channels) × ((k : ℕ) → k < s.count → length (flow_at s k).route ≡ most_nodes)

-- a test: which sets it admits, and in how many slots from its release on it promises a packet of flow k to be made
pub record Test : Type 0 where
  pub admits : FlowSet → Bool
  pub bound : FlowSet → ℕ → ℕ

-- on machine M, the set keeps the test's bounds if the test admits it, to the last slot that there is
abbrev pub Keeps : Test → SlotMachine → FlowSet → Type 0
Keeps test M s = test.admits s ≡ true → (n : ℕ) → n ≤ last_slot → Kept M s (test.bound s) n

-- The promise of one test, of every accepted set,
abbrev pub PromiseOf : Test → SlotMachine → Type 0
PromiseOf test M = (s : FlowSet) → Held s → good (record_fault (used s)).refusal ≡ true → Keeps test M (used s)

-- and of every text that the reader accepts.
abbrev pub TextPromiseOf : Test → SlotMachine → Type 0
TextPromiseOf test M = (text : List ℕ) → good (read_text text).fault.refusal ≡ true → Keeps test M (used (read_text text).set)

-- document 01's two tests, with the verdicts and the bounds that the contracts have
abbrev pub basic : Test
basic = record { admits = λ s. (verdict_of s).basic; bound = λ s k. (bounds_of s k).basic }

abbrev pub tightened : Test
tightened = record { admits = λ s. (verdict_of s).tightened; bound = λ s k. (bounds_of s k).tightened }

-- request 4's test, for the machine with fixed priority
abbrev pub fixed : Test
fixed = record { admits = λ s. (fixed_verdict_of s).admitted; bound = λ s k. (fixed_bounds_of s k).bound }

-- either of document 01's tests admits
abbrev pub Admitted : FlowSet → Type 0
Admitted s = ((verdict_of s).basic ≡ true) ⊎ ((verdict_of s).tightened ≡ true)

-- Demand 3: both of them keep their promise, of accepted sets
abbrev pub Promise : SlotMachine → Type 0
Promise M = PromiseOf basic M × PromiseOf tightened M

-- and of accepted texts.
abbrev pub TextPromise : SlotMachine → Type 0
TextPromise M = TextPromiseOf basic M × TextPromiseOf tightened M

-- Demand 3 for request 4's pair, of accepted sets and of accepted texts.
abbrev pub FixedPromise : Type 0
FixedPromise = PromiseOf fixed fixed_step × TextPromiseOf fixed fixed_step

-- What C calls, in the words of the contracts of `rembasuk_slot`, `rembasuk_verdict` and `rembasuk_bounds`, and of request 4's
-- `rembasuk_fixed_slot`, `rembasuk_fixed_verdict` and `rembasuk_fixed_bounds`.
-- A `send` line has at most 36 bytes: its word, a tab before each of its six numbers, which have at most 10, 2, 5, 5, 1 and 2 digits, and LF.
abbrev pub line_length : ℕ
line_length = 4 + 6 + (10 + 2 + 5 + 5 + 1 + 2) + 1

-- a slot has at most one line for each channel: 576 bytes
abbrev pub lines_length : ℕ
lines_length = most_channels * line_length

-- the set of a text
abbrev pub set_in : List ℕ → FlowSet
set_in text = used (read_text text).set

-- A host keeps 68 bytes, at first zeros, and calls once a slot, of a machine with some order of priority, on what the call before left there. Call t
-- is lent the buffer `lent t`, whatever it holds. These are the 68 bytes before call t,
unfoldable pub bytes_at : Priority → List ℕ → (ℕ → List ℕ) → ℕ → List ℕ
bytes_at first text lent zero = replicate state_length 0
bytes_at first text lent (suc t) = slot_state_with first (read_text text) (bytes_at first text lent t) (length (lent t))

-- this is what call t answers,
abbrev pub answer_at : Priority → List ℕ → (ℕ → List ℕ) → ℕ → SlotAnswer
answer_at first text lent t = slot_for_c_with first text (bytes_at first text lent t) (length (lent t))

-- and this its buffer afterwards.
abbrev pub buffer_at : Priority → List ℕ → (ℕ → List ℕ) → ℕ → List ℕ
buffer_at first text lent t = slot_buffer_with first (read_text text) (bytes_at first text lent t) (lent t)

-- the numbers of each line, as document 01 parts lines and fields and reads numbers
abbrev pub numbers_in : List ℕ → List (List ℕ)
numbers_in b = map numbers_of (lines b)

-- the transmissions of a report
abbrev pub sends_of : Stepped → List Send
sends_of r = take r.sends r.sent

-- Call t gives the report r. It is not refused and leaves r's next state; of its buffer as many bytes as it answers are the `send` lines of r, at
-- most 576, and the further ones stay. Read line by line, those bytes have the slot, flow, ends, try and channel of each transmission.
pub record Gives (first : Priority) (text : List ℕ) (lent : ℕ → List ℕ) (t : ℕ) (r : Stepped) : Type 0 where
  pub fault : ((answer_at first text lent t).refusal ≡ 0) × ((answer_at first text lent t).line ≡ 0)
  pub next : bytes_at first text lent (suc t) ≡ state_bytes r.next
  pub most : (answer_at first text lent t).length ≤ lines_length
  pub lines : take (answer_at first text lent t).length (buffer_at first text lent t) ≡ send_lines (sends_of r)
  pub further : drop (answer_at first text lent t).length (buffer_at first text lent t) ≡ drop (answer_at first text lent t).length (lent t)
  pub numbers : numbers_in (take (answer_at first text lent t).length (buffer_at first text lent t)) ≡ map send_numbers (sends_of r)

-- n calls are the first n slots of the machine's run: the 68 bytes are its state, and each call gives its slot's report.
pub record Runs (first : Priority) (text : List ℕ) (lent : ℕ → List ℕ) (n : ℕ) : Type 0 where
  pub state : bytes_at first text lent n ≡ state_bytes (run_with first (set_in text) n).last
  pub calls : (t : ℕ) → t < n → Gives first text lent t (report (step_with first) (set_in text) t)

-- The promise of one test for C, by what C is answered: whether the test admits, and the bound of a flow. Of every text that the reader accepts,
-- with 576 bytes or more lent to each call; where the test answers 1, the run whose lines the calls give keeps the bounds.
abbrev pub PromiseForCOf : Priority → (admits : List ℕ → ℕ) → (bound : List ℕ → ℕ → ℕ) → Type 0
PromiseForCOf first admits bound = (text : List ℕ) → good (read_text text).fault.refusal ≡ true
    → (lent : ℕ → List ℕ) → ((t : ℕ) → lines_length ≤ length (lent t)) → (n : ℕ) → n ≤ last_slot
    → Runs first text lent n × (admits text ≡ 1 → Kept (step_with first) (set_in text) (bound text) n)

-- Demand 3 for C: of both tests, by the verdict's and the bounds' call.
abbrev pub PromiseForC : Type 0
PromiseForC =
    PromiseForCOf ahead (λ text. (verdict_for_c text).basic) (λ text k. (bounds_for_c text k).basic)
    × PromiseForCOf ahead (λ text. (verdict_for_c text).tightened) (λ text k. (bounds_for_c text k).tightened)

-- Demand 3 for C of request 4's pair, by the calls of fixed priority.
abbrev pub FixedPromiseForC : Type 0
FixedPromiseForC = PromiseForCOf lower (λ text. (fixed_verdict_for_c text).admitted) (λ text k. (fixed_bounds_for_c text k).bound)

-- The lines tell the transmissions: where two slots of accepted texts have equal bytes, slot, flow, ends, try and channel of each are equal.
abbrev pub lines_in : List ℕ → ℕ → List ℕ
lines_in text t = send_lines (sends_of (report step_of (set_in text) t))

abbrev pub LinesTell : Type 0
LinesTell = (text other : List ℕ) → good (read_text text).fault.refusal ≡ true → good (read_text other).fault.refusal ≡ true
    → (t u : ℕ) → t < last_slot → u < last_slot → lines_in text t ≡ lines_in other u
    → map send_numbers (sends_of (report step_of (set_in text) t)) ≡ map send_numbers (sends_of (report step_of (set_in other) u))

-- And no fewer bytes will do: there is a text that the reader accepts and both tests admit, and a slot of its run in which a call with less room is
-- refused with 10.
pub record NoFewer : Type 0 where
  pub text : List ℕ
  pub read : good (read_text text).fault.refusal ≡ true
  pub admitted : ((verdict_for_c text).basic ≡ 1) × ((verdict_for_c text).tightened ≡ 1)
  pub slot : ℕ
  pub before_last : slot < last_slot
  pub refused : (room : ℕ) → room < lines_length → (slot_for_c text (state_bytes (run_of (set_in text) slot).last) room).refusal ≡ 10
