-- What is said of any machine's slots of a set, beyond the promise: the words of its own facts.
use Rattle.std.specs.Prelude.{◌≡◌, ◌≢◌, Bool, true, ℕ, ◌-◌, ◌≤◌, ◌<◌, eqb}
use Rattle.model.specs.declared.kinds.FlowSet.{FlowSet}
use Rattle.model.specs.declared.answers.Send.{Send}
use Rattle.model.specs.declared.answers.Stepped.{Stepped}
use Rattle.model.specs.Limits.{last_slot}
use Rattle.model.specs.Sums.{any_to}
use Rattle.model.specs.Sets.{flow_at}
use Rattle.document.specs.Delay.{work_at}
use Rattle.document.specs.Machine.{release_at, deadline_at}
use Rattle.laws.specs.SumLaws.{count}
use Rattle.promise.specs.Promise.{SlotMachine, report, send, Apart, Is}

-- a report has a transmission of flow k
abbrev pub has_flow : Stepped → ℕ → Bool
has_flow r k = any_to (λ p. eqb (send r p).flow k) r.sends

-- how often flow k was sent since the release of its packet, before slot t
abbrev pub sent_before : SlotMachine → FlowSet → ℕ → ℕ → ℕ
sent_before M s k t = count (λ u. has_flow (report M s u) k) (release_at (flow_at s k) t) (t - release_at (flow_at s k) t)

-- in slot t, x is the next transmission of a packet that is released, short, and before its deadline
pub record Next (M : SlotMachine) (s : FlowSet) (t : ℕ) (x : Send) : Type 0 where
  pub flow : x.flow < s.count
  pub released : release_at (flow_at s x.flow) t ≤ t
  pub due : t < deadline_at (flow_at s x.flow) t
  pub short : sent_before M s x.flow t < work_at s x.flow
  pub is : Is s t x.flow (sent_before M s x.flow t) x

-- The machine's own facts of a set, to the last slot there is: no slot uses a node or a channel twice; what it sends is the next transmission of a
-- packet; it sends no flow twice; and of two slots of one packet the later has the higher number.
pub record OwnFacts (M : SlotMachine) (s : FlowSet) : Type 0 where
  pub apart : (t : ℕ) → t < last_slot → Apart s (report M s t)
  pub next : (t p : ℕ) → t < last_slot → p < (report M s t).sends → Next M s t (send (report M s t) p)
  pub once : (t p q : ℕ) → t < last_slot → p < q → q < (report M s t).sends → (send (report M s t) p).flow ≢ (send (report M s t) q).flow
  pub rising : (k t u : ℕ) → t < u → release_at (flow_at s k) t ≡ release_at (flow_at s k) u → release_at (flow_at s k) t ≤ t
      → has_flow (report M s t) k ≡ true → sent_before M s k t < sent_before M s k u
