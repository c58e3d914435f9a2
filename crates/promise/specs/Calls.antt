-- The states and the transmissions of a run of calls.
use mathlib.Core.List.{List}
use Prim.Native.Nat.{ℕ}
use Rattle.model.specs.declared.kinds.{State.{State}}
use Rattle.model.specs.declared.answers.{Send.{Send}}
use Rattle.document.specs.Machine.{Priority, sends_with}
use Rattle.promise.specs.Promise.{set_in}
use Rattle.promise.specs.RunStates.{state_at}

-- the state in which slot t begins, and what the slot sends
abbrev pub state_in : Priority → List ℕ → ℕ → State
state_in first text t = state_at first (set_in text) t

abbrev pub sent_in : Priority → List ℕ → ℕ → List Send
sent_in first text t = sends_with first (set_in text) (state_in first text t)
