-- A packet that is made within b slots is made within any larger number of slots.
use Rattle.std.specs.Prelude.{ℕ, ◌≤◌}
use Rattle.std.proofs.Common.{arith}
use Rattle.model.specs.declared.kinds.FlowSet.{FlowSet}
use Rattle.promise.specs.Promise.{SlotMachine, Made}

pub made_longer : (M : SlotMachine) (s : FlowSet) (k j b c : ℕ) → b ≤ c → Made M s k j b → Made M s k j c
made_longer M s k j b c h m =
    record {
      at = m.at;
      sent = m.sent;
      within = λ i l. let w = m.within i l in (w.0, omega arith);
      rising = m.rising;
    }
