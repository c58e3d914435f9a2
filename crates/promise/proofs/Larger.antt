-- Larger bounds are kept where smaller ones are: of the first n slots larger bounds ask for fewer packets.
use mathlib.Core.{Bool.{true}, Path.{◌≡◌}}
use Rattle.std.specs.Prelude.{ℕ, ◌≤◌, ◌<◌}
use Rattle.std.proofs.Common.{arith}
use Rattle.model.specs.declared.kinds.FlowSet.{FlowSet}
use Rattle.promise.specs.Promise.{SlotMachine, Kept, Test, PromiseOf}
use Rattle.promise.proofs.MadeLonger.{made_longer}

pub kept_longer : (M : SlotMachine) (s : FlowSet) (b c : ℕ → ℕ) (n : ℕ) → ((k : ℕ) → k < s.count → b k ≤ c k) → Kept M s b n → Kept M s c n
kept_longer M s b c n h w =
    record {
      apart = w.apart;
      undropped = w.undropped;
      made = λ k j l i. let d = h k l in made_longer M s k j (b k) (c k) d (w.made k j l (omega arith));
    }

-- So a test that admits no more sets than another one, and gives them bounds no smaller, keeps its promise where the other one does.
pub promise_longer : (M : SlotMachine) (test other : Test) → ((s : FlowSet) → other.admits s ≡ true → test.admits s ≡ true)
    → ((s : FlowSet) (k : ℕ) → k < s.count → test.bound s k ≤ other.bound s k) → PromiseOf test M → PromiseOf other M
promise_longer M test other a b f s w g e n h = kept_longer M _ _ _ n (b _) (f s w g (a _ e) n h)
