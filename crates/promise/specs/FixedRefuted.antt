-- Request 4's sets, and its test with another count of packets.
use Rattle.std.specs.Prelude.{cond, List, [], ◌∷◌, ◌++◌, ℕ, zero, suc, ◌+◌, ◌-◌, ◌*◌, ◌/◌, get_or}
use Prim.Native.String as string
use Rattle.model.specs.declared.kinds.FlowSet.{FlowSet}
use Rattle.model.specs.{Sums.{sum_to}, Sets.{flow_at}}
use Rattle.document.specs.Delay.{ways, period, deadline, work_at, joined, conflict_work, admits}
use Rattle.document.specs.Fixed.{rounded_up, some_over}
use Rattle.promise.specs.Promise.{Test}

-- the request's X1, X2, X4 and X5
abbrev pub x1 : string.String
x1 = "set\t1\nflow\t10\t10\t0\t1\t1\t2\t3\nflow\t10\t2\t0\t1\t4\t5\n"

abbrev pub x2 : string.String
x2 = "set\t1\nflow\t10\t2\t0\t1\t4\t5\nflow\t10\t10\t0\t1\t1\t2\t3\n"

abbrev pub x4 : string.String
x4 = "set\t7\nflow\t24\t2\t0\t2\t1\t2\nflow\t4\t4\t0\t2\t2\t3\nflow\t24\t4\t2\t1\t3\t4\n"

abbrev pub x5 : string.String
x5 = "set\t1\nflow\t3\t2\t1\t1\t1\t2\nflow\t2\t2\t3\t1\t2\t3\n"

-- The request's test with another n, the number of packets of l that count against k, and nothing else changed; bs are the bounds of the flows
-- below k.
abbrev pub Packets : Type 0
Packets = FlowSet → List ℕ → ℕ → ℕ → ℕ

abbrev pub bound_by : Packets → FlowSet → List ℕ → ℕ → ℕ
bound_by n s bs k =
    joined (work_at s k) (sum_to (λ l. n s bs k l * conflict_work (flow_at s k) (flow_at s l)) k) (sum_to (λ l. n s bs k l * work_at s l) k) (ways s)

unfoldable pub bounds_by : Packets → FlowSet → ℕ → List ℕ
bounds_by n s zero = []
bounds_by n s (suc k) = bounds_by n s k ++ (cond (some_over s (bounds_by n s k) k) 0 (bound_by n s (bounds_by n s k) k) ∷ [])

unfoldable pub counting : Packets → Test
counting n = record { admits = λ s. admits s (bound s); bound = bound }
  where
    bound : FlowSet → ℕ → ℕ
    bound s k = get_or (bounds_by n s s.count) k 0

-- n without the bound of l, and n rounded down
abbrev pub without_bound : Packets
without_bound s bs k l = rounded_up (deadline s k - 1) (period s l)

abbrev pub rounded_down : Packets
rounded_down s bs k l = (deadline s k + get_or bs l 0 - 1) / period s l
