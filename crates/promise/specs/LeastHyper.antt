-- Request 2, theorem 1: the hyper-period of an accepted set is the least number that every period divides, since every period is above 0.
use mathlib.Core.{Path.{◌≡◌}, Bool.{true}}
use Rattle.model.specs.{declared.kinds.FlowSet.{FlowSet}, Refusals.{good}}
use Rattle.document.specs.Reader.{record_fault}
use Rattle.laws.specs.{Accepted.{accepted}, HyperPeriod.{PeriodsPositive, hyper_positive, hyper_divided, hyper_least}}
use Rattle.promise.specs.Repeated.{LeastCommon}

pub periods_positive : (s : FlowSet) → good (record_fault s).refusal ≡ true → PeriodsPositive s s.count
periods_positive s g k l = ((accepted s g).flow k l).period_pos

pub least_common : (s : FlowSet) → good (record_fault s).refusal ≡ true → LeastCommon s
least_common s g =
    let p = periods_positive s g in
    record { positive = hyper_positive s; divided = hyper_divided s p; least = hyper_least s p }
