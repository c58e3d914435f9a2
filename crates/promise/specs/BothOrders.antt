-- What a slot's choice guarantees is stated and proved once, for any strict total order of the flows (`SlotChoice`). Each order that the machine can
-- be told to use is one, so both machines have it.
use Rattle.model.specs.declared.kinds.{FlowSet.{FlowSet}, State.{State}, Order.{Order}, Order.TheVariants.{Deadline, Number}}
use Rattle.document.specs.{Delay.{ways}, Machine.{ready_at, clash_at, order_of, placed_with}}
use Rattle.promise.specs.{SlotChoice.{Ordering, SlotChoice}, DeadlineOrder.{deadline_order}, NumberOrder.{number_order}, RunStates.{choice}}

pub each_order : (by : Order) → Ordering (order_of by)
each_order Deadline = deadline_order
each_order Number = number_order

pub each_choice : (by : Order) (s : FlowSet) (st : State)
    → SlotChoice s.count (ways s) (order_of by s st) (clash_at s st) (ready_at s st) (placed_with (order_of by) s st)
each_choice by = choice (each_order by)
