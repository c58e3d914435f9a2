pub mod Margins
pub mod PlanOfReading
pub mod RunSlotBySlot
pub mod BoundText
pub mod PlanInBuffer
pub mod PlanLength
pub mod Told
