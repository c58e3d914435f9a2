pub mod BeforeStep
pub mod StateBytes
pub mod StepWritten
pub mod FlowBeyondLast
pub mod AfterStep
pub mod SlotIsStep
pub mod TableRows
pub mod OfReading
