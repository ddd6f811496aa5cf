pub mod Writing
pub mod Looking
pub mod Assigning
pub mod StepEnd
pub mod RunLaws
pub mod Comparing
pub mod SameEnds
