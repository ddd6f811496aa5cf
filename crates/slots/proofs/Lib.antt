pub mod Held
pub mod StepLaws
