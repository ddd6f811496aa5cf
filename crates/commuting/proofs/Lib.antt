pub mod Sound
pub mod Exact
pub mod Theorems
pub mod Marked
pub mod Footprints
