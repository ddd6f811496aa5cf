pub mod Ranges
pub mod Turns
pub mod Putting
pub mod Sizes
pub mod Lines
pub mod Unique
pub mod Inside
pub mod CountColumns
