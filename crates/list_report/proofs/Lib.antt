pub mod Refused
pub mod Sizes
pub mod Theorems
pub mod Printed
