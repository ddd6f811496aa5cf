pub mod Unordered
pub mod Theorems
pub mod Printed
