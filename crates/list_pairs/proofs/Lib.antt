pub mod Reading
pub mod PairLaws
pub mod Members
pub mod Theorems
pub mod Numbers
pub mod Sizes
pub mod Made
pub mod EachPair
