pub mod TokenLaws
pub mod TraceLaws
pub mod Clocks
pub mod SideLaws
pub mod Precedes
pub mod SentOut
