pub mod RecordedOrder
pub mod SameTexts
pub mod Buffers
pub mod Demand3
pub mod InRange
pub mod EndInRange
pub mod Rooms
pub mod TextsTell
