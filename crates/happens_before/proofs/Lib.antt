pub mod Chains
pub mod Direct
pub mod Barriers
pub mod RowLaws
pub mod SideNotes
pub mod SearchStart
pub mod Lacking
