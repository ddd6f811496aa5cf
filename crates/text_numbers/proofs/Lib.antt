pub mod Readers
pub mod Keys
pub mod Print
pub mod Numbers
pub mod HexLaws
pub mod Writing
pub mod Format
pub mod Words
