pub mod Leaving
pub mod OneOrder
pub mod EachOrder
pub mod Once
