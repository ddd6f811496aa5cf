pub mod TokenChecks
pub mod TokenMeaning
pub mod Accepted
pub mod Refused
