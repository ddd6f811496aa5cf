pub mod Turns
pub mod Finding
pub mod AskingLaws
pub mod MaskLaws
pub mod PlanLaws
pub mod SlotLaws
pub mod StartLaws
pub mod Prepared
