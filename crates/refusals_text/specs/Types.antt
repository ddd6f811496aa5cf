-- The types that this crate's definitions speak of, under one name each.
pub use Rattle.refusals.specs.declared.refusal.Refusal.{Refusal}
pub use Rattle.refusals.specs.declared.refusal.Source.{Source}
pub use Rattle.refusals.specs.declared.refusal.Returned.{Returned}
