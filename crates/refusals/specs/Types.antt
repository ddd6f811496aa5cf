-- The declared types, under one name each.
pub use Rattle.refusals.specs.declared.refusal.Refusal.{Refusal}
pub use Rattle.refusals.specs.declared.refusal.Source.{Source}
pub use Rattle.refusals.specs.declared.refusal.Returned.{Returned}
pub use Rattle.refusals.specs.declared.refused.Refused.{Refused}
