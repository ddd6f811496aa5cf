-- The types that this crate's definitions speak of, under one name each.
pub use Rattle.refusals.specs.declared.refusal.Refusal.{Refusal}
pub use Rattle.refusals.specs.declared.refused.Refused.{Refused}
pub use Rattle.call_answers.specs.declared.list.Counts.{Counts}
pub use Rattle.call_answers.specs.declared.share.Share.{Share}
pub use Rattle.exports_values.specs.declared.list.Listed.{Listed}
pub use Rattle.exports_values.specs.declared.normal.Normalised.{Normalised}
pub use Rattle.exports_values.specs.declared.page.Paged.{Paged}
pub use Rattle.exports_values.specs.declared.replayed.Replayed.{Replayed}
pub use Rattle.exports_values.specs.declared.share.Shared.{Shared}
pub use Rattle.exports_values.specs.declared.trials.Tried.{Tried}
