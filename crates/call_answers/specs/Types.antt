-- The declared types, under one name each.
pub use Rattle.call_answers.specs.declared.list.Counts.{Counts}
pub use Rattle.call_answers.specs.declared.share.Share.{Share}
