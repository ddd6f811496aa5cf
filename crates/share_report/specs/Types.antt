-- The types that this crate's definitions speak of, under one name each.
pub use Rattle.call_answers.specs.declared.share.Share.{Share}
