-- The types that this crate's definitions speak of, under one name each.
pub use Rattle.trace_events.specs.declared.tokens.Tokens.{Tokens}
pub use Rattle.trace_tokens.specs.declared.NextToken.{NextToken}
