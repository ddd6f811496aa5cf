-- The types that this crate's definitions speak of, under one name each.
pub use Rattle.flow.specs.declared.exact.Exact.{Exact}
pub use Rattle.flow.specs.declared.prefix.Prefix.{Prefix}
pub use Rattle.flow.specs.declared.matching.Match.{Match}
pub use Rattle.flow.specs.declared.matching.Packet.{Packet}
pub use Rattle.flow.specs.declared.action.Action.{Action}
pub use Rattle.flow.specs.declared.entry.Key.{Key}
pub use Rattle.flow.specs.declared.entry.Entry.{Entry}
