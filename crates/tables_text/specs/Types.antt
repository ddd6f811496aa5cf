-- The types that this crate's definitions speak of, under one name each.
pub use Rattle.flow.specs.declared.entry.Entry.{Entry}
pub use Rattle.refusals.specs.declared.refusal.Refusal.{Refusal}
pub use Rattle.rows.specs.declared.row.Row.{Row}
pub use Rattle.rows.specs.declared.row.Rows.{Rows}
pub use Rattle.text_lines.specs.declared.limits.Limit.{Limit}
