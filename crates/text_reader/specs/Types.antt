-- The types that this crate's definitions speak of, under one name each.
pub use Rattle.text_reader.specs.declared.LineReader.{LineReader}
