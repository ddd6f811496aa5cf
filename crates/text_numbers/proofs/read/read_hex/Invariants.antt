-- The invariant: the digits from there on, onto the value of those before, read as all eight do from the start.
use Rattle.std.proofs.Common.{◌≡◌, ◌+◌, ◌-◌, ◌<◌, ◌^◌}
use Rattle.text_numbers.specs.Number.{read_hex_digits, read_hex}
use Rattle.text_numbers.proofs.read.read_hex.Given as goal

abbrev pub invariant-loop-b : goal.invariant-loop-b
invariant-loop-b l = record {
  fits : l.value < 16 ^ l.b-index;
  same : read_hex l.s l.at ≡ read_hex_digits (8 - l.b-index) l.value l.s (l.at + l.b-index);
}
