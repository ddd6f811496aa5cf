-- The invariant: the digits from i on, onto the value so far, read as all of them do from the start.
use Rattle.std.proofs.Common.{◌≡◌, ◌+◌, ◌≤◌, drop}
use Rattle.text_numbers.specs.Number.{read_digits}
use Rattle.text_numbers.proofs.read.read_digits.Given as goal

abbrev pub invariant-loop-i : goal.invariant-loop-i
invariant-loop-i l = record {
  small : l.value ≤ l.max;
  same : read_digits l.max 0 l.rest l.at ≡ read_digits l.max l.value (drop l.i l.rest) (l.at + l.i);
}
