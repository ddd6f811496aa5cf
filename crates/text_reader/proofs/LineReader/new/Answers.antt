use mathlib.Core.Path.{refl}
use Rattle.text_reader.specs.Left.{lines_left}
use Rattle.text_reader.proofs.LineReader.new.Goals as goal

pub returns : goal.returns
unfolding lines_left
returns c = refl
