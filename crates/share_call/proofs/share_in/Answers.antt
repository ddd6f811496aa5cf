use mathlib.Core.Path.{ap, ◌∙◌}
use Rattle.share.specs.Share.{share_of}
use Rattle.list_pairs.proofs.Made.{counts_are}
use borrow.Author.Rules.{rules}
use Rattle.share_call.proofs.share_in.Goals as goal

pub returns : goal.returns
returns c = c.share_of.ensures ∙ ap share_of (counts_are _ _ c.list_of-counts.result _ c.list_of-counts.ensures)
