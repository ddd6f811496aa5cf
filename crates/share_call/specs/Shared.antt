-- Document 01, "The share" and refusals 1 to 8, 54 and 55: what the share call makes of a trace.
use Rattle.std.specs.Prelude.{List, ℕ, Ok}
use Rattle.refusals.specs.Checks.{Checked, ◌▹◌}
use Rattle.trace_text.specs.TraceText.{read_trace}
use Rattle.list_pairs.specs.List.{counts_of}
use Rattle.share.specs.Share.{share_of}
use Rattle.share_call.specs.Types.{Share}

-- 1 to 8, 54, 55; else the share of the counts
unfoldable pub shared : ℕ → List ℕ → Checked Share
shared delay trace = read_trace delay trace ▹ λ es. Ok (share_of (counts_of delay es))
