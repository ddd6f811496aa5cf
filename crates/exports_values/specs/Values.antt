-- What the calls for other programs answer: the answer of the call, as numbers.
use Rattle.std.specs.Prelude.{ℕ, List, [], Ok, Err}
use Rattle.exports_values.specs.Types.{Counts, Share, Listed, Normalised, Paged, Replayed, Shared, Tried}
use Rattle.refusals.specs.Checks.{Checked}
use Rattle.refusals.specs.Refused.{nothing_refused, refused_as}

-- the list call on a trace: the counts, or the refusal and counts of 0
unfoldable pub list_as : List ℕ → Checked Counts → Listed
list_as trace (Ok c) =
    record { refused = nothing_refused; pairs = c.pairs; ordered = c.ordered; commuting = c.commuting; listed = c.listed }
list_as trace (Err r) = record { refused = refused_as trace [] r; pairs = 0; ordered = 0; commuting = 0; listed = 0 }

-- the normaliser on tables: the length of the normal text, or the refusal and a length of 0
unfoldable pub normal_as : List ℕ → Checked ℕ → Normalised
normal_as tables (Ok n) = record { refused = nothing_refused; length = n }
normal_as tables (Err r) = record { refused = refused_as [] tables r; length = 0 }

-- the page of a trace: its length, or the refusal and a length of 0
unfoldable pub page_as : List ℕ → Checked ℕ → Paged
page_as trace (Ok n) = record { refused = nothing_refused; length = n }
page_as trace (Err r) = record { refused = refused_as trace [] r; length = 0 }

-- replay of a trace on tables: the lengths of the end tables and of the answers, or the refusal and lengths of 0
unfoldable pub replay_as : List ℕ → List ℕ → Checked (ℕ × ℕ) → Replayed
replay_as trace tables (Ok (m, n)) = record { refused = nothing_refused; tables = m; answers = n }
replay_as trace tables (Err r) = record { refused = refused_as trace tables r; tables = 0; answers = 0 }

-- the share of a trace: quotient, remainder and divisor, or the refusal and 0 for each
unfoldable pub share_as : List ℕ → Checked Share → Shared
share_as trace (Ok x) = record { refused = nothing_refused; quotient = x.quotient; remainder = x.remainder; divisor = x.divisor }
share_as trace (Err r) = record { refused = refused_as trace [] r; quotient = 0; remainder = 0; divisor = 0 }

-- orders of a trace tried on tables: how many, or the refusal and 0
unfoldable pub trials_as : List ℕ → List ℕ → Checked ℕ → Tried
trials_as trace tables (Ok n) = record { refused = nothing_refused; orders = n }
trials_as trace tables (Err r) = record { refused = refused_as trace tables r; orders = 0 }
