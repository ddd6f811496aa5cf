-- Document 01, "Many orders": what `replay_orders` prints.
use Rattle.std.specs.Prelude.{List, [], ◌∷◌, ◌++◌, ℕ, ◌+◌}
use Rattle.basics.specs.Text.{bytes}
use Rattle.refusals_text.specs.Report.{key_number}

-- `order=0 result=2`
unfoldable pub result_line : ℕ → ℕ → List ℕ
result_line order result = key_number (bytes "order=") order ++ key_number (bytes " result=") result ++ bytes "\n"

-- a line for each result, the orders numbered from k on
unfoldable pub result_lines : ℕ → List ℕ → List ℕ
result_lines k [] = []
result_lines k (b ∷ bs) = result_line k b ++ result_lines (k + 1) bs
