-- What a sort of rows answers, where its `Err` is told as 16. Assumes nothing.
use Rattle.std.specs.Prelude.{Result, Ok, Err, IfOk, IsErrAnd, MatchResult}
use native.Mathlib.Omega.{arith}
use Prim.Native.Nat.{ℕ, ◌≤◌}
use mathlib.Core.List.{List}
use mathlib.Core.Path.{◌≡◌, refl}
use Rattle.refusals.specs.Checks.{Checked}
use Rattle.refusals.proofs.Checks.{handed_back}
use Rattle.rows.specs.Rows.{rows_of}
use Rattle.rows_sort.specs.Sorting.{sort_rows, Sorts}
use Rattle.tables_text.specs.Types.{Refusal, Row, Rows}
use Rattle.tables_text.specs.Inner.{sorted_rows, TablesOf}
use Rattle.tables_text.proofs.Sorting.{order_checked, twice_checked}

pub sort_told : (ls : List Row) (x : Result Rows ℕ) (n : ℕ) {r : Checked Rows} → Sorts x (sort_rows ls) → IfOk x (λ rows. rows.len ≤ n) → n ≤ 256
    → MatchResult x (λ rows. r ≡ Ok rows) (λ line. IsErrAnd r (λ q. q ≡ Refusal.KeyTwice line)) → TablesOf (sorted_rows ls) r
sort_told ls (Ok rows) n s few h e = rw (e, order_checked ls (rows_of rows) s) (record { answer = refl; few = omega arith })
sort_told ls (Err line) n s few h e = rw (handed_back e, twice_checked ls line s) (record { answer = refl; few = tt })
