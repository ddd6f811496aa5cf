-- Document 01, "The list": what the list call leaves in a buffer, byte by byte.
use Rattle.std.specs.Prelude.{◌≡◌, List, ℕ, ◌+◌, ◌*◌, ◌≤◌, length, get_or, Some, Ok}
use Rattle.std.specs.List.{slice_get}
use Rattle.refusals.specs.Checks.{written}
use Rattle.list_pairs.specs.List.{Pair, counts_of}
use Rattle.list_call.specs.Races.{list_races, list_answer, list_out}
use Rattle.list_meaning.specs.Types.{Event}

-- pair k of the list is the bytes 2k, its lower event, and 2k + 1, its higher event; bytes after the list are unchanged
pub record HasPairs (ps : List Pair) (old new : List ℕ) : Type 0 where
  pub size : length new ≡ length old
  pub pairs : (k : ℕ) (p : Pair) → slice_get ps k ≡ Some p → (get_or new (2 * k) 0 ≡ p.lower) × (get_or new (2 * k + 1) 0 ≡ p.higher)
  pub rest : (m : ℕ) → 2 * length ps ≤ m → get_or new m 0 ≡ get_or old m 0

-- the list call on a trace text and a buffer returns the four counts of these events and writes these pairs
pub record WritesList (delay : ℕ) (trace : List ℕ) (es : List Event) (ps : List Pair) (old : List ℕ) : Type 0 where
  pub returned : list_answer (list_races delay trace (length old)) ≡ Ok (counts_of delay es)
  pub buffer : HasPairs ps old (written (list_out (list_races delay trace (length old))) old)
