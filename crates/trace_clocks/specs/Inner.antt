-- Inner: what the pass over the lines keeps of the later ones.
use Rattle.std.specs.Prelude.{◌≡◌, Bool, ◌&&◌, ◌||◌, cond, ℕ, ◌+◌, ltb}
use Rattle.trace_events.specs.Inner.{side_later}
use Rattle.trace_clocks.specs.Types.{Side, Earliest}

-- of no line
abbrev pub none_kept : Earliest
none_kept = record { all = 4294967295; messages = 4294967295 }

-- the time rule puts one of the lines before line b
unfoldable pub kept_before : ℕ → Earliest → Side → Bool
kept_before delay kept b = b.handled && ltb (cond b.ordered kept.all kept.messages + delay) b.from

-- line a is kept besides
pub record WithLine (kept : Earliest) (a : Side) (more : Earliest) : Type 0 where
  pub before : (delay : ℕ) (b : Side) → kept_before delay more b ≡ (kept_before delay kept b || side_later delay a b)
