-- What the page says of the pairs of an accepted trace is in range. Assumes nothing.
use Prim.Native.Nat.{ℕ, ◌<◌, ◌≤◌}
use native.Mathlib.Omega.{arith}
use mathlib.Core.Path.{refl}
use mathlib.Core.List.{List, [], ◌∷◌, map, Memᴰ}
use lib.ListN.{length}
use Rattle.flow_table.specs.FlowTable.{effect_of, EffectInRange}
use Rattle.trace_events.specs.Events.{event_at}
use Rattle.trace_line.specs.Written.{EventInRange}
use Rattle.list_verdicts.specs.Kinds.{listed}
use Rattle.list_pairs.specs.List.{test, Pair, list_of}
use Rattle.list_pairs.proofs.Members.{pairs_in}
use Rattle.page_lines.specs.PairLines.{priority_of, mention_of, pair_line_of}
use Rattle.page_lines.specs.Inner.{PriorityInRange, LineInRange}
use Rattle.page_text.specs.Types.{Operation, TableOperation, Event, PairLine}
use Rattle.page_text.specs.Page.{said_of, pair_lines}

-- a priority, by what the operation does
priority_range : (o : Operation) → EffectInRange (effect_of o) → PriorityInRange (priority_of o)
priority_range Operation.Other h = tt
priority_range (Operation.Barrier w) h = tt
priority_range (Operation.Message w) h = tt
priority_range (Operation.Table w (TableOperation.Packet g p)) h = tt
priority_range (Operation.Table w (TableOperation.Add e)) h = h.0.priority
priority_range (Operation.Table w (TableOperation.AddChecked e)) h = h.0.priority
priority_range (Operation.Table w (TableOperation.ModifyStrict e)) h = h.0.priority
priority_range (Operation.Table w (TableOperation.Modify e)) h = h.0.priority
priority_range (Operation.Table w (TableOperation.DeleteStrict k)) h = h.priority
priority_range (Operation.Table w (TableOperation.Delete m)) h = tt

-- all lines are in range
abbrev pub AllInRange : List PairLine → Type 0
AllInRange [] = Unit {0}
AllInRange (l ∷ ls) = LineInRange l × AllInRange ls

module _ (es : List Event) (range : (i : ℕ) → EventInRange (event_at es i)) where
  pub said_range : (p : Pair) → p.lower < 256 → p.higher < 256 → LineInRange (said_of es p)
  unfolding pair_line_of mention_of
  said_range p a b = record {
    lower = a;
    higher = b;
    switch = (range p.lower).switch;
    lower_priority = priority_range (event_at es p.lower).operation (range p.lower).effect;
    higher_priority = priority_range (event_at es p.higher).operation (range p.higher).effect;
  }

  all_range : (ps : List Pair) → ((i j : ℕ) → Memᴰ (record { lower = i; higher = j }) ps → (i < 256) × (j < 256)) → AllInRange (map (said_of es) ps)
  all_range [] h = tt
  all_range (p ∷ ps) h =
      let q = h p.lower p.higher (Memᴰ.head refl) in
      (said_range p q.0 q.1, all_range ps (λ i j m. h i j (Memᴰ.tail m)))

  pub lines_range : (delay : ℕ) → length es ≤ 256 → AllInRange (pair_lines delay es)
  unfolding pair_lines
  lines_range delay few = all_range (list_of delay es) (λ i j m. let q = (pairs_in (test delay listed es) (length es) i j).0 m in (omega (arith, q.0, q.1), omega (arith, q.1)))
