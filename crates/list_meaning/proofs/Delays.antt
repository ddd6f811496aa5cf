-- A longer delay accepts no fewer traces, orders no more pairs (`ordered_less`), and lists every pair that the shorter lists
-- (`list_grows`). Assumes nothing.
use Rattle.std.specs.Prelude.{Ok}
use Prim.Native.Nat.{ℕ, ◌≤◌}
use mathlib.Core.Path.{◌≡◌}
use mathlib.Core.Logic.{◌↔◌, ⊎_elim, inl, inr}
use mathlib.Core.List.{List, Memᴰ}
use lib.ListN.{length}
use Rattle.happens_before.proofs.Direct.{chain_less}
use Rattle.list_verdicts.specs.Kinds.{Kind, ordered, listed}
use Rattle.list_pairs.specs.List.{Pair, of_kind, list_of}
use Rattle.trace_text.specs.TraceText.{read_trace}
use Rattle.trace_text.proofs.Accepted.{events_in_range, accepted_in_line_order, accepted_longer}
use Rattle.list_meaning.specs.Types.{Event}
use Rattle.list_meaning.specs.Meaning.{Ordered, OfKind}
use Rattle.list_meaning.proofs.OfKind.{kind_iff}

module _ (d e : ℕ) (l : d ≤ e) (es : List Event) (i j : ℕ) where
  -- two events that the longer delay orders are ordered under the shorter
  pub ordered_less : Ordered e es i j → Ordered d es i j
  ordered_less = ⊎_elim (λ c. inl (chain_less d e l es c)) (λ c. inr (chain_less d e l es c))

  fewer_ordered : OfKind e ordered es i j → OfKind d ordered es i j
  fewer_ordered (p, o) = (p, ordered_less o)

  more_listed : OfKind d listed es i j → OfKind e listed es i j
  more_listed (p, u, t) = (p, λ o. u (ordered_less o), t)

-- a trace that is accepted under a delay is so under a longer one
module _ (d e : ℕ) (l : d ≤ e) (s : List ℕ) (es : List Event) (h : read_trace d s ≡ Ok es) where
  pub longer_accepted : read_trace e s ≡ Ok es
  longer_accepted = accepted_longer d e s es l h

  shorter : (k : Kind) (i j : ℕ) → Memᴰ (record { lower = i; higher = j }) (of_kind d k es (length es)) ↔ OfKind d k es i j
  shorter k i j = kind_iff d es (accepted_in_line_order d s es h) i j (λ n. (events_in_range d s es h n).effect) k

  longer : (k : Kind) (i j : ℕ) → Memᴰ (record { lower = i; higher = j }) (of_kind e k es (length es)) ↔ OfKind e k es i j
  longer k i j = kind_iff e es (accepted_in_line_order e s es longer_accepted) i j (λ n. (events_in_range d s es h n).effect) k

  -- whose ordered pairs are among those of the shorter
  pub ordered_shrinks : (i j : ℕ) → Memᴰ (record { lower = i; higher = j }) (of_kind e ordered es (length es)) → Memᴰ (record { lower = i; higher = j }) (of_kind d ordered es (length es))
  ordered_shrinks i j m = (shorter ordered i j).1 (fewer_ordered d e l es i j ((longer ordered i j).0 m))

  -- and whose list has every pair of the shorter's
  pub list_grows : (i j : ℕ) → Memᴰ (record { lower = i; higher = j }) (list_of d es) → Memᴰ (record { lower = i; higher = j }) (list_of e es)
  list_grows i j m = (longer listed i j).1 (more_listed d e l es i j ((shorter listed i j).0 m))
