-- Laws of the pairs, of their counts and of their bytes. Assumes nothing.
use Prim.Native.Nat.{ℕ, ◌+◌, ◌*◌, ◌<◌, ◌≤◌}
use native.Mathlib.Numerals.{add-one}
use native.Mathlib.Omega.{arith}
use mathlib.Core.Path.{◌≡◌, refl, sym, ap, ◌∙◌}
use mathlib.Core.Bool.{Bool, true, false, not, ◌&&◌, cond}
use mathlib.Core.List.{List, [], ◌∷◌, ◌++◌}
use lib.Dec.{ltb}
use lib.ListN.{length}
use lib.Seq.{sets}
use borrow.Author.Tests.{lt-ltb, le-ltb}
use Rattle.basics.proofs.Gathered.{gather_none, gather_most, gather_more, only_most, size_only}
use Rattle.text_numbers.specs.Inner.{Put}
use Rattle.text_numbers.proofs.Writing.{put_then}
use Rattle.flow_table.specs.FlowTable.{effect_of}
use Rattle.commuting.specs.Commuting.{commutes}
use Rattle.list_verdicts.specs.Kinds.{paired, Kind, is_kind, pairs, ordered, commuting, listed}
use Rattle.trace_events.specs.Events.{event_at}
use Rattle.happens_before.specs.Causality.{before}
use Rattle.list_pairs.specs.Types.{Operation, Event, Counts, Verdict}
use Rattle.list_pairs.specs.List.{test, Pair, cell, pairs_where, of_kind, pair_bytes, counts_of}
use Rattle.basics.specs.Searches.{only, gather, size}
use Rattle.list_verdicts.specs.Inner.{verdict_of}
use Rattle.call_answers.specs.Inner.{Small}
use Rattle.list_pairs.specs.Inner.{counts, count_of}

-- ---- a row
-- the pairs of a kind whose lower event is i and whose higher is below n
abbrev pub pairs_of : (delay : ℕ) → Kind → List Event → ℕ → ℕ → List Pair
pairs_of delay k es i n = gather (cell (test delay k es) i) n

-- nothing stands at or left of i
pub row_start : (p : ℕ → ℕ → Bool) (i : ℕ) → gather (cell p i) (i + 1) ≡ []
row_start p i = gather_none (cell p i) (i + 1) (λ j l. simp (le-ltb i j (omega arith)))

pub row_most : (p : ℕ → ℕ → Bool) (i n : ℕ) → length (gather (cell p i) n) ≤ n
row_most p i n = omega (arith, gather_most (cell p i) 1 (λ j. only_most {A = Pair} (ltb i j && p i j) (record { lower = i; higher = j })) n)

-- right of i a place counts where the test holds
row_more : (p : ℕ → ℕ → Bool) (i j : ℕ) → i < j → length (gather (cell p i) (j + 1)) ≡ length (gather (cell p i) j) + size (p i j)
row_more p i j l = gather_more (cell p i) j ∙ ap (λ (x : ℕ). length (gather (cell p i) j) + x) (simp (lt-ltb i j l) (size_only (p i j) _))

row_next : (p : ℕ → ℕ → Bool) (i j : ℕ) (t : Bool) → i < j → t ≡ p i j → gather (cell p i) (j + 1) ≡ gather (cell p i) j ++ only t (record { lower = i; higher = j })
row_next p i j t l e = simp (add-one, lt-ltb i j l, e)

-- ---- bytes
bytes_append : (a b : List Pair) → pair_bytes (a ++ b) ≡ pair_bytes a ++ pair_bytes b
bytes_append [] b = refl
bytes_append (p ∷ a) b = ap (λ (r : List ℕ). p.lower ∷ p.higher ∷ r) (bytes_append a b)

pub bytes_length : (a : List Pair) → length (pair_bytes a) ≡ 2 * length a
bytes_length [] = refl
bytes_length (p ∷ a) = omega (arith, bytes_length a)

-- the bytes of a list of pairs, and then those of another
write_more : (a b : List Pair) (l : List ℕ) (s at : ℕ) → at ≡ s + 2 * length a → sets (sets l s (pair_bytes a)) at (pair_bytes b) ≡ sets l s (pair_bytes (a ++ b))
write_more a b l s at e =
    let p : Put (pair_bytes a) s l at (sets l s (pair_bytes a)) = record { after = e ∙ ap (λ (n : ℕ). s + n) (sym (bytes_length a)); bytes = refl } in
    let q : Put (pair_bytes b) at (sets l s (pair_bytes a)) (at + length (pair_bytes b)) (sets (sets l s (pair_bytes a)) at (pair_bytes b)) = record { after = refl; bytes = refl } in
    (put_then p q).bytes ∙ ap (sets l s) (sym (bytes_append a b))

-- ---- arms of a match on a verdict
pub counted_arm : (c r : Counts) {v form : Verdict} → v ≡ form
    → r.pairs ≡ c.pairs + size (counts pairs form) → r.ordered ≡ c.ordered + size (counts ordered form)
    → r.commuting ≡ c.commuting + size (counts commuting form) → r.listed ≡ c.listed + size (counts listed form)
    → (k : Kind) → count_of k r ≡ count_of k c + size (counts k v)
counted_arm c r e p o m l pairs = rw e p
counted_arm c r e p o m l ordered = rw e o
counted_arm c r e p o m l commuting = rw e m
counted_arm c r e p o m l listed = rw e l

pub put_arm : (old : List ℕ) (at : ℕ) (p : Pair) {l : List ℕ} {v form : Verdict} → v ≡ form → l ≡ sets old at (pair_bytes (only (counts listed form) p)) → l ≡ sets old at (pair_bytes (only (counts listed v) p))
put_arm old at p e h = h ∙ ap (λ (x : Verdict). sets old at (pair_bytes (only (counts listed x) p))) (sym e)

-- ---- the counts
-- where every count is small, they are
pub small_of : (c : Counts) → ((k : Kind) → count_of k c ≤ 65535) → Small c
small_of c h = record { pairs_small = h pairs; ordered_small = h ordered; commuting_small = h commuting; listed_small = h listed }

-- the rows below i
abbrev pub rows_below : (delay : ℕ) → Kind → List Event → ℕ → ℕ → List Pair
rows_below delay k es n i = gather (λ m. pairs_of delay k es m n) i

pub below_most : (delay : ℕ) (k : Kind) (es : List Event) (n i : ℕ) → n ≤ 256 → length (rows_below delay k es n i) ≤ i * 256
below_most delay k es n i h = gather_most (λ m. pairs_of delay k es m n) 256 (λ m. omega (arith, row_most (test delay k es) m n)) i

-- ---- verdicts
abbrev kind_of : Kind → Bool → Bool → Bool → Bool
kind_of pairs p h m = p
kind_of ordered p h m = p && h
kind_of commuting p h m = p && (not h && m)
kind_of listed p h m = p && (not h && not m)

-- what a verdict counts for
judged : (k : Kind) (p h m : Bool) → counts k (cond p (cond h Verdict.Ordered (cond m Verdict.Commuting Verdict.Listed)) Verdict.Unpaired) ≡ kind_of k p h m
judged pairs true true m = refl
judged pairs true false true = refl
judged pairs true false false = refl
judged pairs false h m = refl
judged ordered true true m = refl
judged ordered true false true = refl
judged ordered true false false = refl
judged ordered false h m = refl
judged commuting true true m = refl
judged commuting true false true = refl
judged commuting true false false = refl
judged commuting false h m = refl
judged listed true true m = refl
judged listed true false true = refl
judged listed true false false = refl
judged listed false h m = refl

verdict_counts : (k : Kind) (o p : Operation) (h : Bool) → counts k (verdict_of o p h) ≡ is_kind k o p h
unfolding verdict_of
verdict_counts k o p h = judged k (paired o p) h (commutes (effect_of o) (effect_of p)) ∙ named k
  where
    named : (k : Kind) → kind_of k (paired o p) h (commutes (effect_of o) (effect_of p)) ≡ is_kind k o p h
    named pairs = refl
    named ordered = refl
    named commuting = refl
    named listed = refl

module _ (delay : ℕ) (es : List Event) (i j : ℕ) {o : Bool} {v : Verdict} (l : i < j) (e : o ≡ before delay es i j)
    (verdict : v ≡ verdict_of (event_at es i).operation (event_at es j).operation o) where
  -- what the verdict says of lines i and j
  tested : (k : Kind) → counts k v ≡ test delay k es i j
  unfolding test
  tested k =
      ap (counts k) verdict
      ∙ verdict_counts k (event_at es i).operation (event_at es j).operation o
      ∙ ap (is_kind k (event_at es i).operation (event_at es j).operation) e

  -- a turn of the pass over row i: a count
  pub count_turn : (k : Kind) (x y z : ℕ) → x ≡ y + size (counts k v) → y ≡ z + length (pairs_of delay k es i j) → x ≡ z + length (pairs_of delay k es i (j + 1))
  count_turn k x y z xy yz = omega (arith, row_more (test delay k es) i j l, ap size (tested k))

  -- and the bytes, put after those of the list so far
  pub bytes_turn : (old out now : List ℕ) (s at : ℕ) → at ≡ s + length (pairs_of delay listed es i j) → out ≡ sets old (2 * s) (pair_bytes (pairs_of delay listed es i j))
      → now ≡ sets out (2 * at) (pair_bytes (only (counts listed v) (record { lower = i; higher = j })))
      → now ≡ sets old (2 * s) (pair_bytes (pairs_of delay listed es i (j + 1)))
  bytes_turn old out now s at ha ho hn =
      hn
      ∙ ap (λ (w : List ℕ). sets w (2 * at) (pair_bytes (only (counts listed v) (record { lower = i; higher = j })))) ho
      ∙ write_more (pairs_of delay listed es i j) (only (counts listed v) (record { lower = i; higher = j })) old (2 * s) (2 * at) (omega arith)
      ∙ ap (λ (ps : List Pair). sets old (2 * s) (pair_bytes ps)) (sym (row_next (test delay listed es) i j (counts listed v) l (tested listed)))

-- ---- all rows
pub below_count : (delay : ℕ) (k : Kind) (es : List Event) (n i : ℕ) (x y : ℕ) → x ≡ y + length (pairs_of delay k es i n) → y ≡ length (rows_below delay k es n i) → x ≡ length (rows_below delay k es n (i + 1))
below_count delay k es n i x y xy ys = omega (arith, gather_more (λ m. pairs_of delay k es m n) i)

pub below_bytes : (delay : ℕ) (es : List Event) (n i : ℕ) (old out now : List ℕ) (at : ℕ) → at ≡ length (rows_below delay listed es n i) → out ≡ sets old 0 (pair_bytes (rows_below delay listed es n i))
    → now ≡ sets out (2 * at) (pair_bytes (pairs_of delay listed es i n)) → now ≡ sets old 0 (pair_bytes (rows_below delay listed es n (i + 1)))
below_bytes delay es n i old out now at ha ho hn =
    hn
    ∙ ap (λ (w : List ℕ). sets w (2 * at) (pair_bytes (pairs_of delay listed es i n))) ho
    ∙ write_more (rows_below delay listed es n i) (pairs_of delay listed es i n) old 0 (2 * at) (omega arith)
    ∙ ap (λ (m : ℕ). sets old 0 (pair_bytes (rows_below delay listed es n m))) (sym (add-one i))

pub all_rows : (delay : ℕ) (k : Kind) (es : List Event) (n : ℕ) → rows_below delay k es n n ≡ of_kind delay k es n
unfolding pairs_where
all_rows delay k es n = refl

-- counts that are those of each kind
pub counted : (delay : ℕ) (es : List Event) (c : Counts) → ((k : Kind) → count_of k c ≡ length (of_kind delay k es (length es))) → c ≡ counts_of delay es
unfolding counts_of
counted delay es c h = λ m. record { pairs = h pairs m; ordered = h ordered m; commuting = h commuting m; listed = h listed m }
