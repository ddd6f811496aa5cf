-- Document 01, "Commuting": what it means, the document's table as a test, and a table of at most one entry that tells apart the
-- two orders of each pair that does not commute. The test is exact (proofs/Theorems.antt).
use Rattle.std.specs.Prelude.{◌≡◌, Bool, true, ◌&&◌, ◌||◌, not, ℕ, ◌≤◌, eqb, length}
use Rattle.flow.specs.Matches.{fits, overlaps, within}
use Rattle.flow.specs.Entries.{same_key, same_action}
use Rattle.flow_table.specs.FlowTable.{Table, Sorted, TableInRange, after, answer}
use Rattle.commuting.specs.Types.{Match, Packet, Action, Key, Effect}

-- on the table t both orders leave the same table and give each event the same answer
pub record Agree (v w : Effect) (t : Table) : Type 0 where
  pub tables : after w (after v t) ≡ after v (after w t)
  pub first : answer v (after w t) ≡ answer v t
  pub second : answer w (after v t) ≡ answer w t

-- two events commute if they agree on every finite table
abbrev pub Commute : Effect → Effect → Type 0
Commute v w = (t : Table) → Sorted t → Agree v w t

-- ---- the document's table, a row each; 1 and 2 as named left and right
-- pkt, any write: the packet doesn't fit the match
abbrev pub pkt_write : Packet → Match → Bool
pkt_write p m = not (fits m p)

-- add, add: keys differ or actions equal
abbrev pub add_add : Key → Action → Key → Action → Bool
add_add j a k b = not (same_key j k) || same_action a b

-- add, dels: keys differ
abbrev pub add_dels : Key → Key → Bool
add_dels j k = not (same_key j k)

-- add, deln: 1 not within 2
abbrev pub add_deln : Key → Match → Bool
add_deln j m = not (within j.pattern m)

-- add, modn: 1 not within 2, or same key and action
abbrev pub add_modn : Key → Action → Key → Action → Bool
add_modn j a k b = not (within j.pattern k.pattern) || (same_key j k && same_action a b)

-- addc with add, addc or dels: priorities differ or no overlap
abbrev pub addc_other : Key → Key → Bool
addc_other j k = not (eqb j.priority k.priority) || not (overlaps j.pattern k.pattern)

-- addc, modn: 1 not within 2, and (priorities differ or no overlap)
abbrev pub addc_modn : Key → Key → Bool
addc_modn j k = not (within j.pattern k.pattern) && addc_other j k

-- addc, deln; modn, deln: no overlap
abbrev pub apart_deln : Key → Match → Bool
apart_deln j m = not (overlaps j.pattern m)

-- modn, dels: 2 not within 1
abbrev pub modn_dels : Key → Key → Bool
modn_dels j k = not (within k.pattern j.pattern)

-- modn, modn: no overlap; or equal actions and neither within the other; or same key and action
abbrev pub modn_modn : Key → Action → Key → Action → Bool
modn_modn j a k b =
    not (overlaps j.pattern k.pattern)
    || ((same_action a b && (not (within j.pattern k.pattern) && not (within k.pattern j.pattern)))
    || (same_key j k && same_action a b))

-- which row is for which pair, both ways round; pkt with pkt and delete with delete always commute
unfoldable pub commutes : Effect → Effect → Bool
commutes Effect.Idle w = true
commutes (Effect.Pkt p) Effect.Idle = true
commutes (Effect.Pkt p) (Effect.Pkt q) = true
commutes (Effect.Pkt p) (Effect.Add k b) = pkt_write p k.pattern
commutes (Effect.Pkt p) (Effect.Addc k b) = pkt_write p k.pattern
commutes (Effect.Pkt p) (Effect.Modn k b) = pkt_write p k.pattern
commutes (Effect.Pkt p) (Effect.Dels k) = pkt_write p k.pattern
commutes (Effect.Pkt p) (Effect.Deln m) = pkt_write p m
commutes (Effect.Add j a) Effect.Idle = true
commutes (Effect.Add j a) (Effect.Pkt p) = pkt_write p j.pattern
commutes (Effect.Add j a) (Effect.Add k b) = add_add j a k b
commutes (Effect.Add j a) (Effect.Addc k b) = addc_other k j
commutes (Effect.Add j a) (Effect.Modn k b) = add_modn j a k b
commutes (Effect.Add j a) (Effect.Dels k) = add_dels j k
commutes (Effect.Add j a) (Effect.Deln m) = add_deln j m
commutes (Effect.Addc j a) Effect.Idle = true
commutes (Effect.Addc j a) (Effect.Pkt p) = pkt_write p j.pattern
commutes (Effect.Addc j a) (Effect.Add k b) = addc_other j k
commutes (Effect.Addc j a) (Effect.Addc k b) = addc_other j k
commutes (Effect.Addc j a) (Effect.Modn k b) = addc_modn j k
commutes (Effect.Addc j a) (Effect.Dels k) = addc_other j k
commutes (Effect.Addc j a) (Effect.Deln m) = apart_deln j m
commutes (Effect.Modn j a) Effect.Idle = true
commutes (Effect.Modn j a) (Effect.Pkt p) = pkt_write p j.pattern
commutes (Effect.Modn j a) (Effect.Add k b) = add_modn k b j a
commutes (Effect.Modn j a) (Effect.Addc k b) = addc_modn k j
commutes (Effect.Modn j a) (Effect.Modn k b) = modn_modn j a k b
commutes (Effect.Modn j a) (Effect.Dels k) = modn_dels j k
commutes (Effect.Modn j a) (Effect.Deln m) = apart_deln j m
commutes (Effect.Dels j) Effect.Idle = true
commutes (Effect.Dels j) (Effect.Pkt p) = pkt_write p j.pattern
commutes (Effect.Dels j) (Effect.Add k b) = add_dels k j
commutes (Effect.Dels j) (Effect.Addc k b) = addc_other k j
commutes (Effect.Dels j) (Effect.Modn k b) = modn_dels k j
commutes (Effect.Dels j) (Effect.Dels k) = true
commutes (Effect.Dels j) (Effect.Deln m) = true
commutes (Effect.Deln m) Effect.Idle = true
commutes (Effect.Deln m) (Effect.Pkt p) = pkt_write p m
commutes (Effect.Deln m) (Effect.Add k b) = add_deln k m
commutes (Effect.Deln m) (Effect.Addc k b) = apart_deln k m
commutes (Effect.Deln m) (Effect.Modn k b) = apart_deln k m
commutes (Effect.Deln m) (Effect.Dels k) = true
commutes (Effect.Deln m) (Effect.Deln n) = true

abbrev pub at : ℕ → Match → Key
at n m = record { priority = n; pattern = m }

-- a table in order and in range, of at most one entry, that tells two events' orders apart
pub record Told (v w : Effect) (t : Table) : Type 0 where
  pub sorted : Sorted t
  pub in_range : TableInRange t
  pub small : length t ≤ 1
  pub apart : Agree v w t → ⊥
